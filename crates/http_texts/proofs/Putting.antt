-- Texts put behind what waits, one after the other.
use Rattle.std.proofs.Common.{◌≡◌, ◌∙◌, ◌<◌, ℕ, ◌==◌, Bool, true, false, cond, List, [], ◌++◌, length}
use Rattle.std.proofs.Common.{refl, sym, ap, arith, append_assoc, append-nil, length-append, subst, inl, inr}
use Rattle.std.specs.Prelude.{◌&&◌, not}
use Rattle.std.proofs.lemmas.Bool.Decides.{nat_tests}
use Rattle.base_streams.specs.Streams.{Stream}
use Rattle.http_bodies.specs.declared.fault.Fault.{Fault}
use Rattle.http_bodies.specs.declared.pipe.Pipe.{Pipe}
use Rattle.http_bodies.proofs.Emitting.{emits_none, emits_trans, emits_stops, stops_more, stops_as}
use Rattle.http_bodies.specs.Texts.{WaitsBehind}
use Rattle.http_bodies.specs.declared.outbox.TheConstants.{OUTBOX_BYTES}
use Rattle.http_texts.specs.Emissions.{Sends, Puts, Halts}

pub sends_trans : {p q r : Pipe} {a b c : Stream} {first second : List ℕ} → Sends p q a b first → Sends q r b c second → Sends p r a c (first ++ second)
sends_trans x y = record { emits = emits_trans x.emits y.emits; inbox = y.inbox ∙ x.inbox }

pub sends_halts : {p q r : Pipe} {a b c : Stream} {first second : List ℕ} {fault : Fault} → Sends p q a b first → Halts q r b c second fault
    → Halts p r a c (first ++ second) fault
sends_halts {second = second} x y = record { stops = emits_stops second x.emits y.stops; inbox = y.inbox ∙ x.inbox }

pub sends_as : {p q : Pipe} {a b : Stream} {text same : List ℕ} → text ≡ same → Sends p q a b text → Sends p q a b same
sends_as {p} {q} {a} {b} e x = subst (λ (l : List ℕ). Sends p q a b l) e x

waits_trans : {a b c : Stream} (p q r first second : List ℕ) → WaitsBehind a b p q first → WaitsBehind b c q r second → WaitsBehind a c p r (first ++ second)
waits_trans p q r first second x y = elim x [
  | inr full ↦ inr (omega (arith, full, length-append p first, length-append p (first ++ second), length-append first second))
  | inl kept ↦
      elim y [
        | inl more ↦ inl (more.0 ∙ kept.0, more.1 ∙ ap (λ l. l ++ second) kept.1 ∙ append_assoc p first second)
        | inr full ↦
            inr (subst (λ l. OUTBOX_BYTES < length l) (ap (λ l. l ++ second) kept.1 ∙ append_assoc p first second) full)
      ]
]

pub puts_none : (p : Pipe) (w : Stream) → Puts p p w w []
puts_none p w = record {
  sends = record { emits = emits_none w p.turns p.outbox; inbox = refl };
  late = inl (refl, sym (append-nil p.outbox));
}

pub puts_trans : {p q r : Pipe} {a b c : Stream} {first second : List ℕ} → Puts p q a b first → Puts q r b c second → Puts p r a c (first ++ second)
puts_trans {p} {q} {r} {first = first} {second = second} x y = record {
  sends = sends_trans x.sends y.sends;
  late = waits_trans p.outbox q.outbox r.outbox first second x.late y.late;
}

pub puts_halts : {p q r : Pipe} {a b c : Stream} {first second : List ℕ} {fault : Fault} → Puts p q a b first → Halts q r b c second fault
    → Halts p r a c (first ++ second) fault
puts_halts x y = sends_halts x.sends y

-- more was to follow
pub halts_front : {p q : Pipe} {a b : Stream} {first : List ℕ} {fault : Fault} (more : List ℕ) → Halts p q a b first fault → Halts p q a b (first ++ more) fault
halts_front {p} {first = first} more x = record { stops = stops_as (append_assoc p.outbox first more) (stops_more more x.stops); inbox = x.inbox }

pub puts_as : {p q : Pipe} {a b : Stream} {text same : List ℕ} → text ≡ same → Puts p q a b text → Puts p q a b same
puts_as {p} {q} {a} {b} e x = subst (λ (l : List ℕ). Puts p q a b l) e x

pub halts_as : {p q : Pipe} {a b : Stream} {text same : List ℕ} {fault : Fault} → text ≡ same → Halts p q a b text fault → Halts p q a b same fault
halts_as {p} {q} {a} {b} {fault = fault} e x = subst (λ (l : List ℕ). Halts p q a b l fault) e x

-- a head before the answer that is handed on
test_other : (framed test : Bool) (text : List ℕ) → framed ≡ true → test ≡ false → cond (framed && not test) text [] ≡ text
test_other true false text e f = refl
test_other false test text e f = cc
test_other true true text e f = cc

pub for_client : (framed : Bool) (status : ℕ) (text : List ℕ) → framed ≡ true → (status ≡ 100 → ⊥) → cond (framed && not (status == 100)) text [] ≡ text
for_client framed status text e other = let is : (status == 100) ≡ false = grind (arith, nat_tests, other) in test_other framed (status == 100) text e is
