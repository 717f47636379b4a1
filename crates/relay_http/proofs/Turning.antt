-- Turns are spent and never won.
use Rattle.std.proofs.Common.{◌≡◌, ℕ, ◌≤◌, List, ◌++◌, inl, inr, subst, arith}
use Rattle.std.specs.Prelude.{Err, Result}
use Rattle.http_bodies.specs.Steps.{Ends, Moves}
use Rattle.relay_http.specs.Failures.{Fails, Blames, NoCause}
use Rattle.http_texts.specs.declared.fault.Fault.{Fault}
use Rattle.http_texts.specs.declared.fault.Fault.TheVariants.{Turns, Read, Write}

pub moves_turns : {a b : Ends} {used text : List ℕ} → Moves a b used text → b.pipe.turns ≤ a.pipe.turns
moves_turns m = omega (arith, m.reads.reads, m.reads.writes, m.reads.spent)

pub fails_turns : {a b : Ends} {used text : List ℕ} {Why : Fault → List ℕ → Type 0} {Wants : List ℕ → Type 0} {fault : Fault}
    → Fails a b used text Why Wants fault
    → b.pipe.turns ≤ a.pipe.turns
fails_turns f = omega (arith, f.reads.reads, f.reads.writes, f.reads.spent)

-- where they are wanting, none is left
pub fails_spent : {T : Type 0} {a b : Ends} {used text : List ℕ} {Why : Fault → List ℕ → Type 0} {Wants : List ℕ → Type 0} (fault : Fault)
    → Fails a b used text Why Wants fault
    → ◌≡◌ {A = Result T Fault} (Err fault) (Err Turns) → b.pipe.turns ≡ 0
fails_spent {a = a} {b} {Why = Why} fault f is =
    let same : fault ≡ Turns = cc in
    (subst (λ (g : Fault). Blames a b Why (a.pipe.inbox ++ f.taken) g) same f.blames).1

-- where nothing was asked to be written, no write failed
pub fails_unwritten : {a b : Ends} {used text : List ℕ} {Why : Fault → List ℕ → Type 0} {Wants : List ℕ → Type 0} (fault : Fault)
    → Fails a b used text Why Wants fault
    → b.sink.failures ≡ a.sink.failures → fault ≡ Write → ⊥
fails_unwritten {a = a} {b} {Why = Why} fault f same is =
    let more = (subst (λ (g : Fault). Blames a b Why (a.pipe.inbox ++ f.taken) g) is f.blames).1 in absurd (omega (arith, same, more))

-- where nothing was asked to be read, no read failed
pub fails_unread : {a b : Ends} {used text : List ℕ} {Wants : List ℕ → Type 0} (fault : Fault) → Fails a b used text NoCause Wants fault
    → b.source.failures ≡ a.source.failures → fault ≡ Read → ⊥
fails_unread {a = a} {b} fault f same is =
    elim (subst (λ (g : Fault). Blames a b NoCause (a.pipe.inbox ++ f.taken) g) is f.blames).1 [
      | inl more ↦ absurd (omega (arith, same, more))
      | inr ended ↦ absurd ended.2
    ]
