-- Texts that go to a sink one after the other.
use Rattle.std.proofs.Common.{◌≡◌, ◌∙◌, ◌<◌, ◌≤◌, ℕ, List, [], ◌∷◌, ◌++◌, refl, sym, ap, arith, append_assoc, append-nil, length, length-append, subst, inl, inr}
use Rattle.base_streams.specs.Streams.{Stream}
use Rattle.http_bodies.specs.declared.fault.Fault.{Fault}
use Rattle.http_bodies.specs.declared.fault.Fault.TheVariants.{Framing, Read, Write, Turns}
use Rattle.http_bodies.proofs.Writing.{Wrote-nil, Wrote-trans}
use Rattle.http_bodies.specs.Texts.{Wrote, Spends, Emits, Remains, StopsBy, Stops}

pub Spends-none : (s : Stream) (turns : ℕ) → Spends s s turns turns
Spends-none s turns = record { same = refl; calls = omega arith; spent = refl }

pub Spends-trans : {a b c : Stream} {t u v : ℕ} → Spends a b t u → Spends b c u v → Spends a c t v
Spends-trans p q = record { same = q.same ∙ p.same; calls = omega (arith, p.calls, q.calls); spent = q.spent ∙ p.spent }

pub emits_none : (w : Stream) (turns : ℕ) (waiting : List ℕ) → Emits w w turns turns waiting waiting []
emits_none w turns waiting = record {
  front = [];
  wrote = Wrote-nil w;
  all = append-nil waiting;
  spends = Spends-none w turns;
  fine = refl;
}

pub emits_trans : {a b c : Stream} {t u v : ℕ} {p q r first second : List ℕ} → Emits a b t u p q first → Emits b c u v q r second
    → Emits a c t v p r (first ++ second)
emits_trans {a} {b} {c} {p = p} {q = q} {r = r} {first = first} {second = second} x y = record {
  front = x.front ++ y.front;
  wrote = Wrote-trans x.wrote y.wrote;
  all =
      sym (append_assoc p first second)
      ∙ ap (λ l. l ++ second) x.all
      ∙ append_assoc x.front q second
      ∙ ap (λ l. x.front ++ l) y.all
      ∙ sym (append_assoc x.front y.front r);
  spends = Spends-trans x.spends y.spends;
  fine = y.fine ∙ x.fine;
}

-- the cause doesn't look at what was written before
stops_by : (fault : Fault) (a b c : Stream) (turns : ℕ) → b.failures ≡ a.failures → StopsBy b c turns fault → StopsBy a c turns fault
stops_by Write a b c turns same cause = omega (arith, same, cause)
stops_by Turns a b c turns same cause = (cause.0 ∙ same, cause.1)
stops_by Read a b c turns same cause = cause
stops_by Framing a b c turns same cause = cause

-- some text went on its way, and of what waits and of what follows a front was written
pub emits_stops : {a b c : Stream} {t u v : ℕ} {p q first : List ℕ} {fault : Fault} (second : List ℕ) → Emits a b t u p q first
    → Stops b c u v (q ++ second) fault
    → Stops a c t v (p ++ (first ++ second)) fault
emits_stops {a} {b} {c} {v = v} {p = p} {q = q} {first = first} {fault = fault} second x y = record {
  front = record {
    front = x.front ++ y.front.front;
    rest = y.front.rest;
    wrote = Wrote-trans x.wrote y.front.wrote;
    all =
        sym (append_assoc p first second)
        ∙ ap (λ l. l ++ second) x.all
        ∙ append_assoc x.front q second
        ∙ ap (λ l. x.front ++ l) y.front.all
        ∙ sym (append_assoc x.front y.front.front y.front.rest);
  };
  left = y.left;
  spends = Spends-trans x.spends y.spends;
  cause = stops_by fault a b c v x.fine y.cause;
}

-- a front of a front
pub stops_more : {a b : Stream} {t u : ℕ} {text : List ℕ} {fault : Fault} (more : List ℕ) → Stops a b t u text fault → Stops a b t u (text ++ more) fault
stops_more more x = record {
  front = record {
    front = x.front.front;
    rest = x.front.rest ++ more;
    wrote = x.front.wrote;
    all = ap (λ l. l ++ more) x.front.all ∙ append_assoc x.front.front x.front.rest more;
  };
  left = omega (arith, x.left, length-append x.front.rest more);
  spends = x.spends;
  cause = x.cause;
}

pub stops_as : {a b : Stream} {t u : ℕ} {text same : List ℕ} {fault : Fault} → text ≡ same → Stops a b t u text fault → Stops a b t u same fault
stops_as {a} {b} {t} {u} {fault = fault} e x = subst (λ (l : List ℕ). Stops a b t u l fault) e x

-- what waited wasn't written whole, and is as it was
pub stops_kept : {a b : Stream} {t u : ℕ} {waiting0 waiting : List ℕ} {fault : Fault} (more : List ℕ) → Stops a b t u waiting0 fault → waiting ≡ waiting0
    → (stop : Stops a b t u (waiting0 ++ more) fault) × Remains stop.front.front waiting0 waiting
unfolding stops_more
stops_kept {waiting0 = waiting0} more x same =
    let few : length x.front.front < length waiting0 =
    omega (arith, x.left, ap (length {A = ℕ}) x.front.all, length-append x.front.front x.front.rest) in
    (stops_more more x, inl (few, same))

-- what waited was written whole, and nothing waits
pub stops_late : {a b c : Stream} {t u v : ℕ} {waiting0 waiting : List ℕ} {fault : Fault} (text : List ℕ) → Emits a b t u waiting0 waiting [] → waiting ≡ []
    → Stops b c u v text fault
    → (stop : Stops a c t v (waiting0 ++ text) fault) × Remains stop.front.front waiting0 waiting
stops_late {a} {b} {c} {v = v} {waiting0 = waiting0} {fault = fault} text x none y =
    let all : waiting0 ≡ x.front = sym (append-nil waiting0) ∙ x.all ∙ ap (λ l. x.front ++ l) none ∙ append-nil x.front in
    let whole : length waiting0 ≤ length (x.front ++ y.front.front) =
    omega (arith, ap (length {A = ℕ}) all, length-append x.front y.front.front) in (
      record {
        front = record {
          front = x.front ++ y.front.front;
          rest = y.front.rest;
          wrote = Wrote-trans x.wrote y.front.wrote;
          all =
              ap (λ l. l ++ text) all
              ∙ ap (λ l. x.front ++ l) y.front.all
              ∙ sym (append_assoc x.front y.front.front y.front.rest);
        };
        left = y.left;
        spends = Spends-trans x.spends y.spends;
        cause = stops_by fault a b c v x.fine y.cause;
      },
      inr (whole, none),
    )

-- none of the text was written
pub stops_whole : {w0 w : Stream} {turns0 turns : ℕ} {text : List ℕ} {fault : Fault} → Wrote w0 w [] → Spends w0 w turns0 turns → StopsBy w0 w turns fault
    → 0 < length text
    → Stops w0 w turns0 turns text fault
stops_whole {text = text} wrote spends cause some = record {
  front = record { front = []; rest = text; wrote = wrote; all = refl };
  left = some;
  spends = spends;
  cause = cause;
}

-- none of what waited and of the text was written, and all waits as before
as_before : (waiting0 waiting : List ℕ) → waiting ≡ waiting0 → Remains [] waiting0 waiting
as_before [] waiting same = inr (omega arith, same)
as_before (byte ∷ rest) waiting same = inl (omega arith, same)

pub stops_unwritten : {w0 w : Stream} {turns0 turns : ℕ} {waiting0 waiting : List ℕ} {fault : Fault} (text : List ℕ) → Wrote w0 w []
    → Spends w0 w turns0 turns → StopsBy w0 w turns fault → 0 < length (waiting0 ++ text) → waiting ≡ waiting0
    → (stop : Stops w0 w turns0 turns (waiting0 ++ text) fault) × Remains stop.front.front waiting0 waiting
unfolding stops_whole
stops_unwritten {waiting0 = waiting0} {waiting = waiting} text wrote spends cause some same =
    (stops_whole wrote spends cause some, as_before waiting0 waiting same)
