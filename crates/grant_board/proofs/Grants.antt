-- Laws on grants and lists of them, for the layers above too.
use Rattle.std.proofs.Common.{◌≡◌, ℕ, ◌+◌, ◌≤◌, ◌≢◌, Bool, true, false, cond, ◌==◌, List, [], ◌∷◌, length, sym, refl, ap, ◌∙◌, arith, eq-eqb, ne_eqb}
use mathlib.Core.Logic.{dite}
use native.Mathlib.Decide.{ℕ_discrete}
use Rattle.std.proofs.lemmas.Bool.{eqb-true}
use Rattle.std.specs.List.{AllByRecursion}
use Rattle.base_verdict.specs.declared.cause.Cause.{Cause}
use Rattle.base_verdict.specs.declared.cause.Cause.TheVariants.{Aborted, Timeout, Retries, NoServer}
use Rattle.base_verdict.specs.declared.Verdict.{Verdict}
use Rattle.base_verdict.specs.declared.Verdict.TheVariants.{Serve, Told}
use Rattle.base_lists.specs.Weights.{total}
use Rattle.grant_board.specs.Views.{Grant, grant, at_place, serves_at, count_at, count_of, grants_without}
use Rattle.base_lists.proofs.Totals.{total-one, total_mono}
use Rattle.base_lists.proofs.Ones.{TellsEqual, both_true}

-- the weight of a grant where it is of this place
abbrev pub here : ℕ → (Grant → ℕ) → Grant → ℕ
here place weight g = cond (g.place == place) (weight g) 0

pub here-yes : (place : ℕ) (weight : Grant → ℕ) (g : Grant) → g.place ≡ place → here place weight g ≡ weight g
here-yes place weight g e = ap {B = ℕ} (λ (b : Bool). cond b (weight g) 0) (eq-eqb g.place place e)

pub here-no : (place : ℕ) (weight : Grant → ℕ) (g : Grant) → g.place ≢ place → here place weight g ≡ 0
here-no place weight g n = ap {B = ℕ} (λ (b : Bool). cond b (weight g) 0) (ne_eqb g.place place n)

pub at_place-yes : (place : ℕ) (g : Grant) → g.place ≡ place → at_place place g ≡ 1
at_place-yes place g e = here-yes place (λ _. 1) g e

pub at_place-no : (place : ℕ) (g : Grant) → g.place ≢ place → at_place place g ≡ 0
at_place-no place g n = here-no place (λ _. 1) g n

pub at_place-one : (place : ℕ) (g : Grant) → at_place place g ≤ 1
at_place-one place g = dite (ℕ_discrete g.place place) (λ e. omega (arith, at_place-yes place g e)) (λ n. omega (arith, at_place-no place g n))

pub serves_at-one : (server : ℕ) (d : Verdict) → serves_at server d ≤ 1
serves_at-one server (Serve s) = dite (ℕ_discrete s server)
    (λ e. let one : serves_at server (Serve s) ≡ 1 = ap {B = ℕ} (λ (b : Bool). cond b 1 0) (eq-eqb s server e) in omega arith)
    (λ n. let none : serves_at server (Serve s) ≡ 0 = ap {B = ℕ} (λ (b : Bool). cond b 1 0) (ne_eqb s server n) in omega arith)
serves_at-one server (Told c) = omega arith

pub serves_at-same : (server : ℕ) → serves_at server (Serve server) ≡ 1
serves_at-same server = ap {B = ℕ} (λ (b : Bool). cond b 1 0) (eq-eqb server server refl)

pub serves_at-other : (server s : ℕ) → s ≢ server → serves_at server (Serve s) ≡ 0
serves_at-other server s n = ap {B = ℕ} (λ (b : Bool). cond b 1 0) (ne_eqb s server n)

without-total_by : (place : ℕ) (weight : Grant → ℕ) (g : Grant) (grants : List Grant)
    → total weight (grants_without place grants) + total (here place weight) grants ≡ total weight grants
    → (b : Bool) → (g.place == place) ≡ b
    → total weight (grants_without place (g ∷ grants)) + total (here place weight) (g ∷ grants) ≡ total weight (g ∷ grants)
without-total_by place weight g grants rec true e = rw e (omega (arith, rec))
without-total_by place weight g grants rec false e = rw e (omega (arith, rec))

-- what is taken out with a place is the place's
pub without-total : (place : ℕ) (weight : Grant → ℕ) (xs : List Grant) → total weight (grants_without place xs) + total (here place weight) xs ≡ total weight xs
without-total place weight [] = refl
without-total place weight (g ∷ grants) = without-total_by place weight g grants (without-total place weight grants) (g.place == place) refl

-- no grant of the place is left
pub without-none : (place : ℕ) (xs : List Grant) → count_at place (grants_without place xs) ≡ 0
without-none place xs =
    let same : total (here place (at_place place)) xs ≡ total (at_place place) xs = here_twice place xs in
    omega (arith, without-total place (at_place place) xs, same)
  where
    here_one : (place : ℕ) (g : Grant) → here place (at_place place) g ≡ at_place place g
    here_one place g = dite (ℕ_discrete g.place place) (λ e. here-yes place (at_place place) g e) (λ n. here-no place (at_place place) g n
        ∙ sym (at_place-no place g n))

    here_twice : (place : ℕ) (xs : List Grant) → total (here place (at_place place)) xs ≡ total (at_place place) xs
    here_twice place [] = refl
    here_twice place (g ∷ grants) = omega (arith, here_one place g, here_twice place grants)

-- without a place a list weighs no more
pub without_le : (place : ℕ) (weight : Grant → ℕ) (xs : List Grant) → total weight (grants_without place xs) ≤ total weight xs
without_le place weight xs = omega (arith, without-total place weight xs)

all_without_by : (P : Grant → Type 0) (place : ℕ) (g : Grant) (gs : List Grant) → P g → AllByRecursion P (grants_without place gs)
    → (b : Bool) → (g.place == place) ≡ b → AllByRecursion P (grants_without place (g ∷ gs))
all_without_by P place g gs p rest true is = rw is rest
all_without_by P place g gs p rest false is = rw is (p, rest)

-- what each grant meets, each of the other places does
pub all_without : (P : Grant → Type 0) (place : ℕ) (gs : List Grant) → AllByRecursion P gs → AllByRecursion P (grants_without place gs)
all_without P place [] h = tt
all_without P place (g ∷ gs) h = all_without_by P place g gs h.0 (all_without P place gs h.1) (g.place == place) refl

-- no more grants serve at a server than there are
pub count_of_le : (server : ℕ) (xs : List Grant) → count_of server xs ≤ length xs
count_of_le server xs = omega (arith, total_mono (λ g. serves_at server g.verdict) (λ _. 1) (λ g. serves_at-one server g.verdict) xs, total-one xs)

same_cause : Cause → Cause → Bool
same_cause Aborted Aborted = true
same_cause Timeout Timeout = true
same_cause Retries Retries = true
same_cause NoServer NoServer = true
same_cause _ _ = false

same_cause-is : (a b : Cause) → same_cause a b ≡ true → a ≡ b
unfolding same_cause
same_cause-is Aborted Aborted e = refl
same_cause-is Timeout Timeout e = refl
same_cause-is Retries Retries e = refl
same_cause-is NoServer NoServer e = refl
same_cause-is _ _ e = absurd (cc)

same_cause-same : (a : Cause) → same_cause a a ≡ true
unfolding same_cause
same_cause-same Aborted = refl
same_cause-same Timeout = refl
same_cause-same Retries = refl
same_cause-same NoServer = refl

pub same_verdict : Verdict → Verdict → Bool
same_verdict (Serve s) (Serve t) = s == t
same_verdict (Told a) (Told b) = same_cause a b
same_verdict _ _ = false

same_verdict-is : (a b : Verdict) → same_verdict a b ≡ true → a ≡ b
unfolding same_verdict
same_verdict-is (Serve s) (Serve t) e = ap Serve (eqb-true s t e)
same_verdict-is (Told a) (Told b) e = ap Told (same_cause-is a b e)
same_verdict-is (Serve s) (Told b) e = absurd (cc)
same_verdict-is (Told a) (Serve t) e = absurd (cc)

same_verdict-same : (a : Verdict) → same_verdict a a ≡ true
unfolding same_verdict
same_verdict-same (Serve s) = eq-eqb s s refl
same_verdict-same (Told a) = same_cause-same a

pub same_grant : Grant → Grant → Bool
same_grant x y = cond (x.place == y.place) (cond (x.ticket == y.ticket) (same_verdict x.verdict y.verdict) false) false

-- a test of equal grants
pub grants_tell : TellsEqual same_grant
unfolding same_grant
grants_tell = record {
  is = λ x y e.
      let p = both_true (x.place == y.place) (cond (x.ticket == y.ticket) (same_verdict x.verdict y.verdict) false) e in
      let q = both_true (x.ticket == y.ticket) (same_verdict x.verdict y.verdict) p.1 in
      let place = eqb-true x.place y.place p.0 in
      let ticket = eqb-true x.ticket y.ticket q.0 in
      let verdict = same_verdict-is x.verdict y.verdict q.1 in
      λ i. grant (place i) (ticket i) (verdict i);
  itself = λ x.
      ap (λ (b : Bool). cond b (cond (x.ticket == x.ticket) (same_verdict x.verdict x.verdict) false) false) (eq-eqb x.place x.place refl)
      ∙ (ap (λ (b : Bool). cond b (same_verdict x.verdict x.verdict) false) (eq-eqb x.ticket x.ticket refl) ∙ same_verdict-same x.verdict);
}
