-- What is outstanding, by weight.
use Rattle.std.proofs.Common.{◌≡◌, ◌≢◌, ℕ, zero, suc, ◌+◌, ◌≤◌, ◌==◌, Bool, true, false, cond, [], ◌∷◌}
use Rattle.std.proofs.Common.{Option, None, Some, Contains, slice_get, refl, ap, sym, ◌∙◌, arith, inl, inr}
use Rattle.std.proofs.Math.ListN.{set}
use Rattle.std.proofs.lemmas.Bool.Decides.{Decides-eqb}
use Rattle.std.proofs.lemmas.List.Elements.{Contains-append_cases}
use Rattle.std.proofs.lemmas.List.Sums.{sum_by-cons}
use Rattle.std.proofs.lemmas.Option.{same_Some}
use Rattle.base_verdict.specs.declared.Verdict.{Verdict}
use Rattle.base_lists.specs.Weights.{total, along}
use Rattle.base_lists.proofs.Never.{none_some}
use Rattle.base_lists.proofs.Places.{tally, get-set_cases}
use Rattle.base_lists.proofs.Positions.{item_stands, along-set, along_once}
use Rattle.base_lists.proofs.Totals.{total-append}
use Rattle.grant_board.specs.Views.{Grant, grant, at_place, serves_at, count_at, count_of}
use Rattle.grant_board.proofs.Grants.{at_place-no, at_place-one}
use Rattle.log_entries.specs.declared.row.Phase.{Phase}
use Rattle.log_entries.specs.declared.row.Phase.TheVariants.{Loose, Waiting, Serving, Told}
use Rattle.log_entries.specs.declared.row.Row.{Row}
use Rattle.log_entries.specs.Rows.{Rows, StandsAt, phase_is_served_by, is_served_by, served}
use Rattle.log_entries.proofs.RowLemmas.{HaveOwnTickets, own_later}
use Rattle.locked_book.specs.Outstanding.{verdict_at, grant_at, grants_at, outstanding_from, outstanding, place_in}

-- the weight of what is outstanding at a place
abbrev pub weigh : (Grant → ℕ) → ℕ → Option Row → ℕ
weigh weight place cell = total weight (grants_at place cell)

module _ (weight : Grant → ℕ) where
  -- what is outstanding weighs what the places do
  pub by_place : (i : ℕ) (rows : Rows) → total weight (outstanding_from i rows) ≡ along (weigh weight) i rows
  by_place i [] = refl
  by_place i (cell ∷ rows) = omega (arith, by_place (suc i) rows, total-append weight (grants_at i cell) (outstanding_from (suc i) rows))

  -- one place is written
  pub put : (i p q : ℕ) (rows : Rows) (old new : Option Row) → q ≡ i + p → slice_get rows p ≡ Some old
      → total weight (outstanding_from i (set rows p new)) + weigh weight q old ≡ total weight (outstanding_from i rows) + weigh weight q new
  put i p q rows old new at stands =
      omega (arith, by_place i rows, by_place i (set rows p new), along-set (weigh weight) rows i p q old new at (item_stands rows p old stands))

  -- where no place weighs anything, nothing does
  pub none_weigh : (i : ℕ) (rows : Rows) → ((p q : ℕ) (cell : Option Row) → q ≡ i + p → slice_get rows p ≡ Some cell → weigh weight q cell ≡ 0)
      → total weight (outstanding_from i rows) ≡ 0
  none_weigh i [] none = refl
  none_weigh i (cell ∷ rows) none =
      omega (
        arith,
        none 0 i cell (omega arith) refl,
        none_weigh (suc i) rows (λ p q c at stands. none (suc p) q c (omega arith) stands),
        total-append weight (grants_at i cell) (outstanding_from (suc i) rows),
      )

-- the grants of one ticket, weighed
abbrev pub only : ℕ → (Grant → ℕ) → Grant → ℕ
only ticket weight g = cond (g.ticket == ticket) (weight g) 0

only_own : (weight : Grant → ℕ) (p t : ℕ) (r : Row) (v : Option Verdict) → r.key.ticket ≡ t
    → total (only t weight) (grant_at p r.key.ticket v) ≡ total weight (grant_at p r.key.ticket v)
only_own weight p t r None own = refl
only_own weight p t r (Some v) own = ap {B = ℕ} (λ (b : Bool). cond b (weight (grant p r.key.ticket v)) 0 + 0) ((Decides-eqb r.key.ticket t).1 own)

only_other : (weight : Grant → ℕ) (p t : ℕ) (r : Row) (v : Option Verdict) → r.key.ticket ≢ t → total (only t weight) (grant_at p r.key.ticket v) ≡ 0
only_other weight p t r None other = refl
only_other weight p t r (Some v) other = by_test (r.key.ticket == t) refl
  where
    by_test : (b : Bool) → (r.key.ticket == t) ≡ b → cond (r.key.ticket == t) (weight (grant p r.key.ticket v)) 0 + 0 ≡ 0
    by_test true e = absurd (other ((Decides-eqb r.key.ticket t).0 e))
    by_test false e = rw e refl

-- what is outstanding of one ticket is what its place has
pub of_ticket : (weight : Grant → ℕ) (rows : Rows) (p t : ℕ) (r : Row) → HaveOwnTickets rows → StandsAt rows p r → r.key.ticket ≡ t
    → total (only t weight) (outstanding rows) ≡ weigh weight p (Some r)
of_ticket weight rows p t r own stands named =
    let even = put (only t weight) 0 p p rows (Some r) None (omega arith) stands in
    let rest = none_weigh (only t weight) 0 (set rows p None) others in
    omega (arith, even, rest, only_own weight p t r (verdict_at r.phase) named)
  where
    others : (k q : ℕ) (cell : Option Row) → q ≡ 0 + k → slice_get (set rows p None) k ≡ Some cell → weigh (only t weight) q cell ≡ 0
    others k q None at there = refl
    others k q (Some u) at there =
        elim (get-set_cases rows p k (Some r) None (Some u) stands there) [
          | inl e ↦ none_some e.1
          | inr e ↦ only_other weight q t u (verdict_at u.phase) (λ same. e.0 (own.own k p u r e.1 stands (same ∙ sym named)))
        ]

-- no place has more than one
one_at : (p place ticket : ℕ) (v : Option Verdict) → total (at_place p) (grant_at place ticket v) ≤ 1
one_at p place ticket None = omega arith
one_at p place ticket (Some v) = omega (arith, at_place-one p (grant place ticket v))

none_elsewhere : (p place ticket : ℕ) (v : Option Verdict) → place ≢ p → total (at_place p) (grant_at place ticket v) ≡ 0
none_elsewhere p place ticket None other = refl
none_elsewhere p place ticket (Some v) other = omega (arith, at_place-no p (grant place ticket v) other)

one_weighs : (p i : ℕ) (cell : Option Row) → weigh (at_place p) i cell ≤ 1
one_weighs p i None = omega arith
one_weighs p i (Some r) = one_at p i r.key.ticket (verdict_at r.phase)

elsewhere_weighs : (p i : ℕ) (cell : Option Row) → i ≢ p → weigh (at_place p) i cell ≡ 0
elsewhere_weighs p i None other = refl
elsewhere_weighs p i (Some r) other = none_elsewhere p i r.key.ticket (verdict_at r.phase) other

pub once_at : (p i : ℕ) (rows : Rows) → count_at p (outstanding_from i rows) ≤ 1
once_at p i rows =
    omega (arith, by_place (at_place p) i rows, along_once (weigh (at_place p)) p (elsewhere_weighs p) (one_weighs p) rows i)

-- as many serve at a server as it serves
served_by : (s place ticket : ℕ) (r : Row) (phase : Phase) → r.phase ≡ phase
    → count_of s (grant_at place ticket (verdict_at phase)) ≡ tally (is_served_by s (Some r))
served_by s place ticket r Loose is = sym (ap (λ (x : Phase). tally (phase_is_served_by s x)) is)
served_by s place ticket r (Waiting q m) is = sym (ap (λ (x : Phase). tally (phase_is_served_by s x)) is)
served_by s place ticket r (Serving v) is = omega (arith, ap (λ (x : Phase). tally (phase_is_served_by s x)) is)
served_by s place ticket r (Told c) is = sym (ap (λ (x : Phase). tally (phase_is_served_by s x)) is)

cell_served : (s i : ℕ) (cell : Option Row) → count_of s (grants_at i cell) ≡ tally (is_served_by s cell)
cell_served s i None = refl
cell_served s i (Some r) = served_by s i r.key.ticket r r.phase refl

pub count_of_served : (s i : ℕ) (rows : Rows) → count_of s (outstanding_from i rows) ≡ served s rows
count_of_served s i [] = refl
count_of_served s i (cell ∷ rows) =
    let whole : count_of s (outstanding_from i (cell ∷ rows)) ≡ count_of s (grants_at i cell) + count_of s (outstanding_from (suc i) rows) =
    total-append (λ g. serves_at s g.verdict) (grants_at i cell) (outstanding_from (suc i) rows) in
    let count : served s (cell ∷ rows) ≡ tally (is_served_by s cell) + served s rows = sum_by-cons (λ x. tally (is_served_by s x)) cell rows in
    let rest = count_of_served s (suc i) rows in
    let here = cell_served s i cell in
    omega arith

-- what is outstanding is the row's that stands there
pub record IsOutAt (rows : Rows) (p : ℕ) (g : Grant) : Type 0 where
  pub row : Row
  pub stands : StandsAt rows p row
  pub named : row.key.ticket ≡ g.ticket
  pub verdict : verdict_at row.phase ≡ Some g.verdict

cell_out : (i : ℕ) (r : Row) (v : Option Verdict) (g : Grant) → Contains (grant_at i r.key.ticket v) g
    → (g.place ≡ i) × (r.key.ticket ≡ g.ticket) × (v ≡ Some g.verdict)
cell_out i r None g (k, near, is) = absurd (omega arith)
cell_out i r (Some v) g (zero, near, is) = (ap (λ (x : Grant). x.place) (sym is), ap (λ (x : Grant). x.ticket) is, ap (λ (x : Grant). Some x.verdict) is)
cell_out i r (Some v) g (suc k, near, is) = absurd (omega arith)

pub is_out : (i : ℕ) (rows : Rows) (g : Grant) → Contains (outstanding_from i rows) g → (p : ℕ) × (g.place ≡ i + p) × IsOutAt rows p g
is_out i [] g (k, near, is) = absurd (omega arith)
is_out i (cell ∷ rows) g there =
    elim (Contains-append_cases (grants_at i cell) (outstanding_from (suc i) rows) g there) [
      | inl here ↦ at cell here
      | inr later ↦ let it = is_out (suc i) rows g later in
          (suc it.0, omega (arith, it.1), record { row = it.2.row; stands = it.2.stands; named = it.2.named; verdict = it.2.verdict })
    ]
  where
    at : (c : Option Row) → Contains (grants_at i c) g → (p : ℕ) × (g.place ≡ i + p) × IsOutAt (c ∷ rows) p g
    at None (k, near, is) = absurd (omega arith)
    at (Some r) here = let it = cell_out i r (verdict_at r.phase) g here in
        (0, omega (arith, it.0), record { row = r; stands = refl; named = it.1; verdict = it.2 })

-- the place of a ticket's row
pub place_at : (rows : Rows) (t p : ℕ) (r : Row) → HaveOwnTickets rows → StandsAt rows p r → r.key.ticket ≡ t → place_in t rows ≡ p
place_at [] t p r own stands named = cc
place_at (None ∷ rows) t zero r own stands named = cc
place_at (None ∷ rows) t (suc p) r own stands named =
    ap suc (place_at rows t p r (own_later None rows own) stands named)
place_at (Some u ∷ rows) t zero r own stands named =
    let it : u ≡ r = same_Some u r (same_Some (Some u) (Some r) stands) in
    let test : (u.key.ticket == t) ≡ true = (Decides-eqb (u.key.ticket) t).1 (ap (λ (x : Row). x.key.ticket) it ∙ named) in
    rw test refl
place_at (Some u ∷ rows) t (suc p) r own stands named =
    by_test (u.key.ticket == t) refl (place_at rows t p r (own_later (Some u) rows own) stands named)
  where
    by_test : (b : Bool) → (u.key.ticket == t) ≡ b → place_in t rows ≡ p → place_in t (Some u ∷ rows) ≡ suc p
    by_test true e rest = let at : 0 ≡ suc p = own.own 0 (suc p) u r refl stands ((Decides-eqb (u.key.ticket) t).0 e ∙ sym named) in absurd (omega arith)
    by_test false e rest = rw e (ap suc rest)
