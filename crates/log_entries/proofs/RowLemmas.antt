-- Rows of which one is changed.
use Rattle.std.proofs.Common.{◌≡◌, ◌≢◌, ℕ, zero, suc, ◌==◌, Bool, true, false, [], ◌∷◌}
use Rattle.std.proofs.Common.{arith, Option, None, Some, slice_get, option_map, refl, ap, sym, ◌∙◌, subst}
use Rattle.std.proofs.Math.ListN.{set}
use Rattle.std.proofs.lemmas.Option.{same_Some, slice_get-map}
use Rattle.std.proofs.lemmas.Bool.Decides.{Decides-eqb}
use Rattle.log_entries.specs.declared.row.Row.{Row}
use Rattle.log_entries.specs.Rows.{Rows, StandsAt, with_change, changed, row_of}
use Rattle.base_lists.proofs.Places.{get-set_same, get-set_other, same_places}

-- no ticket has two rows
pub record HaveOwnTickets (rows : Rows) : Type 0 where
  pub own : (p q : ℕ) (r u : Row) → StandsAt rows p r → StandsAt rows q u → r.key.ticket ≡ u.key.ticket → p ≡ q

-- a change of one ticket leaves another ticket's row
pub with_change_other : (t : ℕ) (f : Row → Option Row) (u : Row) → u.key.ticket ≢ t → with_change t f (Some u) ≡ Some u
with_change_other t f u differs = by_test (u.key.ticket == t) refl
  where
    by_test : (b : Bool) → (u.key.ticket == t) ≡ b → with_change t f (Some u) ≡ Some u
    by_test true e = absurd (differs ((Decides-eqb (u.key.ticket) t).0 e))
    by_test false e = rw e refl

pub with_change_own : (t : ℕ) (f : Row → Option Row) (r : Row) → r.key.ticket ≡ t → with_change t f (Some r) ≡ f r
with_change_own t f r named = rw ((Decides-eqb (r.key.ticket) t).1 named) refl

-- a change of one ticket's row is a write at its place
pub changed_at : (rows : Rows) (t p : ℕ) (r : Row) (f : Row → Option Row) → HaveOwnTickets rows → StandsAt rows p r → r.key.ticket ≡ t
    → changed t f rows ≡ set rows p (f r)
changed_at rows t p r f own stands named = same_places _ _ (λ k. slice_get-map (with_change t f) rows k ∙ by_test k (k == p) refl)
  where
    elsewhere : (k : ℕ) (cell : Option (Option Row)) → slice_get rows k ≡ cell → k ≢ p → option_map (with_change t f) cell ≡ cell
    elsewhere k None e differs = refl
    elsewhere k (Some None) e differs = refl
    elsewhere k (Some (Some u)) e differs = ap Some (with_change_other t f u (λ same. differs (own.own k p u r e stands (same ∙ sym named))))

    by_test : (k : ℕ) (b : Bool) → (k == p) ≡ b → option_map (with_change t f) (slice_get rows k) ≡ slice_get (set rows p (f r)) k
    by_test k true e =
        let same : k ≡ p = (Decides-eqb k p).0 e in
        subst (λ n. option_map (with_change t f) (slice_get rows n) ≡ slice_get (set rows p (f r)) n) (sym same)
        (ap (option_map (with_change t f)) stands ∙ ap Some (with_change_own t f r named) ∙ sym (get-set_same rows p (Some r) (f r) stands))
    by_test k false e =
        let differs : k ≢ p = λ same. let t : (k == p) ≡ true = (Decides-eqb k p).1 same in cc in
        elsewhere k (slice_get rows k) refl differs ∙ sym (get-set_other rows p k (f r) differs)

-- and those of later places have their own
pub own_later : (cell : Option Row) (rows : Rows) → HaveOwnTickets (cell ∷ rows) → HaveOwnTickets rows
own_later cell rows own = record { own = λ k l u v a b e. omega (arith, own.own (suc k) (suc l) u v a b e) }

-- the row of a ticket that stands somewhere
pub row_of_at : (rows : Rows) (t p : ℕ) (r : Row) → HaveOwnTickets rows → StandsAt rows p r → r.key.ticket ≡ t → row_of t rows ≡ Some r
row_of_at [] t p r own stands named = cc
row_of_at (None ∷ rows) t zero r own stands named = cc
row_of_at (None ∷ rows) t (suc p) r own stands named =
    row_of_at rows t p r (own_later None rows own) stands named
row_of_at (Some u ∷ rows) t zero r own stands named =
    let it : u ≡ r = same_Some u r (same_Some (Some u) (Some r) stands) in
    let test : (u.key.ticket == t) ≡ true = (Decides-eqb (u.key.ticket) t).1 (ap (λ (x : Row). x.key.ticket) it ∙ named) in
    rw test (ap Some it)
row_of_at (Some u ∷ rows) t (suc p) r own stands named =
    by_test (u.key.ticket == t) refl (row_of_at rows t p r (own_later (Some u) rows own) stands named)
  where
    by_test : (b : Bool) → (u.key.ticket == t) ≡ b → row_of t rows ≡ Some r → row_of t (Some u ∷ rows) ≡ Some r
    by_test true e rest = let at : 0 ≡ suc p = own.own 0 (suc p) u r refl stands ((Decides-eqb (u.key.ticket) t).0 e ∙ sym named) in absurd (omega arith)
    by_test false e rest = rw e rest

-- no row has the ticket
pub row_of_none : (rows : Rows) (t : ℕ) → ((p : ℕ) (r : Row) → StandsAt rows p r → r.key.ticket ≢ t) → row_of t rows ≡ None
row_of_none [] t none = refl
row_of_none (None ∷ rows) t none = row_of_none rows t (λ p r stands. none (suc p) r stands)
row_of_none (Some u ∷ rows) t none = by_test (u.key.ticket == t) refl (row_of_none rows t (λ p r stands. none (suc p) r stands))
  where
    by_test : (b : Bool) → (u.key.ticket == t) ≡ b → row_of t rows ≡ None → row_of t (Some u ∷ rows) ≡ None
    by_test true e rest = absurd (none 0 u refl ((Decides-eqb (u.key.ticket) t).0 e))
    by_test false e rest = rw e rest
