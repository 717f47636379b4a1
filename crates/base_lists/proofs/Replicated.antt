-- Lists of one item, as often as one says.
use Rattle.std.proofs.Common.{◌≡◌, ℕ, zero, suc, ◌*◌, ◌<◌, Bool, false, None, Some, replicate, slice_get, get_or, count_by, refl, ap, ◌∙◌, arith}
use Rattle.std.proofs.lemmas.List.Folds.{sum_by-replicate}
use Rattle.std.proofs.lemmas.Option.{same_Some}
use Rattle.base_lists.proofs.Places.{tally}

module _ {X : Type 0} where
  -- it stands at each place, and nothing else does
  pub get-replicate : (n i : ℕ) (x : X) → i < n → slice_get (replicate n x) i ≡ Some x
  get-replicate zero i x within = absurd (omega (arith, within))
  get-replicate (suc n) zero x within = refl
  get-replicate (suc n) (suc i) x within = get-replicate n i x (omega arith)

  pub in_replicate : (n i : ℕ) (x y : X) → slice_get (replicate n x) i ≡ Some y → x ≡ y
  in_replicate zero i x y at = cc
  in_replicate (suc n) zero x y at = same_Some x y at
  in_replicate (suc n) (suc i) x y at = in_replicate n i x y at

  -- it is what is read, also past the end where one takes it for what is missing
  pub index-replicate : (n i : ℕ) (x : X) → get_or (replicate n x) i x ≡ x
  index-replicate zero i x = refl
  index-replicate (suc n) zero x = refl
  index-replicate (suc n) (suc i) x = index-replicate n i x

  -- none passes a test that it fails
  pub count-replicate : (p : X → Bool) (n : ℕ) (x : X) → p x ≡ false → count_by p (replicate n x) ≡ 0
  count-replicate p n x fails =
      let none : n * tally (p x) ≡ n * 0 = ap (λ b. n * tally b) fails in
      sum_by-replicate (λ y. tally (p y)) n x ∙ none ∙ omega arith

  -- nothing stands in empty places
  pub none_in_empty : (n i : ℕ) (x : X) → slice_get (replicate n None) i ≡ Some (Some x) → ⊥
  none_in_empty zero i x at = cc
  none_in_empty (suc n) zero x at = let no : None ≡ Some x = same_Some None (Some x) at in cc
  none_in_empty (suc n) (suc i) x at = none_in_empty n i x at
