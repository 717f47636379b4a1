-- What stands in a list with one item more at its end.
use Rattle.std.proofs.Common.{◌≡◌, ℕ, zero, suc, ◌+◌, ◌<◌, ◌⊎◌, List, [], ◌∷◌, ◌++◌, Some, slice_get, length, refl, sym, subst, inl, inr, arith}
use Rattle.std.proofs.lemmas.Option.{same_Some}
use Rattle.base_lists.proofs.Places.{same_or_other}

module _ {X : Type 0} where
  pub get-push_cases : (xs : List X) (x : X) (k : ℕ) (y : X) → slice_get (xs ++ x ∷ []) k ≡ Some y → (slice_get xs k ≡ Some y) ⊎ ((k ≡ length xs) × (x ≡ y))
  get-push_cases [] x zero y e = inr (refl, same_Some x y e)
  get-push_cases [] x (suc k) y e = cc
  get-push_cases (w ∷ ws) x zero y e = inl e
  get-push_cases (w ∷ ws) x (suc k) y e = elim (get-push_cases ws x k y e) [ inl h ↦ inl h | inr h ↦ inr (omega (arith, h.0), h.1) ]

  pub get-push_old : (xs : List X) (x : X) (k : ℕ) (y : X) → slice_get xs k ≡ Some y → slice_get (xs ++ x ∷ []) k ≡ Some y
  get-push_old [] x k y e = cc
  get-push_old (w ∷ ws) x zero y e = e
  get-push_old (w ∷ ws) x (suc k) y e = get-push_old ws x k y e

  pub get-push_new : (xs : List X) (x : X) → slice_get (xs ++ x ∷ []) (length xs) ≡ Some x
  get-push_new [] x = refl
  get-push_new (w ∷ ws) x = let e : length (w ∷ ws) ≡ suc (length ws) = omega arith in
      subst (λ k. slice_get (w ∷ (ws ++ x ∷ [])) k ≡ Some x) (sym e) (get-push_new ws x)

  -- one more in a list whose items are known by their places
  pub each_push : (f : ℕ → X) (xs : List X) (n : ℕ) → length xs ≡ n → ((at : ℕ) → at < n → slice_get xs at ≡ Some (f at)) → (at : ℕ) → at < n + 1
      → slice_get (xs ++ f n ∷ []) at ≡ Some (f at)
  each_push f xs n long each at within =
      elim (same_or_other at n) [
        | inl e ↦ subst (λ k. slice_get (xs ++ f n ∷ []) k ≡ Some (f k)) (sym e)
            (subst (λ k. slice_get (xs ++ f n ∷ []) k ≡ Some (f n)) long (get-push_new xs (f n)))
        | inr e ↦ let h : at < n = omega arith in get-push_old xs (f n) at (f at) (each at h)
      ]
