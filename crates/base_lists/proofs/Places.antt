-- One place of a list: read, written, counted and cut at.
use Rattle.std.proofs.Common.{◌≡◌, ◌≢◌, ℕ, zero, suc, ◌+◌, ◌<◌, ◌==◌, Bool, true, false, cond, List, [], ◌∷◌, ◌++◌, length, take, drop, None, Some}
use Rattle.std.proofs.Common.{slice_get, count_by, refl, sym, ap, subst, arith, ◌∙◌, ◌⊎◌, inl, inr}
use Rattle.std.proofs.Math.ListN.{set}
use Rattle.std.specs.Option.{unwrap_or}
use Rattle.std.proofs.lemmas.List.{set-get_or, get_or-set_same}
use Rattle.std.proofs.lemmas.Option.{same_Some, slice_get_within, get_or_from_slice_get, unwrap_or-slice_get}
use Rattle.std.proofs.lemmas.Bool.Decides.{Decides-eqb}
use Rattle.std.proofs.lemmas.List.Sums.{sum_by-set}

-- 1 where a test holds
abbrev pub tally : Bool → ℕ
tally b = cond b 1 0

module _ {X : Type 0} where
  pub get-set_same : (xs : List X) (i : ℕ) (x y : X) → slice_get xs i ≡ Some x → slice_get (set xs i y) i ≡ Some y
  get-set_same [] i x y h = cc
  get-set_same (w ∷ ws) zero x y h = refl
  get-set_same (w ∷ ws) (suc i) x y h = get-set_same ws i x y h

  pub get-set_other : (xs : List X) (i j : ℕ) (y : X) → j ≢ i → slice_get (set xs i y) j ≡ slice_get xs j
  get-set_other [] i j y h = refl
  get-set_other (w ∷ ws) zero zero y h = absurd (h refl)
  get-set_other (w ∷ ws) zero (suc j) y h = refl
  get-set_other (w ∷ ws) (suc i) zero y h = refl
  get-set_other (w ∷ ws) (suc i) (suc j) y h = get-set_other ws i j y (λ e. h (ap suc e))

  -- lists with the same at each place are one
  pub same_places : (xs ys : List X) → ((k : ℕ) → slice_get xs k ≡ slice_get ys k) → xs ≡ ys
  same_places [] [] h = refl
  same_places [] (y ∷ ys) h = let e : None ≡ Some y = h 0 in cc
  same_places (x ∷ xs) [] h = let e : Some x ≡ None = h 0 in cc
  same_places (x ∷ xs) (y ∷ ys) h = let e : x ≡ y = same_Some x y (h 0) in let es : xs ≡ ys = same_places xs ys (λ k. h (suc k)) in cc

  -- a count after a write
  pub count-set : (p : X → Bool) (xs : List X) (i : ℕ) (x y : X) → slice_get xs i ≡ Some x → count_by p (set xs i y) + tally (p x) ≡ count_by p xs + tally (p y)
  count-set p xs i x y h =
      let e = sum_by-set (λ z. tally (p z)) xs i y x (slice_get_within xs i x h) in
      subst (λ (z : X). count_by p (set xs i y) + tally (p z) ≡ count_by p xs + tally (p y)) (get_or_from_slice_get xs i x x h) e

  -- what is read at a place and written there changes nothing
  pub set_read : (xs : List X) (i : ℕ) (x : X) → slice_get xs i ≡ Some x → set xs i x ≡ xs
  set_read xs i x is = ap (λ (y : X). set xs i y) (sym (get_or_from_slice_get xs i x x is)) ∙ set-get_or xs i x

  -- lists that differ at one place alone are one once that is written
  pub set_alike : (xs ys : List X) (p : ℕ) (x : X) → length xs ≡ length ys → ((k : ℕ) → k ≢ p → slice_get xs k ≡ slice_get ys k)
      → set xs p x ≡ set ys p x
  set_alike [] [] p x long same = refl
  set_alike [] (y ∷ ys) p x long same = absurd (omega (arith, long))
  set_alike (z ∷ xs) [] p x long same = absurd (omega (arith, long))
  set_alike (z ∷ xs) (y ∷ ys) zero x long same = ap (λ l. x ∷ l) (same_places xs ys (λ k. same (suc k) (λ e. cc)))
  set_alike (z ∷ xs) (y ∷ ys) (suc p) x long same =
      let head : z ≡ y = same_Some z y (same 0 (λ e. cc)) in
      let rest : set xs p x ≡ set ys p x = set_alike xs ys p x (omega (arith, long)) (λ k differs. same (suc k) (λ e. differs (omega arith))) in
      ap (λ w. w ∷ set xs p x) head ∙ ap (λ l. y ∷ l) rest

  -- what stands at a place after a write
  pub get-set : (xs : List X) (i j : ℕ) (y z : X) → slice_get (set xs i y) j ≡ Some z → (y ≡ z) ⊎ (slice_get xs j ≡ Some z)
  get-set [] i j y z g = cc
  get-set (w ∷ ws) zero zero y z g = inl (same_Some y z g)
  get-set (w ∷ ws) zero (suc j) y z g = inr g
  get-set (w ∷ ws) (suc i) zero y z g = inr g
  get-set (w ∷ ws) (suc i) (suc j) y z g = get-set ws i j y z g

  pub get-set_cases : (xs : List X) (i j : ℕ) (x y z : X) → slice_get xs i ≡ Some x → slice_get (set xs i y) j ≡ Some z
      → ((j ≡ i) × (y ≡ z)) ⊎ ((j ≢ i) × (slice_get xs j ≡ Some z))
  get-set_cases [] i j x y z h g = cc
  get-set_cases (w ∷ ws) zero zero x y z h g = inl (refl, same_Some y z g)
  get-set_cases (w ∷ ws) zero (suc j) x y z h g = inr ((λ e. cc), g)
  get-set_cases (w ∷ ws) (suc i) zero x y z h g = inr ((λ e. cc), g)
  get-set_cases (w ∷ ws) (suc i) (suc j) x y z h g =
      elim (get-set_cases ws i j x y z h g) [ inl e ↦ inl (ap suc e.0, e.1) | inr e ↦ inr ((λ s. e.0 (omega arith)), e.1) ]

  -- a list cut at a place
  pub cut_at : (xs : List X) (i : ℕ) (x : X) → slice_get xs i ≡ Some x → xs ≡ take i xs ++ x ∷ drop (suc i) xs
  cut_at [] i x e = cc
  cut_at (y ∷ ys) zero x e = ap (λ z. z ∷ ys) (same_Some y x e)
  cut_at (y ∷ ys) (suc i) x e = ap (λ l. y ∷ l) (cut_at ys i x e)

-- two places are one, or not
pub same_or_other : (i j : ℕ) → (i ≡ j) ⊎ (i ≢ j)
same_or_other i j = by_test (i == j) refl
  where
    by_test : (b : Bool) → (i == j) ≡ b → (i ≡ j) ⊎ (i ≢ j)
    by_test true e = inl ((Decides-eqb i j).0 e)
    by_test false e = inr (λ same. let t : (i == j) ≡ true = (Decides-eqb i j).1 same in cc)

-- what stands at a place, or else an item, once one place was written
pub got_set : {X : Type 0} (xs : List X) (at : ℕ) (new other : X) → at < length xs → (place : ℕ)
    → unwrap_or (slice_get (set xs at new) place) other ≡ cond (place == at) new (unwrap_or (slice_get xs place) other)
got_set xs at new other there place = go (place == at) refl
  where
    go : (b : Bool) → (place == at) ≡ b → unwrap_or (slice_get (set xs at new) place) other ≡ cond b new (unwrap_or (slice_get xs place) other)
    go true e =
        subst (λ k. unwrap_or (slice_get (set xs at new) k) other ≡ new) (sym ((Decides-eqb place at).0 e))
        (unwrap_or-slice_get (set xs at new) at other ∙ get_or-set_same xs at new other there)
    go false e = ap (λ o. unwrap_or o other) (get-set_other xs at place new (λ same. let t : (place == at) ≡ true = (Decides-eqb place at).1 same in cc))

-- where nothing stands at the first place the list is empty
pub nil_from_first : {X : Type 0} (xs : List X) → None ≡ slice_get xs 0 → xs ≡ []
nil_from_first [] e = refl
nil_from_first (x ∷ xs) e = let no : None ≡ Some x = e in cc
