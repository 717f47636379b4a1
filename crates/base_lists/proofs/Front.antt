-- A list whose first items are changed, one after the other.
use Rattle.std.proofs.Common.{◌≡◌, ℕ, zero, suc, ◌+◌, ◌<◌, List, [], ◌∷◌, Some, slice_get, map, length, refl, ap, sym, arith}
use Rattle.std.proofs.Math.ListN.{set}
use Rattle.std.proofs.lemmas.Option.{same_Some}

module _ {X : Type 0} (f : X → X) where
  -- the first items, this many, are mapped
  abbrev pub mapped_front : ℕ → List X → List X
  mapped_front zero l = l
  mapped_front (suc n) [] = []
  mapped_front (suc n) (x ∷ l) = f x ∷ mapped_front n l

  pub mapped_front-length : (n : ℕ) (l : List X) → length (mapped_front n l) ≡ length l
  mapped_front-length zero l = refl
  mapped_front-length (suc n) [] = refl
  mapped_front-length (suc n) (x ∷ l) = ap suc (mapped_front-length n l)

  -- the next one isn't yet
  pub mapped_front-next : (n : ℕ) (l : List X) → slice_get (mapped_front n l) n ≡ slice_get l n
  mapped_front-next zero l = refl
  mapped_front-next (suc n) [] = refl
  mapped_front-next (suc n) (x ∷ l) = mapped_front-next n l

  -- and then it is
  pub mapped_front-suc : (n : ℕ) (l : List X) (x : X) → slice_get l n ≡ Some x → set (mapped_front n l) n (f x) ≡ mapped_front (suc n) l
  mapped_front-suc zero [] x is = cc
  mapped_front-suc zero (y ∷ l) x is = ap (λ z. f z ∷ l) (same_Some x y (sym is))
  mapped_front-suc (suc n) [] x is = cc
  mapped_front-suc (suc n) (y ∷ l) x is = ap (λ k. f y ∷ k) (mapped_front-suc n l x is)

  pub mapped_front-all : (l : List X) → mapped_front (length l) l ≡ map f l
  mapped_front-all [] = refl
  mapped_front-all (x ∷ l) = ap (λ k. f x ∷ k) (mapped_front-all l)

module _ {X : Type 0} where
  -- a list that is another one's as far as a place, once it has that place's item too
  pub copied_next : (now want : List X) (place : ℕ) (x : X) → length now ≡ length want → place < length now → slice_get want place ≡ Some x
      → ((k : ℕ) → k < place → slice_get now k ≡ slice_get want k) → (k : ℕ) → k < place + 1 → slice_get (set now place x) k ≡ slice_get want k
  copied_next [] want place x long within stands before k few = absurd (omega (arith, within))
  copied_next (y ∷ now) [] place x long within stands before k few = absurd (omega (arith, long))
  copied_next (y ∷ now) (z ∷ want) zero x long within stands before zero few = sym stands
  copied_next (y ∷ now) (z ∷ want) zero x long within stands before (suc k) few = absurd (omega (arith, few))
  copied_next (y ∷ now) (z ∷ want) (suc place) x long within stands before zero few = before 0 (omega arith)
  copied_next (y ∷ now) (z ∷ want) (suc place) x long within stands before (suc k) few =
      let rest : length now ≡ length want = omega arith in
      let inside : place < length now = omega arith in
      let less : k < place + 1 = omega arith in
      copied_next now want place x rest inside stands (λ j fewer. before (suc j) (omega arith)) k less

  -- and once it has all
  pub copied_all : (now want : List X) → length now ≡ length want → ((k : ℕ) → k < length now → slice_get now k ≡ slice_get want k) → now ≡ want
  copied_all [] [] long same = refl
  copied_all [] (z ∷ want) long same = absurd (omega (arith, long))
  copied_all (y ∷ now) [] long same = absurd (omega (arith, long))
  copied_all (y ∷ now) (z ∷ want) long same =
      let first : y ≡ z = same_Some y z (same 0 (omega arith)) in
      let rest : now ≡ want = copied_all now want (omega arith) (λ k fewer. same (suc k) (omega arith)) in
      cc
