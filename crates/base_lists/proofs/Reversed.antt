-- A list reversed.
use Rattle.std.proofs.Common.{◌≡◌, ℕ, List, [], ◌∷◌, ◌++◌, take, drop, reverse, All, sym, ap, ◌∙◌, take-append-drop}
use Rattle.std.specs.List.{AllByRecursion}
use Rattle.std.proofs.lemmas.List.{reverse-append, append_assoc}
use Rattle.std.proofs.lemmas.List.Elements.{recursion_from_All}
use Rattle.std.proofs.lemmas.List.Sorted.{IsPermutation-reverse, All-permutation}

module _ {X : Type 0} where
  pub reverse-cons : (x : X) (xs : List X) → reverse (x ∷ xs) ≡ reverse xs ++ x ∷ []
  reverse-cons x xs = reverse-append (x ∷ []) xs

  pub reverse-push : (xs : List X) (x : X) → reverse (xs ++ x ∷ []) ≡ x ∷ reverse xs
  reverse-push xs x = reverse-append xs (x ∷ [])

  -- around a place
  pub reverse_around : (xs ys : List X) (x : X) → reverse (xs ++ x ∷ ys) ≡ reverse ys ++ x ∷ reverse xs
  reverse_around xs ys x =
      reverse-append xs (x ∷ ys) ∙ ap (λ (l : List X). l ++ reverse xs) (reverse-cons x ys) ∙ append_assoc (reverse ys) (x ∷ []) (reverse xs)

  pub reverse_parts : (i : ℕ) (xs : List X) → reverse xs ≡ reverse (drop i xs) ++ reverse (take i xs)
  reverse_parts i xs = ap reverse (sym (take-append-drop i xs)) ∙ reverse-append (take i xs) (drop i xs)

  pub each_in_reverse : (P : X → Type 0) (xs : List X) → All P xs → AllByRecursion P (reverse xs)
  each_in_reverse P xs all = recursion_from_All P (reverse xs) (All-permutation P xs (reverse xs) (IsPermutation-reverse xs) all)
