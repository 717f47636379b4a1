-- The same items in another order: parts of a list that change places.
use Rattle.std.proofs.Common.{List, [], ◌∷◌, ◌++◌, IsPermutation, sym, subst}
use Rattle.std.proofs.lemmas.List.{append_assoc}
use Rattle.std.proofs.lemmas.List.Sorted.{IsPermutation-trans, IsPermutation-append_left, IsPermutation-append_right, IsPermutation-append}
use Rattle.std.proofs.lemmas.List.Sorted.{IsPermutation-append_comm, IsPermutation-sym, IsPermutation-cons, IsPermutation-middle}

module _ {X : Type 0} where
  -- one part past another
  past : (xs ys zs : List X) → IsPermutation (xs ++ (ys ++ zs)) (ys ++ (xs ++ zs))
  past xs ys zs =
      subst (λ (l : List X). IsPermutation l (ys ++ (xs ++ zs))) (append_assoc xs ys zs)
      (subst (λ (l : List X). IsPermutation ((xs ++ ys) ++ zs) l) (append_assoc ys xs zs)
      (IsPermutation-append_left zs _ _ (IsPermutation-append_comm xs ys)))

  -- each first part before each second one
  pairwise : (xs ys us vs : List X) → IsPermutation ((xs ++ ys) ++ (us ++ vs)) ((xs ++ us) ++ (ys ++ vs))
  pairwise xs ys us vs =
      subst (λ (l : List X). IsPermutation l ((xs ++ us) ++ (ys ++ vs))) (sym (append_assoc xs ys (us ++ vs)))
      (subst (λ (l : List X). IsPermutation (xs ++ (ys ++ (us ++ vs))) l) (sym (append_assoc xs us (ys ++ vs)))
      (IsPermutation-append_right xs _ _ (past ys us vs)))

  -- two parts that became one, and that one with the rest
  pub joined : (xs ys zs us vs : List X) → IsPermutation (xs ++ ys) us → IsPermutation (us ++ zs) vs → IsPermutation (xs ++ (ys ++ zs)) vs
  joined xs ys zs us vs first second =
      subst (λ (l : List X). IsPermutation l vs) (append_assoc xs ys zs) (IsPermutation-trans _ _ _ (IsPermutation-append_left zs _ _ first) second)

  -- one part that stays, of the first list and of the second, and the others made one
  pub first_kept : (xs ys zs us : List X) → IsPermutation (ys ++ zs) us → IsPermutation ((xs ++ ys) ++ zs) (xs ++ us)
  first_kept xs ys zs us made = subst (λ (l : List X). IsPermutation l (xs ++ us)) (sym (append_assoc xs ys zs)) (IsPermutation-append_right xs _ _ made)

  pub second_kept : (xs ys zs us : List X) → IsPermutation (ys ++ zs) us → IsPermutation (ys ++ (xs ++ zs)) (xs ++ us)
  second_kept xs ys zs us made = IsPermutation-trans _ _ _ (past ys xs zs) (IsPermutation-append_right xs _ _ made)

  -- the first parts made one, and the second parts
  pub made_pairwise : (xs ys us vs ps qs : List X) → IsPermutation (xs ++ us) ps → IsPermutation (ys ++ vs) qs
      → IsPermutation ((xs ++ ys) ++ (us ++ vs)) (ps ++ qs)
  made_pairwise xs ys us vs ps qs first second = IsPermutation-trans _ _ _ (pairwise xs ys us vs) (IsPermutation-append _ _ _ _ first second)

  -- one part that went to the second list before both became one
  pub second_from : (xs ys zs us : List X) → IsPermutation (ys ++ (xs ++ zs)) us → IsPermutation ((xs ++ ys) ++ zs) us
  second_from xs ys zs us made = subst (λ (l : List X). IsPermutation l us) (sym (append_assoc xs ys zs)) (IsPermutation-trans _ _ _ (past xs ys zs) made)

  -- one part that stays behind what was taken from the rest
  pub kept_aside : (xs ys us vs : List X) → IsPermutation ys (us ++ vs) → IsPermutation (xs ++ ys) (us ++ (xs ++ vs))
  kept_aside xs ys us vs parted = IsPermutation-trans _ _ _ (IsPermutation-append_right xs _ _ parted) (past xs us vs)

  -- two items in front change places
  exchanged : (x y : X) (xs : List X) → IsPermutation (x ∷ (y ∷ xs)) (y ∷ (x ∷ xs))
  exchanged x y xs = IsPermutation-middle (x ∷ []) y xs

  -- one item that goes to the front past another
  pub through_front : (x y z : X) (us vs ws : List X) → IsPermutation (x ∷ us) (y ∷ vs) → IsPermutation (z ∷ (x ∷ (us ++ ws))) (y ∷ (z ∷ (vs ++ ws)))
  through_front x y z us vs ws moved = IsPermutation-trans _ _ _ (IsPermutation-cons z _ _ (IsPermutation-append_left ws _ _ moved)) (exchanged z y (vs ++ ws))

  -- and past a part
  pub behind_part : (x y : X) (us vs ws : List X) → IsPermutation (x ∷ us) (y ∷ vs) → IsPermutation (x ∷ (ws ++ us)) (y ∷ (ws ++ vs))
  behind_part x y us vs ws moved = IsPermutation-trans _ _ _ (IsPermutation-sym _ _ (IsPermutation-middle ws x us))
      (IsPermutation-trans _ _ _ (IsPermutation-append_right ws _ _ moved) (IsPermutation-middle ws y vs))
