-- A list around one of its items, and lists in which none comes twice.
use Rattle.std.proofs.Common.{◌≡◌, ℕ, ◌<◌, ◌≤◌, ◌⊎◌, true, false, List, [], ◌∷◌, ◌++◌, Contains, length, eqb}
use Rattle.std.proofs.Common.{sym, ap, subst, inl, inr}
use Rattle.std.specs.List.{AllByRecursion, IsDistinct, list_any}
use Rattle.std.proofs.lemmas.Bool.{cases_eq, eqb-true, ne_eqb, or_cases}
use Rattle.std.proofs.lemmas.List.Elements.{Contains-push_cases}
use Rattle.std.proofs.lemmas.Map.Steps.{length-le_from_distinct_below}
use Rattle.base_lists.specs.Once.{ComeOnce}
use Rattle.base_lists.proofs.Members.{Contains-nil, Contains-head, Contains-tail, Contains-cases, Contains-middle, Contains-around, each_from_members}

module _ {X : Type 0} where
  -- the list around one of its elements
  pub record IsSplit (xs : List X) (x : X) : Type 0 where
    pub before : List X
    pub after : List X
    pub parts : xs ≡ before ++ x ∷ after

  pub split_at : (xs : List X) (x : X) → Contains xs x → IsSplit xs x
  split_at [] x among = absurd (Contains-nil x among)
  split_at (y ∷ xs) x among = elim (Contains-cases y xs x among) [
    | inl same ↦ record { before = []; after = xs; parts = ap (λ z. z ∷ xs) same }
    | inr later ↦ let rest = split_at xs x later in record { before = y ∷ rest.before; after = rest.after; parts = ap (λ l. y ∷ l) rest.parts }
  ]

  -- in a list that has no element twice, one element is in neither part around it
  pub not_before : (xs : List X) (x : X) (ys : List X) → ComeOnce (xs ++ x ∷ ys) → ¬ (Contains xs x)
  not_before [] x ys once among = Contains-nil x among
  not_before (y ∷ xs) x ys once among = elim (Contains-cases y xs x among) [
    | inl same ↦ once.0 (subst (Contains (xs ++ x ∷ ys)) (sym same) (Contains-middle xs x ys))
    | inr later ↦ not_before xs x ys once.1 later
  ]

  pub not_after : (xs : List X) (x : X) (ys : List X) → ComeOnce (xs ++ x ∷ ys) → ¬ (Contains ys x)
  not_after [] x ys once = once.0
  not_after (y ∷ xs) x ys once = not_after xs x ys once.1

  pub once_around : (xs : List X) (x : X) (ys : List X) → ComeOnce (xs ++ x ∷ ys) → ComeOnce (xs ++ ys)
  once_around [] x ys once = once.1
  once_around (y ∷ xs) x ys once = (λ among. once.0 (Contains-around xs x ys y among), once_around xs x ys once.1)

  pub once_push : (xs : List X) (x : X) → ComeOnce xs → ¬ (Contains xs x) → ComeOnce (xs ++ x ∷ [])
  once_push [] x once absent = (Contains-nil x, tt)
  once_push (y ∷ xs) x once absent = (
    λ among. elim (Contains-push_cases xs x y among) [
      | inl before ↦ once.0 before
      | inr same ↦ absent (subst (λ z. Contains (y ∷ xs) z) (sym same) (Contains-head y xs))
    ],
    once_push xs x once.1 (λ among. absent (Contains-tail y xs x among)),
  )

-- whether a number is in a list
pub contains_or_not : (xs : List ℕ) (x : ℕ) → Contains xs x ⊎ ¬ (Contains xs x)
contains_or_not [] x = inr (Contains-nil x)
contains_or_not (y ∷ xs) x = elim (cases_eq y x) [
  | inl same ↦ inl (subst (Contains (y ∷ xs)) same (Contains-head y xs))
  | inr differs ↦ elim (contains_or_not xs x) [
    | inl later ↦ inl (Contains-tail y xs x later)
    | inr absent ↦ inr (λ among. elim (Contains-cases y xs x among) [ inl same ↦ differs same | inr later ↦ absent later ])
  ]
]

-- no more different numbers are below a number than it says
each_differs : (x : ℕ) (xs : List ℕ) → ¬ (Contains xs x) → AllByRecursion (λ y. eqb x y ≡ false) xs
each_differs x xs absent = each_from_members (λ y. eqb x y ≡ false) xs (λ y among. ne_eqb x y (λ same. absent (subst (Contains xs) (sym same) among)))

distinct : (xs : List ℕ) → ComeOnce xs → IsDistinct eqb xs
unfolding IsDistinct
distinct [] once = tt
distinct (x ∷ xs) once = (each_differs x xs once.0, distinct xs once.1)

any_contains : (xs : List ℕ) (x : ℕ) → list_any (eqb x) xs ≡ true → Contains xs x
any_contains [] x any = cc
any_contains (y ∷ xs) x any = elim (or_cases _ _ any) [
  | inl here ↦ subst (Contains (y ∷ xs)) (sym (eqb-true x y here)) (Contains-head y xs)
  | inr later ↦ Contains-tail y xs x (any_contains xs x later)
]

pub once_within : (room : ℕ) (xs : List ℕ) → ComeOnce xs → ((x : ℕ) → Contains xs x → x < room) → length xs ≤ room
once_within room xs once below = length-le_from_distinct_below xs room (distinct xs once) (λ x any. below x (any_contains xs x any))
