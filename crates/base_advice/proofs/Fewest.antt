-- The nearest of the words up to an index: what keeps it, and what it comes to.
use Rattle.std.proofs.Common.{◌≡◌, ◌≤◌, ◌<◌, ◌+◌, ◌*◌, ℕ, List, length, take, All, get_or, subst, arith, Option, Some, None, sym}
use Rattle.std.specs.Prelude.{MatchOption, IfSome, IfNone}
use Rattle.std.proofs.lemmas.List.{take_all}
use Rattle.std.proofs.lemmas.List.Elements.{All-more}

-- a word that may be meant, by how many edits lead to it and how long it is
abbrev pub Near : {X : Type 0} → (X → ℕ) → (X → ℕ) → X → Type 0
Near edits long x = (edits x ≤ 2) × (edits x * 2 < long x)

-- no near word has fewer edits than the fewest, and what was found has just these
abbrev pub IsFewest : {X : Type 0} → (X → ℕ) → (X → ℕ) → (X → Type 0) → List X → ℕ → Option X → Type 0
IsFewest {X = X} edits long Known xs fewest found =
    (fewest ≤ 3) × All (λ o. Near edits long o → fewest ≤ edits o) xs
    × MatchOption found (fewest ≡ 3) (λ x. (edits x ≡ fewest) × Near edits long x × Known x)

pub nearer_kept : {X : Type 0} (edits long : X → ℕ) (Known : X → Type 0) (xs : List X) (i e m : ℕ) (found : Option X) (d : X)
    → i < length xs → e ≡ edits (get_or xs i d) → e < m → e * 2 < long (get_or xs i d) → Known (get_or xs i d)
    → IsFewest edits long Known (take i xs) m found → IsFewest edits long Known (take (i + 1) xs) e (Some (get_or xs i d))
nearer_kept {X = X} edits long Known xs i e m found d below value fewer near known h = (
  omega (arith, fewer, h.0),
  All-more (λ o. Near edits long o → e ≤ edits o) xs i d below (λ k a within s. let old = h.1 k a within s in omega (arith, old, fewer)) (λ s. omega (arith, value)),
  (sym value, (omega (arith, value, fewer, h.0), subst (λ n. n * 2 < long (get_or xs i d)) value near), known),
)

pub further_kept : {X : Type 0} (edits long : X → ℕ) (Known : X → Type 0) (xs : List X) (i e m : ℕ) (found : Option X) (d : X)
    → i < length xs → e ≡ edits (get_or xs i d) → ¬ ((e < m) × (e * 2 < long (get_or xs i d)))
    → IsFewest edits long Known (take i xs) m found → IsFewest edits long Known (take (i + 1) xs) m found
further_kept {X = X} edits long Known xs i e m found d below value far h = (
  h.0,
  All-more (λ o. Near edits long o → m ≤ edits o) xs i d below h.1 (λ s. far_from edits long (get_or xs i d) e m value far s),
  h.2,
)
  where
    far_from : {X : Type 0} (edits long : X → ℕ) (x : X) (e m : ℕ) → e ≡ edits x → ¬ ((e < m) × (e * 2 < long x)) → Near edits long x → m ≤ edits x
    far_from edits long x e m value far s = grind arith

-- what was found has the fewest
pub fewest_found : {X : Type 0} (edits long : X → ℕ) (Known : X → Type 0) (xs : List X) (n m : ℕ) (found : Option X)
    → length xs ≤ n → IsFewest edits long Known (take n xs) m found
    → IfSome found (λ x. All (λ o. Near edits long o → edits x ≤ edits o) xs)
fewest_found edits long Known xs n m None whole h = tt
fewest_found {X = X} edits long Known xs n m (Some x) whole h =
    let P : List X → Type 0 = λ ys. All (λ o. Near edits long o → m ≤ edits o) ys in
    let every = subst P (take_all n xs whole) h.1 in
    λ k d within s. let least = every k d within s in omega (arith, least, h.2.0)

-- where nothing was found, no word is near
pub none_found : {X : Type 0} (edits long : X → ℕ) (Known : X → Type 0) (xs : List X) (n m : ℕ) (found : Option X)
    → length xs ≤ n → IsFewest edits long Known (take n xs) m found
    → IfNone found (All (λ o. ¬ (Near edits long o)) xs)
none_found {X = X} edits long Known xs n m None whole h =
    let P : List X → Type 0 = λ ys. All (λ o. Near edits long o → m ≤ edits o) ys in
    let every = subst P (take_all n xs whole) h.1 in
    λ k d within s. let least = every k d within s in absurd (omega (arith, least, s.0, h.2))
none_found edits long Known xs n m (Some x) whole h = tt
