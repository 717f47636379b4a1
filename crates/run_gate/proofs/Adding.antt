-- A set to which the places of another are added, by rising number.
use Rattle.std.proofs.Common.{ℕ, ◌≡◌, ◌<◌, ◌≤◌, ◌+◌, nat_lt, ◌⊎◌, inl, inr, ◌↔◌, Bool, true, false, List, refl, sym, subst, arith}
use Rattle.std.proofs.lemmas.Bool.Decides.{nat_tests}
use Rattle.base_places.specs.Sets.{Has, IsNextPlace}

-- nothing is added yet
pub none_yet : (words old : List ℕ) (place : ℕ) → Has old place ↔ (Has old place ⊎ ((place < 0) × Has words place))
none_yet words old place = (λ has. inl has, back)
  where
    back : Has old place ⊎ ((place < 0) × Has words place) → Has old place
    back (inl was) = was
    back (inr there) = let below = there.0 in absurd (omega (arith, below))

module _ (words old now : List ℕ) (from : ℕ) (known : (place : ℕ) → Has now place ↔ (Has old place ⊎ ((place < from) × Has words place))) where
  -- the next place is added
  pub one_more : (next : List ℕ) (place : ℕ) → IsNextPlace words from place → ((other : ℕ) → Has next other ↔ ((other ≡ place) ⊎ Has now other))
      → (other : ℕ) → Has next other ↔ (Has old other ⊎ ((other < place + 1) × Has words other))
  one_more next place is added other = (λ has. forth ((added other).0 has), back)
    where
      forth_known : Has old other ⊎ ((other < from) × Has words other) → Has old other ⊎ ((other < place + 1) × Has words other)
      forth_known (inl was) = inl was
      forth_known (inr there) = let below = there.0 in let low = is.no_lower in inr (omega (arith, below, low), there.1)

      forth : (other ≡ place) ⊎ Has now other → Has old other ⊎ ((other < place + 1) × Has words other)
      forth (inl same) = inr (omega (arith, same), subst (λ (it : ℕ). Has words it) (sym same) is.there)
      forth (inr has) = forth_known ((known other).0 has)

      by_place : other < place + 1 → Has words other → (b : Bool) → nat_lt other from ≡ b → (d : Bool) → nat_lt other place ≡ d → Has next other
      by_place below has true e d f = (added other).1 (inr ((known other).1 (inr (grind (arith, nat_tests), has))))
      by_place below has false e true f = absurd (is.first other (grind (arith, nat_tests)) (grind (arith, nat_tests)) has)
      by_place below has false e false f = (added other).1 (inl (grind (arith, nat_tests)))

      back : Has old other ⊎ ((other < place + 1) × Has words other) → Has next other
      back (inl was) = (added other).1 (inr ((known other).1 (inl was)))
      back (inr there) = by_place there.0 there.1 (nat_lt other from) refl (nat_lt other place) refl

  -- no place is left
  pub all_added : ((place : ℕ) → from ≤ place → Has words place → ⊥) → (place : ℕ) → Has now place ↔ (Has old place ⊎ Has words place)
  all_added none place = (λ has. forth ((known place).0 has), back)
    where
      forth : Has old place ⊎ ((place < from) × Has words place) → Has old place ⊎ Has words place
      forth (inl was) = inl was
      forth (inr there) = inr there.1

      by_place : Has words place → (b : Bool) → nat_lt place from ≡ b → Has now place
      by_place has true e = (known place).1 (inr (grind (arith, nat_tests), has))
      by_place has false e = absurd (none place (grind (arith, nat_tests)) has)

      back : Has old place ⊎ Has words place → Has now place
      back (inl was) = (known place).1 (inl was)
      back (inr has) = by_place has (nat_lt place from) refl
