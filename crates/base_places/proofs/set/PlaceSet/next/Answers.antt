use Rattle.std.proofs.Common.{rules, ℕ, ◌≡◌, ◌+◌, ◌*◌, ◌/◌, ◌%◌, ◌^◌, ◌<◌, ◌≤◌, nat_lt, Bool, true, false}
use Rattle.std.proofs.Common.{List, Option, None, Some, MatchOption, slice_index, w64, refl, ap, sym, ◌∙◌, subst, arith}
use Rattle.std.specs.Int.{trailing_zeros}
use Rattle.std.proofs.lemmas.Bool.Decides.{nat_tests}
use Rattle.base_places.specs.Sets.{Has, IsNextPlace}
use Rattle.base_places.proofs.Bits.{first_in, none_here}
use Rattle.base_places.proofs.set.PlaceSet.next.Goals as goal

pub returns-then-rest-ne0 : goal.returns-then-rest-ne0
returns-then-rest-ne0 c =
    let found = c.in-Some.ensures.lookup.3 in
    subst (λ (words : List ℕ). IsNextPlace words c.args.from (c.args.from + trailing_zeros w64 (c.in-Some.word.now / 2 ^ (c.args.from % 64)))) c.self.view_is
    (first_in c.self.inside.words c.args.from (c.in-Some.word.now / 2 ^ (c.args.from % 64)) (omega (arith, found.0, c.self.told))
    (ap (λ n. n / 2 ^ (c.args.from % 64)) (found.1 0)) c.if-rest-ne0.true (search rules))

-- none is before the words that come later
later : (words : List ℕ) (from : ℕ) (o : Option ℕ) → ((other : ℕ) → from ≤ other → other < 64 * (from / 64 + 1) → Has words other → ⊥)
    → MatchOption o ((place : ℕ) → 64 * (from / 64 + 1) ≤ place → Has words place → ⊥) (IsNextPlace words (64 * (from / 64 + 1)))
    → MatchOption o ((place : ℕ) → from ≤ place → Has words place → ⊥) (IsNextPlace words from)
later words from None none is = λ place after has. by_test words from none is place after has (nat_lt place (64 * (from / 64 + 1))) refl
  where
    by_test : (words : List ℕ) (from : ℕ) → ((other : ℕ) → from ≤ other → other < 64 * (from / 64 + 1) → Has words other → ⊥)
        → ((place : ℕ) → 64 * (from / 64 + 1) ≤ place → Has words place → ⊥)
        → (place : ℕ) → from ≤ place → Has words place → (b : Bool) → nat_lt place (64 * (from / 64 + 1)) ≡ b → ⊥
    by_test words from none is place after has true e = none place after (grind (arith, nat_tests)) has
    by_test words from none is place after has false e = is place (grind (arith, nat_tests)) has
later words from (Some p) none is = record {
  in_range = is.in_range;
  there = is.there;
  no_lower = let up = is.no_lower in omega (arith, up);
  first = λ other after before has. by_test other after before has (nat_lt other (64 * (from / 64 + 1))) refl;
}
  where
    by_test : (other : ℕ) → from ≤ other → other < p → Has words other → (b : Bool) → nat_lt other (64 * (from / 64 + 1)) ≡ b → ⊥
    by_test other after before has true e = none other after (grind (arith, nat_tests)) has
    by_test other after before has false e = is.first other (grind (arith, nat_tests)) before has

pub returns : goal.returns
returns c =
    let found = c.in-Some.ensures.lookup.3 in
    let empty : slice_index c.self.inside.words (c.args.from / 64) / 2 ^ (c.args.from % 64) ≡ 0 = ap (λ n. n / 2 ^ (c.args.from % 64)) (sym (found.1 0))
    ∙ c.if-rest-ne0.false in
    later c.args.self.now c.args.from c.next_word.result
    (subst (λ (words : List ℕ). (other : ℕ) → c.args.from ≤ other → other < 64 * (c.args.from / 64 + 1) → Has words other → ⊥) c.self.view_is
    (none_here c.self.inside.words c.args.from (omega (arith, found.0, c.self.told)) (search rules) empty))
    c.next_word.ensures
