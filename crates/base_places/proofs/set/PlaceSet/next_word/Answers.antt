use Rattle.std.proofs.Common.{rules, ℕ, ◌*◌, ◌+◌, List, slice_index, w64, ap, sym, ◌∙◌, subst, arith}
use mathlib.Core.Logic.{dite}
use native.Mathlib.Decide.{ℕ_discrete}
use Rattle.std.specs.Int.{trailing_zeros}
use Rattle.base_places.specs.Sets.{Has, IsNextPlace}
use Rattle.base_places.proofs.Bits.{first_later, none_later}
use Rattle.base_places.proofs.set.PlaceSet.next_word.Goals as goal

pub loop-word-init : goal.loop-word-init
loop-word-init c w after before = absurd (omega (arith, after, before))

pub loop-word-preserved : goal.loop-word-preserved
loop-word-preserved c w after before = dite (ℕ_discrete w c.loop-word.word) (λ same. ap (λ n. slice_index c.self.inside.words n) same
    ∙ c.if-self-word-ne0.false) (λ other. c.loop-word.invariant w after (omega (arith, before, other)))

pub returns-then-self-word-ne0 : goal.returns-then-self-word-ne0
returns-then-self-word-ne0 c =
    subst (λ (words : List ℕ). IsNextPlace words (64 * c.args.first)
    (c.loop-word.word * 64 + trailing_zeros w64 (slice_index c.self.inside.words c.loop-word.word))) c.self.view_is
    (first_later c.self.inside.words c.args.first c.loop-word.word c.loop-word.auto.word c.loop-word-test.true c.if-self-word-ne0.true
    (search rules) c.loop-word.invariant)

pub returns : goal.returns
returns c place after has =
    none_later c.self.inside.words c.args.first c.self.told
    (λ w from low. c.loop-word.invariant w from (omega (arith, low, c.loop-word-test.false))) place after
    (subst (λ (words : List ℕ). Has words place) (sym c.self.view_is) has)
