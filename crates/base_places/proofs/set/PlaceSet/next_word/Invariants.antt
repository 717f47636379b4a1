use Rattle.std.proofs.Common.{◌≡◌, ◌≤◌, ◌<◌, ℕ, slice_index}
use Rattle.base_places.proofs.set.PlaceSet.next_word.Given as goal

-- the words before have no place
abbrev pub invariant-loop-word : goal.invariant-loop-word
invariant-loop-word l = (w : ℕ) → l.first ≤ w → w < l.word → slice_index l.self-inside.words w ≡ 0
