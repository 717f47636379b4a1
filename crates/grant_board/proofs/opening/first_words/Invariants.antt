use Rattle.std.proofs.Common.{◌≡◌, ◌++◌, map, take, replicate}
use Rattle.grant_board.specs.Views.{first_mark}
use Rattle.grant_board.proofs.opening.first_words.Given as goal

abbrev pub invariant-loop-limit : goal.invariant-loop-limit
invariant-loop-limit l = l.words.items ≡ replicate l.places 0 ++ map first_mark (take l.limit-index l.limits)
