-- No word so far has fewer edits than the fewest, and the word that was found has just these.
use Rattle.std.proofs.Common.{◌≡◌, take, Any, length}
use Rattle.base_advice.specs.Slips.{edits_between}
use Rattle.base_advice.proofs.Fewest.{IsFewest}
use Rattle.base_advice.proofs.slips.nearest.Given as goal

abbrev pub invariant-loop-name : goal.invariant-loop-name
invariant-loop-name l =
    IsFewest (λ o. edits_between l.word o.now) (λ o. length o.now) (λ name. Any (λ other. other.now ≡ name.now) l.known)
    (take l.name-index l.known) l.fewest l.found
