use Rattle.std.proofs.Common.{◌≡◌, map, take}
use Rattle.run_control.specs.Wishes.{wish_as_configured}
use Rattle.run_control.proofs.wishes.Wishes.new.Given as goal

-- the wishes so far
abbrev pub invariant-loop-limit : goal.invariant-loop-limit
invariant-loop-limit l = l.list.items ≡ map wish_as_configured (take l.limit-index l.limits)
