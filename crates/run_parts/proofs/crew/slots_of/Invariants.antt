use Rattle.std.proofs.Common.{◌≡◌, min, take}
use Rattle.std.specs.List.{sum_by}
use Rattle.run_parts.specs.Sizes.{share_of}
use Rattle.run_parts.proofs.crew.slots_of.Given as goal

-- the limits so far
abbrev pub invariant-loop-server : goal.invariant-loop-server
invariant-loop-server l = l.slots ≡ min l.places (sum_by (share_of l.places) (take l.server-index l.servers))
