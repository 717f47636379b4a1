use Rattle.log_entries.specs.Grants.{CanTake}
use Rattle.slot_ledger.specs.Ledgers.{scene_in}
use Rattle.server_pick.proofs.Filled.{IsFilled}
use Rattle.server_pick.proofs.takers.takers.Given as goal

-- the servers so far that can take
abbrev pub invariant-filling : goal.invariant-filling
invariant-filling g l = IsFilled (CanTake (scene_in l.ledger)) l.server l.set
