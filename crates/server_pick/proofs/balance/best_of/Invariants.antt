use Rattle.slot_ledger.specs.Ledgers.{scene_in}
use Rattle.server_pick.specs.Sets.{IsIn}
use Rattle.server_pick.proofs.Preferred.{IsBest}
use Rattle.server_pick.proofs.balance.best_of.Given as goal

-- the best so far
abbrev pub invariant-comparing : goal.invariant-comparing
invariant-comparing g l = IsBest (scene_in l.ledger) l.cursor (IsIn l.among) l.server l.best
