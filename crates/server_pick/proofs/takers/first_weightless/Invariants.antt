use Rattle.std.proofs.Common.{ℕ, ◌<◌}
use Rattle.log_entries.specs.Picks.{weight_of}
use Rattle.slot_ledger.specs.Ledgers.{scene_in}
use Rattle.server_pick.specs.Sets.{IsIn}
use Rattle.server_pick.proofs.takers.first_weightless.Given as goal

-- no server so far
abbrev pub invariant-looking : goal.invariant-looking
invariant-looking g l = (other : ℕ) → other < l.server → IsIn l.among other → 0 < weight_of (scene_in l.ledger) other
