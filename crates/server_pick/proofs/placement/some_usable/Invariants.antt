use Rattle.std.proofs.Common.{◌≡◌, ℕ, ◌<◌, true}
use Rattle.log_entries.specs.Scenes.{is_usable}
use Rattle.slot_ledger.specs.Ledgers.{scene_in}
use Rattle.server_pick.proofs.placement.some_usable.Given as goal

-- no server so far
abbrev pub invariant-looking : goal.invariant-looking
invariant-looking g l = (other : ℕ) → other < l.server → is_usable (scene_in l.ledger) other ≡ true → ⊥
