-- Who has nothing to do in a loop's cell.
use Rattle.std.specs.Prelude.{Bool, true, false, ◌&&◌}
use Rattle.exchange_events.specs.Chains as chains
use Rattle.grant_board.specs.declared.board.BoardName.{Ghosts}
use Rattle.loop_events.specs.declared.guest.Resident.{Resident}
use Rattle.loop_events.specs.declared.guest.Resident.TheVariants.{Guest, Lingering, Unused}

-- a client between two requests, or an unused connection of a server
abbrev pub is_silent : {N : Type 0} {G : Ghosts N} → Resident N G → Bool
is_silent (Guest guest) = guest.value.visit.asked_before && chains.is_silent guest.value.linked.seated.exchange
is_silent (Lingering client) = false
is_silent (Unused connection) = true
