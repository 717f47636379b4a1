-- The seats that are left when the loops have ended.
use Rattle.std.specs.Prelude.{◌≡◌, ◌+◌, Result, Ok, Err}
use Rattle.grant_board.specs.RelayCalls.{Relay}
use Rattle.run_service.specs.declared.looping.LoopsFault.{LoopsFault}
use Rattle.run_service.specs.declared.looping.LoopsFault.TheVariants.{NoMemory, SeatsLost}

-- as many seats were joined to the first one as were split off it
abbrev pub AreJoined : Relay → Relay → Type 0
AreJoined before now = now.view.split + before.view.joined ≡ now.view.joined + before.view.split

-- each seat came back, but where one is reported as lost, and then not each did
abbrev pub ReturnsSeats : Result (Unit {0}) LoopsFault → Relay → Relay → Type 0
ReturnsSeats (Ok done) before now = AreJoined before now
ReturnsSeats (Err NoMemory) before now = AreJoined before now
ReturnsSeats (Err SeatsLost) before now = ¬ (AreJoined before now)
