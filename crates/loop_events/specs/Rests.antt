-- Whether there is more to do for a guest.
use Rattle.std.specs.Prelude.{Bool, true, false}
use Rattle.grant_board.specs.declared.board.BoardName.{Ghosts}
use Rattle.loop_events.specs.declared.serving.MoreToDo.{MoreToDo}
use Rattle.loop_events.specs.declared.serving.MoreToDo.TheVariants.{Goes, Rests}

-- there is more to do at once
abbrev pub goes_on : {N : Type 0} {G : Ghosts N} → MoreToDo N G → Bool
goes_on (Goes guest hole) = true
goes_on Rests = false
