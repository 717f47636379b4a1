-- The wishes for servers.
use Rattle.std.specs.Prelude.{Bool, List}
use Rattle.run_control.specs.declared.wishes.IntakeWish.{IntakeWish}

-- a wish for each server in file order, and whether a pause closes all of them
pub record Wished : Type 0 where
  pub list : List IntakeWish
  pub paused : Bool
