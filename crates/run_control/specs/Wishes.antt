-- The number of requests that servers are to take by the wishes.
use Rattle.std.specs.Prelude.{ℕ, true, false, ◌||◌, if◌then◌else◌, Option, option_map, slice_get}
use Rattle.log_entries.specs.declared.allowance.Intake.{Intake}
use Rattle.log_entries.specs.declared.allowance.Intake.TheVariants.{Open, Closed}
use Rattle.run_control.specs.Wished.{Wished}
use Rattle.run_control.specs.declared.wishes.IntakeWish.{IntakeWish}

-- the wish of a configuration's limit alone
abbrev pub wish_as_configured : ℕ → IntakeWish
wish_as_configured limit = record { first = limit; limit = limit; drained = false }

-- the wish after a command has set the number of requests
abbrev pub with_intake : Intake → IntakeWish → IntakeWish
with_intake Closed wish = record wish { drained = true }
with_intake (Open limit) wish = record wish { limit = limit; drained = false }

-- the wish that the configuration gives
abbrev pub as_at_first : IntakeWish → IntakeWish
as_at_first wish = record wish { limit = wish.first; drained = false }

-- the number of requests that a server is to take: none in a pause or where it is closed
abbrev pub intake_for : Wished → ℕ → Option Intake
intake_for wished server = option_map (λ wish. if wished.paused || wish.drained then Closed else Open wish.limit) (slice_get wished.list server)
