-- Which requests at places are given up.
use Rattle.std.specs.Prelude.{◌≡◌, ◌≤◌, ◌-◌, ℕ, true, false, Option, None, Some, MatchOption}
use Rattle.loop_shared.specs.declared.parked.GivenUpSet.{GivenUpSet}
use Rattle.loop_shared.specs.declared.parked.GivenUpSet.TheVariants.{All, Late}
use Rattle.loop_shared.specs.declared.parked.Parked.{Parked}

-- It isn't given up yet, and all are to be; or it had to wait for its place, and came at least this
-- number of milliseconds before this moment.
abbrev pub IsHopeless : Parked → GivenUpSet → Type 0
IsHopeless it (All refusing) = it.late ≡ false
IsHopeless it (Late now millis) = (it.late ≡ false) × MatchOption it.came ⊥ (λ came. millis ≤ now - came)

-- The request of a cell is given up and noted as such, and this is its ticket; or there is none, or
-- it isn't one of them, and stays as it was.
abbrev pub NotesHopeless : GivenUpSet → Option Parked → Option Parked → Option ℕ → Type 0
NotesHopeless hopeless None now ticket = (now ≡ None) × (ticket ≡ None)
NotesHopeless hopeless (Some before) now None = (now ≡ Some before) × ¬ (IsHopeless before hopeless)
NotesHopeless hopeless (Some before) now (Some ticket) =
    (now ≡ Some (record before { late = true })) × (ticket ≡ before.at.ticket) × IsHopeless before hopeless
