-- A server's standing, and how a result changes it.
use Rattle.std.specs.Prelude.{◌≡◌, ℕ, ◌<◌, Bool, true, false, not, List, if◌then◌else◌}
use Rattle.check_state.specs.Results.{is_up_after, run_at_end}
use Rattle.check_state.specs.declared.health.Change.{Change}
use Rattle.check_state.specs.declared.health.Change.TheVariants.{Stay, WentDown, WentUp}

-- what contracts see of a health: its limits, whether the server is up, and how many of the latest
-- results in a row speak against that
pub record Standing : Type 0 where
  pub rise : ℕ
  pub fall : ℕ
  pub up : Bool
  pub against : ℕ

-- the health of a server with these limits and these results, the oldest first
pub record IsHealthOf (rise fall : ℕ) (results : List Bool) (health : Standing) : Type 0 where
  pub own_rise : health.rise ≡ rise
  pub own_fall : health.fall ≡ fall
  pub stands : health.up ≡ is_up_after rise fall results
  pub counted : health.against ≡ run_at_end (not health.up) results

-- the number of results in a row that reverse the standing
abbrev pub results_to_turn : Standing → ℕ
results_to_turn health = if health.up then health.fall else health.rise

-- both limits are at least 1, and fewer results than the limit speak against the standing
pub record IsStanding (health : Standing) : Type 0 where
  pub some_rise : 0 < health.rise
  pub some_fall : 0 < health.fall
  pub too_few : health.against < results_to_turn health

-- the change between two standings
abbrev pub change_between : Bool → Bool → Change
change_between true true = Stay
change_between false false = Stay
change_between true false = WentDown
change_between false true = WentUp
