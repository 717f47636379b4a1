-- The healths of servers, by the results of their checks.
use Rattle.std.specs.Prelude.{◌≡◌, ℕ, ◌≤◌, Bool, List, [], Option, None, Some, MatchOption, length, slice_get, slice_index_or}
use Rattle.check_state.specs.Standing.{Standing, IsHealthOf}
use Rattle.log_entries.specs.declared.setup.ServerSet.{ServerSet}
use Rattle.log_entries.specs.declared.setup.Setup.{Setup}
use Rattle.log_entries.specs.Health.{results_of}
use Rattle.log_entries.specs.Histories.{History, state_of}
use Rattle.log_entries.specs.Legal.{IsLegal}
use Rattle.log_entries.specs.States.{State}
use Rattle.pend_queue.specs.Held.{Held}

-- the health of a server that is checked with rise and fall is that of its results; a server that
-- isn't checked has none
abbrev pub IsHealthBy : Option (ℕ × ℕ) → List Bool → Option Standing → Type 0
IsHealthBy rise_fall results health =
    MatchOption rise_fall (health ≡ None) (λ it. (standing : Standing) × (health ≡ Some standing) × IsHealthOf it.0 it.1 results standing)

-- each server's health is that of its results
pub record AreHealths (servers : List ServerSet) (results : List (List Bool)) (healths : List (Option Standing)) : Type 0 where
  pub many : length results ≡ length servers
  pub each_one : length healths ≡ length servers
  pub each : (server : ℕ) (it : ServerSet) → slice_get servers server ≡ Some it
      → IsHealthBy it.rise_fall (results_of results server) (slice_index_or healths server None)

-- a base that is kept for a later window has the lengths that the setup demands
pub record IsSpare (setup : Setup) (spare : State) : Type 0 where
  pub rows : length spare.rows ≡ setup.places
  pub results : length spare.results ≡ length setup.servers
  pub limits : length spare.limits ≡ length setup.servers

-- a core's log is legal, its healths are those of the servers, its queue of expired requests is
-- empty and has room for all, and it has a spare base for a later window
pub record IsCore (history : History) (healths : List (Option Standing)) (expiring : Held ℕ ℕ) (spare : State) : Type 0 where
  pub legal : IsLegal history
  pub healthy : AreHealths history.setup.servers (state_of history).results healths
  pub none : expiring.pairs ≡ []
  pub places : history.setup.places ≤ expiring.room
  pub spared : IsSpare history.setup spare
