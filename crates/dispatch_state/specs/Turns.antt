-- The waiting requests in the order in which they joined their queues.
use Rattle.std.specs.Prelude.{◌≡◌, ℕ, ◌≤◌, List, [], ◌∷◌, Contains}
use Rattle.std.specs.List.{AllByRecursion}
use Rattle.log_entries.specs.declared.queue.Queue.{Queue}
use Rattle.log_entries.specs.declared.row.Phase.TheVariants.{Waiting}
use Rattle.log_entries.specs.declared.row.Row.{Row}
use Rattle.log_entries.specs.Rows.{Rows, StandsAt}

-- the request at a place waits since a moment
abbrev pub WaitsSince : Rows → ℕ → ℕ → Type 0
WaitsSince rows place since = (row : Row) × (queue : Queue) × StandsAt rows place row × (row.phase ≡ Waiting queue since)

-- where both wait, the request at a place waits since no later a moment than the one at another
abbrev pub JoinedNoLater : (ℕ → ℕ → Type 0) → ℕ → ℕ → Type 0
JoinedNoLater waits place other = (since next : ℕ) → waits place since → waits other next → since ≤ next

-- along the places the moments since which they wait never fall: each joined no later than all those behind it
abbrev pub NeverFall : (ℕ → ℕ → Type 0) → List ℕ → Type 0
NeverFall waits [] = Unit {0}
NeverFall waits (place ∷ later) = AllByRecursion (JoinedNoLater waits place) later × NeverFall waits later

-- the places in the order of joining: just those that wait, the one that joined first at the front, and none that joined
-- after now
pub record AreInTurn (waits : ℕ → ℕ → Type 0) (now : ℕ) (places : List ℕ) : Type 0 where
  pub waiting : (place : ℕ) → Contains places place → (since : ℕ) × waits place since
  pub all : (place since : ℕ) → waits place since → Contains places place
  pub never_fall : NeverFall waits places
  pub past : (place since : ℕ) → waits place since → since ≤ now
