-- What events alone determine: all but at which places the requests stand. "The same but for places" is said here of
-- entries, of states and of histories, of each kind by a definition of its own.
use Rattle.std.specs.Prelude.{◌≡◌, ℕ, Bool, false, List, Option, None, count_by, map}
use Rattle.std.specs.List.{filter}
use Rattle.log_entries.specs.declared.entry.Entry.{Entry}
use Rattle.log_entries.specs.declared.entry.Entry.TheVariants.{Arrive}
use Rattle.log_entries.specs.declared.row.Row.{Row}
use Rattle.log_entries.specs.Histories.{History, state_of, begins_event, refuses_arrival, refuses_done}
use Rattle.log_entries.specs.Histories.{refuses_failure, refuses_abort, refuses_tick, refuses_check, refuses_limit}
use Rattle.log_entries.specs.Rows.{Rows, IsRow}
use Rattle.log_entries.specs.States.{State}

-- the events of a log, in order
abbrev pub events : List Entry → List Entry
events log = filter begins_event log

-- an entry without its place
abbrev pub unplaced : Entry → Entry
unplaced (Arrive moment arrival) = Arrive moment (record arrival { place = 0 })
unplaced entry = entry

-- entries that are the same but for places: those of arrivals, the only ones that entries tell
abbrev pub AreSameButForPlaces : List Entry → List Entry → Type 0
AreSameButForPlaces log other = map unplaced log ≡ map unplaced other

-- the same rows at possibly other places: each row of the one is a row of the other, and any test
-- holds for equally many rows of both
pub record HaveSameRows (rows other : Rows) : Type 0 where
  pub there : (row : Row) → IsRow rows row → IsRow other row
  pub back : (row : Row) → IsRow other row → IsRow rows row
  pub counted : (test : Option Row → Bool) → test None ≡ false → count_by test rows ≡ count_by test other

-- states that are the same but for places: those at which their rows stand
pub record IsSameButForPlaces (state other : State) : Type 0 where
  pub rows : HaveSameRows state.rows other.rows
  pub rest : other ≡ record state { rows = other.rows }

-- histories of one setup that are the same but for places: their bases are, their logs are, and so are the states that these leave
pub record AreSameHistories (history other : History) : Type 0 where
  pub setup : other.setup ≡ history.setup
  pub base : IsSameButForPlaces history.base other.base
  pub log : AreSameButForPlaces history.log other.log
  pub state : IsSameButForPlaces (state_of history) (state_of other)

-- both refuse the same calls with the same causes
pub record AreRefusedAlike (history other : History) : Type 0 where
  pub arrival : (pin : Option ℕ) → refuses_arrival history pin ≡ refuses_arrival other pin
  pub done : (ticket : ℕ) → refuses_done history ticket ≡ refuses_done other ticket
  pub failure : (ticket : ℕ) → refuses_failure history ticket ≡ refuses_failure other ticket
  pub abort : (ticket : ℕ) → refuses_abort history ticket ≡ refuses_abort other ticket
  pub tick : refuses_tick history ≡ refuses_tick other
  pub check : (server : ℕ) → refuses_check history server ≡ refuses_check other server
  pub limit : (server : ℕ) → refuses_limit history server ≡ refuses_limit other server
