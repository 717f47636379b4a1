-- Legal logs.
use Rattle.std.specs.Prelude.{◌≡◌, ◌<◌, ◌≤◌, ◌^◌, false, List, [], ◌∷◌, ◌++◌, All, length}
use Rattle.log_entries.specs.declared.entry.Entry.{Entry}
use Rattle.log_entries.specs.declared.row.Row.{Row}
use Rattle.log_entries.specs.declared.setup.Setup.{Setup}
use Rattle.log_entries.specs.Bounds.{IsAtOneOf, IsRowBy}
use Rattle.log_entries.specs.Dispatch.{IsDispatched}
use Rattle.log_entries.specs.Histories.{History, begins_event, start_of, end_of}
use Rattle.log_entries.specs.Judgement.{AreLawful}
use Rattle.log_entries.specs.Rows.{IsRow, phase_is_told}
use Rattle.log_entries.specs.States.{State}

-- proper base: the state has this many places and servers; its ticket and moment are in range; its
-- rows may stand at that moment and name no other server; the facts that hold after every event of
-- a dispatcher hold; and no request has failed more often than it is retried, except one that is
-- told so
pub record IsBase (setup : Setup) (base : State) : Type 0 where
  pub places : length base.rows ≡ setup.places
  pub checked : length base.results ≡ length setup.servers
  pub limited : length base.limits ≡ length setup.servers
  pub numbered : base.ticket < 2 ^ 40
  pub timed : base.moment < 2 ^ 62
  pub timed_rows : (row : Row) → IsRow base.rows row → IsRowBy base.moment row
  pub at_servers : (row : Row) → IsRow base.rows row → IsAtOneOf (length setup.servers) row.phase
  pub cursor : 0 < length setup.servers → base.cursor < length setup.servers
  pub tried : (row : Row) → IsRow base.rows row → phase_is_told row.phase ≡ false → row.failures ≤ setup.retries
  pub dispatched : IsDispatched (record { setup = setup; base = base; log = [] })

-- legal log: its window begins at a proper base, and its entries are lawful
pub record IsLegal (history : History) : Type 0 where
  pub begins : IsBase history.setup history.base
  pub lawful : AreLawful (start_of history) history.log

-- the log goes on by one event and the entries that follow from it, all lawful
pub record AddsEvent (old new : History) (event : Entry) : Type 0 where
  pub brought : List Entry
  pub log : new.log ≡ old.log ++ event ∷ brought
  pub one_event : All (λ entry. begins_event entry ≡ false) brought
  pub setup : new.setup ≡ old.setup
  pub base : new.base ≡ old.base
  pub lawful : AreLawful (end_of old) (event ∷ brought)
