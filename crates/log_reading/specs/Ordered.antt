-- Windows that respect the order of their queues, and the states that they leave.
use Rattle.std.specs.Prelude.{◌≡◌, ◌≢◌, ℕ, List, [], ◌∷◌, IsTrue}
use Rattle.std.specs.Option.{IfSome}
use Rattle.log_entries.specs.declared.entry.Entry.{Entry}
use Rattle.log_entries.specs.declared.row.Row.{Row}
use Rattle.log_entries.specs.declared.setup.Setup.{Setup}
use Rattle.log_entries.specs.Grants.{IsLeastOf}
use Rattle.log_entries.specs.Rows.{Rows, IsRow, phase_waits_in}
use Rattle.log_entries.specs.States.{State, after}
use Rattle.log_reading.specs.declared.base.BaseRow.{BaseRow}
use Rattle.log_reading.specs.Grants.{Wait, arrival_in, grant_in, has_joined}
use Rattle.log_reading.specs.Readable.{HasArrived}
use Rattle.log_entries.specs.declared.queue.Queue.{Queue}

-- no row has the ticket
abbrev pub TicketIsFresh : Rows → ℕ → Type 0
TicketIsFresh rows ticket = (row : Row) → IsRow rows row → row.key.ticket ≢ ticket

-- the ticket waits in the queue, and no key there is smaller than its own
pub record TakesLeast (rows : Rows) (wait : Wait) : Type 0 where
  pub row : Row
  pub live : IsRow rows row
  pub named : row.key.ticket ≡ wait.ticket
  pub waits : IsTrue (phase_waits_in wait.queue row.phase)
  pub least : IsLeastOf (phase_waits_in wait.queue) rows row.key

-- an entry respects the order of the queues: the ticket of an arrival is new, and a grant takes the
-- least key of its queue
pub record KeepsOrder (rows : Rows) (entry : Entry) : Type 0 where
  pub fresh : IfSome (arrival_in entry) (λ arrival. TicketIsFresh rows arrival.ticket)
  pub least : IfSome (grant_in entry) (TakesLeast rows)

-- each entry does, in the state that those before it leave
abbrev pub AllKeepOrder : Setup → State → List Entry → Type 0
AllKeepOrder setup state [] = Unit {0}
AllKeepOrder setup state (entry ∷ entries) = KeepsOrder state.rows entry × AllKeepOrder setup (after setup state entry) entries

-- each row has the class and the due date of its ticket's last arrival
abbrev pub HaveArrived : List BaseRow → List Entry → Rows → Type 0
HaveArrived base log rows = (row : Row) → IsRow rows row → HasArrived base log row.key.ticket row.key.class row.key.due

-- each row that waits was put into its queue by an entry, or waited there in the base
abbrev pub HaveJoined : List BaseRow → List Entry → Rows → Type 0
HaveJoined base log rows = (row : Row) (queue : Queue) → IsRow rows row → IsTrue (phase_waits_in queue row.phase)
    → IsTrue (has_joined base row.key.ticket queue log)
