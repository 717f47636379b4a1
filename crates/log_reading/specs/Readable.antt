-- Readable windows.
use Rattle.std.specs.Prelude.{◌≡◌, ℕ, ◌≤◌, IsTrue, ℤ, List, [], ◌∷◌, ◌++◌, IsSome, length}
use Rattle.std.specs.Option.{IfSome, IsSomeAnd}
use Rattle.log_entries.specs.declared.entry.Entry.{Entry}
use Rattle.log_reading.specs.declared.base.BaseRow.{BaseRow}
use Rattle.log_reading.specs.Grants.{moment_in, grant_in, moment_of, key_known, has_joined}
use Rattle.log_reading.specs.Windows.{Window}

-- an entry may follow the entries of a window: the first one is an event, the moments of events
-- never fall, and a ticket that is granted a slot has arrived and joined the queue that it leaves,
-- in the window or before it
pub record MayFollow (base : List BaseRow) (past : List Entry) (entry : Entry) : Type 0 where
  pub begins : length past ≡ 0 → IsSome (moment_in entry)
  pub later : IfSome (moment_in entry) (λ moment. moment_of past ≤ moment)
  pub arrived : IfSome (grant_in entry) (λ wait. IsSome (key_known base wait.ticket past))
  pub joined : IfSome (grant_in entry) (λ wait. IsTrue (has_joined base wait.ticket wait.queue past))

-- each entry may follow those before it
abbrev pub AllFollow : List BaseRow → List Entry → List Entry → Type 0
AllFollow base past [] = Unit {0}
AllFollow base past (entry ∷ entries) = MayFollow base past entry × AllFollow base (past ++ entry ∷ []) entries

abbrev pub IsReadable : Window → Type 0
IsReadable window = AllFollow window.base [] window.entries

-- a ticket has arrived, the last time with this class and due date
abbrev pub HasArrived : List BaseRow → List Entry → ℕ → ℤ → ℤ → Type 0
HasArrived base log ticket class due = IsSomeAnd (key_known base ticket log) (λ it. (it.class ≡ class) × (it.due ≡ due))
