-- How the worst of each queue and class is kept: a row for each class, the lowest one first.
use Rattle.std.specs.Prelude.{◌≡◌, ℕ, ℤ, pos, ◌+ℤ◌, List, [], ◌∷◌, Option, Some, None, slice_get, length, if◌then◌else◌}
use Rattle.std.specs.Option.{option_and_then, unwrap_or}
use Rattle.std.specs.Ordering.{int_eq}
use Rattle.due_key.specs.declared.class.TheConstants.{LOWEST_CLASS}
use Rattle.log_entries.specs.declared.queue.Queue.{Queue}
use Rattle.log_entries.specs.declared.queue.Queue.TheVariants.{Backend, Server}
use Rattle.late_cert.specs.declared.worsts.Worsts.{Worsts}

-- the row at a number, where there is one
abbrev pub row_at : List (Option Worsts) → ℕ → Option Worsts
row_at table at = unwrap_or (slice_get table at) None

-- the row of a class among rows of which the first is that of a lowest class, and each later one that of the next class;
-- none where that row isn't there, or the class has none
unfoldable pub row_from : ℤ → List (Option Worsts) → ℤ → Option Worsts
row_from lowest [] class = None
row_from lowest (row ∷ rows) class = if int_eq class lowest then row else row_from (lowest +ℤ pos 1) rows class

-- the row of a class in a table
abbrev pub row_of : List (Option Worsts) → ℤ → Option Worsts
row_of table class = row_from LOWEST_CLASS table class

-- the worst that a row says of a queue
abbrev pub worst_of : Worsts → Queue → Option ℤ
worst_of row Backend = row.backend
worst_of row (Server server) = unwrap_or (slice_get row.servers.items server) None

-- the worst of a queue and class in a table: what the class's row says of the queue, where that row is there
abbrev pub worst_at : List (Option Worsts) → Queue → ℤ → Option ℤ
worst_at table queue class = option_and_then (λ row. worst_of row queue) (row_of table class)

-- a table has 4,095 rows, and each that is there has a place for each server
pub record IsTable (servers : ℕ) (table : List (Option Worsts)) : Type 0 where
  pub long : length table ≡ 4095
  pub rows : (at : ℕ) (row : Worsts) → row_at table at ≡ Some row → length row.servers.items ≡ servers
