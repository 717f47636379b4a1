-- The index that a reader of a log keeps of its entries.
use Rattle.std.specs.Prelude.{◌≡◌, ℕ, List, is_some}
use Rattle.std.specs.BTreeMap.{get}
use Rattle.std.specs.Option.{unwrap_or}
use Rattle.std.specs.Ordering.{nat_cmp, ordering_then}
use Rattle.std.specs.declared.cmp.Ordering.{Ordering}
use Rattle.log_entries.specs.declared.entry.Entry.{Entry}
use Rattle.log_entries.specs.declared.queue.Queue.{Queue}
use Rattle.log_entries.specs.Rows.{queue_cmp}
use Rattle.log_reading.specs.declared.base.BaseRow.{BaseRow}
use Rattle.log_reading.specs.Grants.{key_known, joining_of, has_joined}
use Rattle.log_reading.specs.declared.read.Index.{Index}

-- the order of tickets in queues
abbrev pub wait_cmp : ℕ × Queue → ℕ × Queue → Ordering
wait_cmp a b = ordering_then (nat_cmp a.0 b.0) (queue_cmp a.1 b.1)

-- the index has each ticket's key, whether it joined each queue, and where it last did
pub record IsIndexOf (base : List BaseRow) (log : List Entry) (index : Index) : Type 0 where
  pub keys : (ticket : ℕ) → get nat_cmp index.keys ticket ≡ key_known base ticket log
  pub joined : (ticket : ℕ) (queue : Queue) → is_some (get wait_cmp index.joinings (ticket, queue)) ≡ has_joined base ticket queue log
  pub joinings : (ticket : ℕ) (queue : Queue) → unwrap_or (get wait_cmp index.joinings (ticket, queue)) 0 ≡ joining_of ticket queue log
