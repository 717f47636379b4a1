use Rattle.std.proofs.Common.{rules, true, ℕ, List, Option, get_or, ◌≡◌, ◌<◌, Some, is_some, cond, length, subst, sym, ap, ◌∙◌, w64}
use Rattle.std.proofs.Math.ListN.{set}
use Rattle.std.specs.Int.{int_max}
use Rattle.std.specs.Option.{option_map_or}
use Rattle.std.proofs.lemmas.Int.{to_z-of_z}
use Rattle.log_entries.specs.Rows.{same_queue}
use Rattle.log_entries.specs.Queues.{IsQueueOf}
use Rattle.late_cert.specs.Table.{row_at, worst_of, IsTable}
use Rattle.late_cert.specs.declared.worsts.Worsts.{Worsts}
use Rattle.late_cert.proofs.ClassRows.{each_class, row_of-at}
use Rattle.late_cert.proofs.Rooms.{row_in, table_with}
use Rattle.late_cert.proofs.Tables.{noted, room_kept}
use Rattle.late_cert.proofs.table.Running.granted.Goals as goal

within : (c : goal.After-self-3-1) → c.row_of.result < length c.args.self.now.table.items
within c = subst (λ n. c.row_of.result < n) (sym c.args.self.now.whole.long) c.row_of.ensures.in_range

stands : (c : goal.After-self-3-1) → row_at c.args.self.now.table.items c.row_of.result ≡ Some c.in-Some.row
stands c =
    row_in c.args.self.now.servers c.args.self.now.table.items c.row_of.result c.index_mut.result.now c.args.self.now.whole c.row_of.ensures.in_range
    c.index_mut.ensures.value ∙ c.in-Some.is

pub returns-clause-worst : goal.returns-clause-worst
returns-clause-worst c =
    noted c.args.self.now.table.items c.row_of.result c.in-Some.row c.note.new.self c.args.queue c.args.class c.args.late c.row_of.ensures.number
    (within c) (stands c) c.row_of.ensures.class
    (λ other. subst (λ z. worst_of c.note.new.self other
    ≡ cond (same_queue other c.args.queue) (Some (option_map_or (int_max z) (worst_of c.in-Some.row c.args.queue) z)) (worst_of c.in-Some.row other))
    (to_z-of_z w64 c.args.late c.ranges.late) (c.note.ensures.worst other))

pub returns-clause-room : goal.returns-clause-room
returns-clause-room c other =
    each_class is_some c.args.self.now.table.items (set c.args.self.now.table.items c.row_of.result (Some c.note.new.self))
    (room_kept c.args.self.now.table.items c.row_of.result c.in-Some.row c.note.new.self (within c) (stands c)) other

pub unreachable-requires : goal.unreachable-requires
unreachable-requires c =
    let table = c.args.self.now.table.items in
    let some : is_some (row_at table c.row_of.result) ≡ true =
    ap is_some (sym (row_of-at c.args.class c.row_of.result c.row_of.ensures.number table)) ∙ c.requires.room in
    let read =
    row_in c.args.self.now.servers table c.row_of.result c.index_mut.result.now c.args.self.now.whole c.row_of.ensures.in_range c.index_mut.ensures.value in
    search rules

-- the row that was read is one of the table's
module _ (servers : ℕ) (table : List (Option Worsts)) (at : ℕ) (read : Option Worsts) (row : Worsts) (whole : IsTable servers table) (in_range : at < 4095)
    (value : read ≡ get_or table at read) (is : read ≡ Some row) where
  row_long : length row.servers.items ≡ servers
  row_long = whole.rows at row (row_in servers table at read whole in_range value ∙ is)

pub note-requires : goal.note-requires
note-requires c =
    let s = c.args.self.now in
    subst (λ n. IsQueueOf n c.args.queue) (sym (row_long s.servers s.table.items c.row_of.result c.index_mut.result.now c.in-Some.row s.whole
    c.row_of.ensures.in_range c.index_mut.ensures.value c.in-Some.is)) c.requires.queue

pub invariant_of-self : goal.invariant_of-self
invariant_of-self c =
    let s = c.args.self.now in
    let there : c.row_of.result < length s.table.items = subst (λ n. c.row_of.result < n) (sym s.whole.long) c.row_of.ensures.in_range in
    record {
      whole = table_with s.servers s.table.items c.row_of.result c.note.new.self there s.whole
          (c.note.ensures.long
          ∙ row_long s.servers s.table.items c.row_of.result c.index_mut.result.now c.in-Some.row s.whole c.row_of.ensures.in_range c.index_mut.ensures.value
          c.in-Some.is);
    }
