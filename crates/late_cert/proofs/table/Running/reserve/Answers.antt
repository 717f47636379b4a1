use Rattle.std.proofs.Common.{is_some, inl, inr, refl, sym, ap, ◌∙◌}
use Rattle.std.specs.Option.{option_and_then}
use Rattle.base_lists.proofs.Never.{false_true}
use Rattle.late_cert.specs.Table.{worst_of}
use Rattle.late_cert.proofs.ClassRows.{row_of-at, class_place, each_class}
use Rattle.late_cert.proofs.Rooms.{row_missing, row_found, table_kept, room_made, room_left, same_worst}
use Rattle.late_cert.proofs.table.Running.reserve.Goals as goal

pub invariant_of-self : goal.invariant_of-self
invariant_of-self c =
    let none = row_missing _ _ _ _ _ c.args.self.now.whole c.row_of-row.ensures.in_range c.index.ensures c.is_none.ensures c.if-is_none.true in
    record { whole = table_kept _ _ c.in_ok-new.field-0 none.0 none.1 c.args.self.now.servers c.args.self.now.whole c.in_ok-new.ensures.long }

pub returns-in_ok-new-clause-ok : goal.returns-in_ok-new-clause-ok
returns-in_ok-new-clause-ok c =
    let none = row_missing _ _ _ _ _ c.args.self.now.whole c.row_of-row.ensures.in_range c.index.ensures c.is_none.ensures c.if-is_none.true in
    ap is_some (row_of-at c.args.class c.row_of-row.result c.row_of-row.ensures.number _)
    ∙ room_made _ _ c.in_ok-new.field-0 none.0 none.1 c.row_of-row.result refl

pub returns-in_ok-new-clause-room : goal.returns-in_ok-new-clause-room
returns-in_ok-new-clause-room c =
    let none = row_missing _ _ _ _ _ c.args.self.now.whole c.row_of-row.ensures.in_range c.index.ensures c.is_none.ensures c.if-is_none.true in
    λ other room. elim (class_place other) [
      | inl it ↦ ap is_some (it.1 _) ∙ room_left _ _ c.in_ok-new.field-0 none.0 none.1 it.0 (ap is_some (sym (it.1 _)) ∙ room)
      | inr none ↦ false_true (ap is_some (sym (none _)) ∙ room)
    ]

pub returns-in_ok-new-clause-worst : goal.returns-in_ok-new-clause-worst
returns-in_ok-new-clause-worst c =
    let none = row_missing _ _ _ _ _ c.args.self.now.whole c.row_of-row.ensures.in_range c.index.ensures c.is_none.ensures c.if-is_none.true in
    λ queue other. each_class (option_and_then (λ row. worst_of row queue)) _ _
    (same_worst _ _ c.in_ok-new.field-0 none.0 none.1 c.in_ok-new.ensures.none queue) other

pub returns-else-is_none-clause-ok : goal.returns-else-is_none-clause-ok
returns-else-is_none-clause-ok c =
    ap is_some (row_of-at c.args.class c.row_of-row.result c.row_of-row.ensures.number _)
    ∙ row_found _ _ _ _ _ c.args.self.now.whole c.row_of-row.ensures.in_range c.index.ensures c.is_none.ensures c.row_of-row.result refl c.if-is_none.false
