use Rattle.std.proofs.Common.{rules, ◌≡◌, Some, None, sym, ap, ◌∙◌}
use Rattle.std.specs.Option.{option_and_then}
use Rattle.late_cert.specs.Table.{worst_of}
use Rattle.late_cert.proofs.ClassRows.{row_of-at}
use Rattle.late_cert.proofs.Rooms.{row_in}
use Rattle.late_cert.proofs.table.Running.worst.Goals as goal

pub returns-in_err-as_ref-clause-worst : goal.returns-in_err-as_ref-clause-worst
returns-in_err-as_ref-clause-worst c =
    let table = c.args.self.now.table.items in
    let none : c.index.result.now ≡ None = search rules in
    c.from_residual.ensures
    ∙ sym (ap (option_and_then (λ row. worst_of row c.args.queue)) (row_of-at c.args.class c.row_of.result c.row_of.ensures.number table
    ∙ row_in c.args.self.now.servers table c.row_of.result c.index.result.now c.args.self.now.whole c.row_of.ensures.in_range c.index.ensures ∙ none))

pub returns-clause-worst : goal.returns-clause-worst
returns-clause-worst c =
    let table = c.args.self.now.table.items in
    let some : c.index.result.now ≡ Some c.in_ok-as_ref.field-0.now = search rules in
    c.of.ensures
    ∙ sym (ap (option_and_then (λ row. worst_of row c.args.queue)) (row_of-at c.args.class c.row_of.result c.row_of.ensures.number table
    ∙ row_in c.args.self.now.servers table c.row_of.result c.index.result.now c.args.self.now.whole c.row_of.ensures.in_range c.index.ensures ∙ some))
