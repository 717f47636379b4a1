use Rattle.std.proofs.Common.{◌≡◌, ◌<◌, length, slice_get, slice_set, refl, ap, sym, subst, ◌∙◌, arith}
use Rattle.std.proofs.Math.ListN.{length-set}
use Rattle.log_entries.specs.Rows.{Rows}
use Rattle.log_entries.specs.States.{State}
use Rattle.base_lists.proofs.Front.{copied_next, copied_all}
use Rattle.slot_ledger.specs.Cells.{rows_in}
use Rattle.dispatch_state.proofs.Rolling.{rows_long}
use Rattle.dispatch_state.proofs.windows.save_rows.Goals as goal

pub loop-place-init : goal.loop-place-init
loop-place-init g c = record {
  same = refl;
  long = c.requires ∙ sym (rows_long c.args.ledger.now.cells);
  saved = λ k few. absurd (omega (arith, few));
}

pub loop-place-preserved : goal.loop-place-preserved
loop-place-preserved g c =
    let inv = c.loop-place.invariant in
    let rows : c.set_row.new.self.rows ≡ slice_set c.loop-place.base.rows c.loop-place.place c.cell.result =
    ap (λ (s : State). s.rows) c.set_row.ensures in
    let many = rows_long c.args.ledger.now.cells in
    let within : c.loop-place.place < length c.loop-place.base.rows =
    (let t = c.loop-place-test.true in let e = c.places-place-end.ensures in let l = inv.long in omega arith) in
    record {
      same = c.set_row.ensures ∙ ap (λ (s : State). record s { rows = slice_set c.loop-place.base.rows c.loop-place.place c.cell.result }) inv.same
          ∙ ap (λ (r : Rows). record c.args.base.now { rows = r }) (sym rows);
      long = ap length rows ∙ length-set c.loop-place.base.rows c.loop-place.place c.cell.result ∙ inv.long;
      saved = λ k few. ap (λ (r : Rows). slice_get r k) rows
          ∙ copied_next c.loop-place.base.rows (rows_in c.args.ledger.now.cells) c.loop-place.place c.cell.result inv.long within c.cell.ensures inv.saved k
          few;
    }

pub returns : goal.returns
returns g c =
    let inv = c.loop-place.invariant in
    let many = rows_long c.args.ledger.now.cells in
    let long = inv.long in
    let all : c.loop-place.place ≡ length c.loop-place.base.rows =
    (let f = c.loop-place-test.false in let a = c.loop-place.auto.place-end in let e = c.places-place-end.ensures in omega arith) in
    inv.same
    ∙ ap (λ (r : Rows). record c.args.base.now { rows = r })
    (copied_all c.loop-place.base.rows (rows_in c.args.ledger.now.cells) long (λ k few. inv.saved k (subst (λ n. k < n) (sym all) few)))
