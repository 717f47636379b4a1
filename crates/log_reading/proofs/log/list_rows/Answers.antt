use Rattle.std.proofs.Common.{◌≡◌, ◌<◌, ◌++◌, ◌∷◌, [], length, take, Vec, Global, vec_capacity, ap, sym, ◌∙◌, arith}
use Rattle.std.proofs.lemmas.List.{append-nil}
use Rattle.log_reading.specs.Windows.{base_rows}
use Rattle.log_reading.specs.declared.base.BaseRow.{BaseRow}
use Rattle.log_reading.proofs.Bases.{listed_row, base_rows-more, base_rows-fit}
use Rattle.log_reading.proofs.log.list_rows.Goals.{in-Some, in_default}
use Rattle.log_reading.proofs.log.list_rows.Goals as goal

pub push_reserved-requires : goal.push_reserved-requires
push_reserved-requires c =
    let before = c.loop-row.invariant in
    let same : length c.loop-row.list.items ≡ length (base_rows (take c.loop-row.row-index c.args.rows.now)) = ap length before.so_far in
    let few : length (base_rows (take c.loop-row.row-index c.args.rows.now)) < length c.args.rows.now =
    base_rows-fit c.args.rows.now c.loop-row.row-index c.loop-row-test.true in
    let room = before.room in
    let fits = before.fits in
    omega (arith, c.loop-row.list.ok.0)

pub loop-row-preserved : goal.loop-row-preserved
loop-row-preserved c =
    let before = c.loop-row.invariant in
    let i = c.loop-row.row-index in
    let rows = c.args.rows.now in
    let more = base_rows-more rows i c.row-item.result c.loop-row-test.true c.row-item.is in
    elim c.match-row.branch [
      | in-Some w ↦
          let row = w.in-Some.row in
          record {
            so_far =
                ap (λ (v : Vec BaseRow Global). v.items) w.list-is ∙ w.push_reserved.ensures.items
                ∙ ap (λ l. l ++ record { ticket = row.key.ticket; class = row.key.class; due = row.key.due; queue = w.queue.result } ∷ []) before.so_far
                ∙ ap (λ q. base_rows (take i rows) ++ record {
                  ticket = row.key.ticket;
                  class = row.key.class;
                  due = row.key.due;
                  queue = q;
                } ∷ []) w.queue.ensures
                ∙ sym (more ∙ ap (λ x. base_rows (take i rows) ++ listed_row x) w.in-Some.is);
            room = ap (λ (v : Vec BaseRow Global). vec_capacity v) w.list-is ∙ w.push_reserved.ensures.capacity ∙ before.room;
            fits = before.fits;
          }
      | in_default w ↦
          record {
            so_far =
                ap (λ (v : Vec BaseRow Global). v.items) w.list-is ∙ before.so_far
                ∙ sym (more ∙ ap (λ x. base_rows (take i rows) ++ listed_row x) w.in_default.is ∙ append-nil (base_rows (take i rows)));
            room = ap (λ (v : Vec BaseRow Global). vec_capacity v) w.list-is ∙ before.room;
            fits = before.fits;
          }
    ]
