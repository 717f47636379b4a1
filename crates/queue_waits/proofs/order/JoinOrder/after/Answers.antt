use Rattle.std.proofs.Common.{◌<◌, ap, sym, ◌∙◌, None, Some, cond, arith}
use Rattle.std.proofs.lemmas.Bool.{eq-eqb, ne_eqb}
use Rattle.queue_waits.proofs.Cells.{place_within, follows}
use Rattle.queue_waits.proofs.order.JoinOrder.after.Goals as goal

pub index-at-requires : goal.index-at-requires
index-at-requires c =
    let low : c.args.place < c.self.inside.room = place_within _ _ _ _ c.self.view_is c.self.invariant _ c.requires in
    let cells = c.self.invariant.next_cells in
    omega arith

pub returns-then-at-self : goal.returns-then-at-self
returns-then-at-self c =
    ap (λ b. cond b None (Some c.index-at.result.now)) (sym (eq-eqb _ _ c.if-at-self.true))
    ∙ sym (follows _ _ _ _ c.self.view_is c.self.invariant _ c.requires _ c.index-at.ensures)

pub returns-else-at-self : goal.returns-else-at-self
returns-else-at-self c =
    ap (λ b. cond b None (Some c.index-at.result.now)) (sym (ne_eqb _ _ c.if-at-self.false))
    ∙ sym (follows _ _ _ _ c.self.view_is c.self.invariant _ c.requires _ c.index-at.ensures)
