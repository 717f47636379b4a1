use Rattle.std.proofs.Common.{◌≡◌, ℕ, sym, subst}
use Rattle.loop_table.specs.Timers.{Timeouts, IsOverdueAt, later_at}
use Rattle.loop_shared.proofs.outside.Outside.take_late.Goals as goal

pub returns-clause-some : goal.returns-clause-some
returns-clause-some c =
    let now = later_at c.args.self.now.timers c.args.now in
    let gone = c.in_ok-outsider.ensures.some in (
      c.in-Some.overdue.keyword,
      c.in_ok-token.token,
      subst (λ (cell : ℕ). IsOverdueAt now c.in-Some.overdue.keyword cell) (sym c.in_ok-token.ensures.index)
          (subst (λ (timers : Timeouts). IsOverdueAt timers c.in-Some.overdue.keyword c.in-Some.overdue.cell) c.look_at_clock.ensures c.in-Some.ensures.over),
      record { standing = gone.standing; stood = gone.stood; held = gone.held; order = gone.order; closes = gone.closes; patience = gone.patience },
    )
