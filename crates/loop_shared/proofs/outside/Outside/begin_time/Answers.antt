use Rattle.std.proofs.Common.{◌≡◌, ℕ, Option, Some, sym, subst}
use Rattle.loop_table.specs.Timers.{Timeouts, later_at}
use Rattle.loop_shared.specs.Timed.{Begins}
use Rattle.loop_shared.proofs.outside.Outside.begin_time.Goals as goal

pub returns-in-Some-clause-begins : goal.returns-in-Some-clause-begins
returns-in-Some-clause-begins c =
    subst (λ (patience : Option ℕ). Begins (later_at c.args.self.now.timers c.args.now) c.begin.new.self patience c.args.number) (sym c.in-Some.is)
    (subst (λ (timers : Timeouts). Begins timers c.begin.new.self (Some c.in-Some.patience) c.args.number) c.look_at_clock.ensures
    (c.begin.ensures.runs, c.begin.ensures.other))
