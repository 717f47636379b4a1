use Rattle.std.proofs.Common.{rules, ◌∙◌, subst, sym, refl}
use Rattle.dispatch_state.specs.declared.position.Ticketed.{Ticketed}
use Rattle.grant_board.specs.RelayCalls.{Answers}
use Rattle.grant_board.specs.Views.{Grant}
use Rattle.grant_board.specs.declared.pass.Taking.TheVariants.{Taken, NotYet}
use Rattle.relay_workers.specs.Waiting.{Holds}
use Rattle.relay_workers.specs.Waiting.HasWaited.{began, held}
use Rattle.relay_workers.proofs.waiting.wait.Goals as goal

pub loop-init : goal.loop-init
loop-init g c = (search rules, search rules, search rules, search rules, record { left_is = refl; told_is = refl }, search rules, began)

pub returns-in-Taken-clause-takes : goal.returns-in-Taken-clause-takes
returns-in-Taken-clause-takes g c = (
  _,
  c.loop.patience,
  c.loop.invariant.6,
  subst (λ (pass : Grant). Answers c.loop.seat.view c.try_take.new.self.view c.args.admitted.at.place c.args.admitted.at.ticket (Taken pass))
      (sym c.new.ensures.1)
      (subst (λ (at : Ticketed). Answers c.loop.seat.view c.try_take.new.self.view at.place at.ticket (Taken c.in-Taken.pass)) c.loop.invariant.2
      c.in-Taken.ensures.answer),
  refl,
  refl,
)

pub loop-preserved : goal.loop-preserved
loop-preserved g c = (
  search rules,
  search rules,
  search rules,
  search rules,
  record {
    left_is = c.hold-patience.ensures.client.left_is ∙ c.loop.invariant.4.left_is;
    told_is = c.hold-patience.ensures.client.told_is ∙ c.loop.invariant.4.told_is;
  },
  search rules,
  held _ _ _ _ c.loop.invariant.6 (λ is. (let no = c.if-is_spent.ensures.1 is in cc))
      (subst (λ (at : Ticketed). Answers c.loop.seat.view c.try_take.new.self.view at.place at.ticket NotYet) c.loop.invariant.2 c.in-NotYet.ensures.answer)
      (subst (λ (at : Ticketed). Holds g.N.BoardName.terms g.N.DeskName.setup at.ticket (g.G.Gate.notes c.loop.hand.runner.gate)
      (g.G.Gate.notes c.hold-patience.new.hand.runner.gate) (g.P.Pause.left c.loop.hand.pause) (g.P.Pause.left c.hold-patience.new.hand.pause)
      c.loop.patience c.hold-patience.result) c.loop.invariant.2 c.hold-patience.ensures.holds),
)
