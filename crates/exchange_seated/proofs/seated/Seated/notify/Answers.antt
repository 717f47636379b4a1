use Rattle.std.proofs.Common.{◌∙◌, List, ◌++◌, sym, ap, append-nil, subst}
use Rattle.grant_board.specs.Views.{Grant}
use Rattle.exchange_events.specs.Passes.{held_by}
use Rattle.exchange_events.specs.Answers.{Does}
use Rattle.exchange_events.specs.Steps as steps
use Rattle.exchange_events.specs.declared.event.Event.{Event}
use Rattle.exchange_seated.proofs.Connecting.{holds_on}
use Rattle.exchange_seated.proofs.Seating.{gone_few}
use Rattle.exchange_seated.proofs.seated.Seated.notify.Goals as goal

pub part-seated-requires-clause-own : goal.part-seated-requires-clause-own
part-seated-requires-clause-own g c = c.event.ensures.own _ c.step-next.ensures.own

pub part-seated-requires-clause-few : goal.part-seated-requires-clause-few
part-seated-requires-clause-few g c = gone_few _ _ _ (c.step-next.ensures.passes c.args.self.at) (c.event.ensures.none _)

pub returns-clause-holds : goal.returns-clause-holds
returns-clause-holds g c =
    holds_on _ _ _ _ (sym (append-nil (held_by c.args.self.exchange)) ∙ ap (λ (l : List Grant). held_by c.args.self.exchange ++ l) (sym (c.event.ensures.none _))
    ∙ c.step-next.ensures.passes c.args.self.at) c.part-seated.ensures.exchange

pub returns-clause-at : goal.returns-clause-at
returns-clause-at g c h at = (
  steps.heard c.args.self.exchange c.event.result c.step-next.result.used h,
  c.step-next.result.outcome,
  c.event.ensures.sent c.args.self.exchange c.step-next.result.used h,
  c.event.ensures.came c.args.self.exchange c.step-next.result.used h,
  subst (λ x. steps.IsAtItsStage x (steps.history_after c.args.self.exchange c.event.result c.step-next.result.used c.step-next.result.outcome h))
      (sym c.part-seated.ensures.exchange) (c.step-next.ensures.at h at),
  c.part-seated.ensures.retries,
  c.part-seated.ensures.anew,
  c.part-seated.ensures.ends,
)

pub returns-clause-does : goal.returns-clause-does
returns-clause-does g c =
    let step = c.step-next.result in
    let does = subst (λ (e : Event). Does c.args.settings.rules.aborts c.args.self.exchange e step.used step.outcome step.next) c.event.ensures.of c.step-next.ensures.does in
    (step.used, step.outcome, rw c.part-seated.ensures.exchange does, c.part-seated.ensures.retries, c.part-seated.ensures.anew, c.part-seated.ensures.ends)
