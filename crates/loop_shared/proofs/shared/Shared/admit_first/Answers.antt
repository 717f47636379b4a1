use Rattle.std.proofs.Common.{◌≡◌, ◌∙◌, Result, Err, ap, subst}
use Rattle.std.specs.Result.{IfOk}
use Rattle.dispatch_state.specs.declared.position.Ticketed.{Ticketed}
use Rattle.log_entries.specs.declared.refusal.Refusal.{Refusal}
use Rattle.relay_workers.specs.Admissions.{IsAdmittedLate}
use Rattle.loop_shared.specs.Admissions.{AsksPlace}
use Rattle.loop_shared.proofs.shared.Shared.admit_first.Goals as goal

pub returns-in-Ok-arrived : goal.returns-in-Ok-arrived
returns-in-Ok-arrived g c =
    let taken = c.in-Ok.ensures.ok in (
      taken.deferred,
      taken.pinned,
      subst (λ (answer : Result Ticketed Refusal). IfOk answer (λ at. IsAdmittedLate g.N.BoardName.terms g.N.DeskName.setup taken.deferred at)) c.in-Ok-arrived.is taken.admitted,
      subst (λ (answer : Result Ticketed Refusal). AsksPlace g.N.BoardName.terms g.N.DeskName.setup taken.deferred answer (g.G.Gate.notes c.args.gate.now) (g.G.Gate.notes c.admit_one.new.gate)) c.in-Ok-arrived.is taken.asked,
    )

pub returns : goal.returns
returns g c =
    let taken = c.in-Ok.ensures.ok in (
      taken.deferred,
      c.in-Err-arrived.field-0,
      taken.pinned,
      λ full. taken.placed (c.in-Err-arrived.is ∙ ap (λ (refusal : Refusal). Err refusal) full),
      subst (λ (answer : Result Ticketed Refusal). AsksPlace g.N.BoardName.terms g.N.DeskName.setup taken.deferred answer (g.G.Gate.notes c.args.gate.now) (g.G.Gate.notes c.admit_one.new.gate)) c.in-Err-arrived.is taken.asked,
    )
