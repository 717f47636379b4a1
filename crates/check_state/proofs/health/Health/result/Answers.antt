use Rattle.std.proofs.Common.{◌≡◌, ◌≤◌, ◌+◌, ◌<◌, subst, sym, ap, ◌∙◌, cond}
use Rattle.check_state.specs.Standing.{IsHealthOf, results_to_turn}
use Rattle.check_state.specs.declared.health.Change.TheVariants.{WentDown, WentUp}
use Rattle.check_state.proofs.Steps.{same_result, further_result, turning_result}
use Rattle.check_state.proofs.health.Health.result.Goals as goal
use Rattle.check_state.proofs.health.Health.result.Goals.{then-ok, else-ok}

pub returns-then-ok-self-clause-health : goal.returns-then-ok-self-clause-health
returns-then-ok-self-clause-health c rise fall results is =
    (same_result rise fall results _ c.args.ok (subst (IsHealthOf rise fall results) (sym c.self.view_is) is) c.self.invariant c.if-ok-self.true).health

pub returns-then-ok-self-clause-change : goal.returns-then-ok-self-clause-change
returns-then-ok-self-clause-change c rise fall results is =
    (same_result rise fall results _ c.args.ok (subst (IsHealthOf rise fall results) (sym c.self.view_is) is) c.self.invariant c.if-ok-self.true).change_is

pub returns-then-self-needed-clause-health : goal.returns-then-self-needed-clause-health
returns-then-self-needed-clause-health c rise fall results is =
    (further_result rise fall results _ c.args.ok (subst (IsHealthOf rise fall results) (sym c.self.view_is) is) c.self.invariant c.if-ok-self.false
    (subst (λ n. c.self.inside.against + 1 < n) (c.results_to_turn-needed.ensures ∙ ap results_to_turn (sym c.self.view_is)) c.if-self-needed.true)).health

pub returns-then-self-needed-clause-change : goal.returns-then-self-needed-clause-change
returns-then-self-needed-clause-change c rise fall results is =
    (further_result rise fall results _ c.args.ok (subst (IsHealthOf rise fall results) (sym c.self.view_is) is) c.self.invariant c.if-ok-self.false
    (subst (λ n. c.self.inside.against + 1 < n) (c.results_to_turn-needed.ensures ∙ ap results_to_turn (sym c.self.view_is)) c.if-self-needed.true)).change_is

pub returns-after-ok-clause-health : goal.returns-after-ok-clause-health
returns-after-ok-clause-health c rise fall results is =
    (turning_result rise fall results _ c.args.ok (subst (IsHealthOf rise fall results) (sym c.self.view_is) is) c.self.invariant c.if-ok-self.false
    (subst (λ n. n ≤ c.self.inside.against + 1) (c.results_to_turn-needed.ensures ∙ ap results_to_turn (sym c.self.view_is)) c.if-self-needed.false)).health

pub returns-after-ok-clause-change : goal.returns-after-ok-clause-change
returns-after-ok-clause-change c rise fall results is =
    let told : c.if-ok.result ≡ cond c.args.ok WentUp WentDown =
    elim c.if-ok.branch [
      | then-ok w ↦ w.result-is ∙ ap (λ b. cond b WentUp WentDown) (sym w.if-ok.true)
      | else-ok w ↦ w.result-is ∙ ap (λ b. cond b WentUp WentDown) (sym w.if-ok.false)
    ]
    in
    told ∙ (turning_result rise fall results _ c.args.ok (subst (IsHealthOf rise fall results) (sym c.self.view_is) is) c.self.invariant c.if-ok-self.false
    (subst (λ n. n ≤ c.self.inside.against + 1) (c.results_to_turn-needed.ensures ∙ ap results_to_turn (sym c.self.view_is)) c.if-self-needed.false)).change_is
