use Rattle.std.proofs.Common.{sym, ◌∙◌, subst, Option, ℕ}
use Rattle.std.specs.Option.{IfSome}
use Rattle.base_lists.proofs.Never.{false_true}
use Rattle.dispatch_state.specs.Timeouts.{HasRowAt, ExpiresAt}
use Rattle.dispatch_state.proofs.Expiring.{row_there, expires_there, expires_not}
use Rattle.dispatch_state.proofs.state.DispatchState.expired_at.Goals as goal

pub row-requires : goal.row-requires
row-requires g c =
    row_there _ _ c.self.invariant c.args.self.now c.self.view_is c.in_ok-at.at
    (subst (λ (o : Option ℕ). IfSome o (HasRowAt c.args.self.now)) c.in_ok-at.was c.requires)

pub returns-then-has_expired : goal.returns-then-has_expired
returns-then-has_expired g c = (
  c.in_ok-at.was,
  expires_there _ _ c.self.invariant c.args.self.now c.self.view_is c.setup.result.now c.args.now c.in_ok-at.at c.row.result c.setup.ensures.setup c.row.ensures
      (c.has_expired.ensures.0 c.if-has_expired.true),
)

pub returns-else-has_expired : goal.returns-else-has_expired
returns-else-has_expired g c =
    subst (λ (o : Option ℕ). IfSome o (λ at. ¬ (ExpiresAt c.args.self.now c.args.now at))) (sym c.in_ok-at.was)
    (expires_not _ _ c.self.invariant c.args.self.now c.self.view_is c.setup.result.now c.args.now c.in_ok-at.at c.row.result c.setup.ensures.setup
    c.row.ensures
    (λ expired. false_true (sym c.if-has_expired.false ∙ c.has_expired.ensures.1 expired)))
