use Rattle.std.proofs.Common.{ℕ, inl, inr, refl, replicate, subst, sym}
use Rattle.relay_workers.specs.Checks.{HasChecked}
use Rattle.relay_workers.specs.Checks.HasChecked.{began, round}
use Rattle.relay_workers.proofs.checking.checker.Goals as goal

-- each check is due at once
pub loop-init : goal.loop-init
loop-init g c =
    subst (λ (zero : ℕ). HasChecked g.N.BoardName.terms g.N.DeskName.setup c.args.proxy.now.config.servers (g.G.Gate.notes c.args.gate.now)
    (g.P.Pause.left c.begin.new.self) (g.G.Gate.notes c.args.gate.now) (replicate 64 zero) (g.P.Pause.left c.begin.new.self))
    (sym c.zero-next_checks.ensures) began

pub loop-preserved : goal.loop-preserved
loop-preserved g c = round _ _ _ _ _ _ c.loop.invariant c.check_each.ensures c.if-not-turn.ensures.more

pub returns-in-Some-sign : goal.returns-in-Some-sign
returns-in-Some-sign g c = (
  _,
  _,
  _,
  subst (λ (most : ℕ). HasChecked g.N.BoardName.terms g.N.DeskName.setup c.args.proxy.now.config.servers (g.G.Gate.notes c.args.gate.now) most
      (g.G.Gate.notes c.loop.gate) c.loop.next_checks (g.P.Pause.left c.loop.pause)) c.begin.ensures.left c.loop.invariant,
  inl (c.in-Some-sign.ensures, refl, refl),
)

pub returns-then-not-turn : goal.returns-then-not-turn
returns-then-not-turn g c = (
  _,
  _,
  _,
  subst (λ (most : ℕ). HasChecked g.N.BoardName.terms g.N.DeskName.setup c.args.proxy.now.config.servers (g.G.Gate.notes c.args.gate.now) most
      (g.G.Gate.notes c.loop.gate) c.loop.next_checks (g.P.Pause.left c.loop.pause)) c.begin.ensures.left c.loop.invariant,
  inr (c.check_each.new.next_checks, c.check_each.ensures, c.if-not-turn.ensures.spent.0, c.if-not-turn.ensures.spent.1),
)
