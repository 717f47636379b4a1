use Rattle.std.proofs.Common.{rules, ◌≡◌, ℕ, false, subst, sym}
use Rattle.run_gate.specs.Probes.{is_late}
use Rattle.run_gate.proofs.Running.{not_over, laid_twice}
use Rattle.run_gate.proofs.gate.SocketGateGate.probe.Goals as goal

-- the check is laid back
pub returns-in-Some-get_mut-clause-running : goal.returns-in-Some-get_mut-clause-running
returns-in-Some-get_mut-clause-running g c =
    let probe = c.in-Ok.probe in
    let then : c.take_probe.new.self.last ≡ c.now-now.result = search rules in (
      probe,
      search rules,
      subst (λ (now : ℕ). is_late probe.since probe.patience now ≡ false) (sym then) (not_over _ _ _ c.in-None.ensures),
      search (rules, laid_twice),
    )
