use Rattle.relay_workers.specs.Checks.{HasChecked}
use Rattle.relay_workers.proofs.checking.checker.Given as goal

-- each round so far was made, and a pause after it
abbrev pub invariant-loop : goal.invariant-loop
invariant-loop g l =
    HasChecked g.N.BoardName.terms g.N.DeskName.setup l.proxy.config.servers (g.G.Gate.notes l.initial.gate) (g.P.Pause.left l.initial.pause)
    (g.G.Gate.notes l.gate) l.next_checks (g.P.Pause.left l.pause)
