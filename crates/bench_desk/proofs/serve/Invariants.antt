use Rattle.std.proofs.Common.{◌≡◌}
use Rattle.bench_desk.proofs.serve.Given as goal

abbrev pub invariant-loop : goal.invariant-loop
invariant-loop g l = (l.relay.board ≡ g.N.BoardName.board) × (l.relay.view.terms ≡ g.N.BoardName.terms)
