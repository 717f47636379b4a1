use Rattle.std.proofs.Math.Logic.{∥∥₁_map}
use Rattle.exchange_seated.proofs.Connecting.{opened_on, has_server}
use Rattle.exchange_seated.proofs.linked.Linked.open.Goals as goal

pub returns-clause-on : goal.returns-clause-on
returns-clause-on g c =
    let wanted = c.in-Some.ensures.wanted in
    ∥∥₁_map (c.args.self.now.unsent wanted.1 (has_server _ _ wanted.0)) (λ it. opened_on _ it.0 _ c.new.ensures.waits it.1 it.2)
