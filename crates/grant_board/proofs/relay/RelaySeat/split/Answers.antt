use Rattle.std.proofs.Common.{ap, false}
use Rattle.grant_board.proofs.Counting.{counted_new}
use Rattle.grant_board.proofs.relay.RelaySeat.split.Goals as goal

pub invariant_of-result : goal.invariant_of-result
invariant_of-result c =
    let x = c.self.inside.relaying in
    counted_new c.split-relaying.result x.view.terms false c.none.result
    (ap (λ y. y.view) c.split-relaying.ensures.child) c.none.ensures c.self.invariant.few_places c.self.invariant.few_servers
