use Rattle.grant_board.specs.Views.{grant}
use Rattle.grant_board.proofs.Counting.{counted_post}
use Rattle.grant_board.proofs.relay.RelaySeat.post.Goals as goal

pub invariant_of-self : goal.invariant_of-self
invariant_of-self c =
    let p = c.pass.inside in
    counted_post c.self.inside.relaying c.post.new.self c.self.inside.first c.self.inside.tally c.remove.new.self
    (grant p.place p.ticket p.verdict) c.args.ending c.self.invariant c.post.ensures.posted c.post.ensures.weighs c.remove.ensures.all
    c.remove.ensures.of_server
