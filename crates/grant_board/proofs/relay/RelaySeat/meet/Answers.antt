use Rattle.std.proofs.Common.{ap, subst, arith, length, ◌<◌}
use Rattle.grant_board.specs.Ruled.{MeetRuled}
use Rattle.grant_board.proofs.Grants.{count_of_le}
use Rattle.grant_board.proofs.relay.RelaySeat.meet.Goals as goal

pub returns-clause-within_places : goal.returns-clause-within_places
returns-clause-within_places c =
    let near : c.args.server < 64 = omega (arith, c.requires.server, c.self.invariant.few_servers, ap (λ x. length x.view.terms.limits) c.self.view_is) in
    let mine = c.self.inside.relaying.view.passes in
    let theirs = c.other.inside.relaying.view.passes in
    omega (
      arith,
      c.from.ensures,
      c.from-2.ensures,
      c.self.invariant.of_server c.args.server near,
      c.other.invariant.of_server c.args.server near,
      count_of_le c.args.server mine,
      count_of_le c.args.server theirs,
      c.meet-relaying.ensures.apart.room,
      ap (λ x. x.view.terms.places) c.self.view_is,
    )

pub returns-clause-ruled : goal.returns-clause-ruled
returns-clause-ruled c = subst (λ x. MeetRuled c.meet-relaying.new.self.view x.view c.args.server c.meet-relaying.result.1) c.other.view_is
    c.meet-relaying.ensures.ruled
