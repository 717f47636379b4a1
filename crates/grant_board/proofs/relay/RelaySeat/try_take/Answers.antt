use Rattle.std.proofs.Common.{ap, subst, ◌∙◌, ◌<◌, length}
use Rattle.grant_board.specs.Views.{grant}
use Rattle.grant_board.specs.RelayCalls.{take_after}
use Rattle.grant_board.proofs.Counting.{server_room, counted_take}
use Rattle.grant_board.proofs.relay.RelaySeat.try_take.Goals as goal

pub add-requires-clause-server_room : goal.add-requires-clause-server_room
add-requires-clause-server_room c = server_room c.self.inside.relaying c.self.inside.first c.self.inside.tally c.self.invariant

pub invariant_of-self-2 : goal.invariant_of-self-2
invariant_of-self-2 c =
    let g = grant c.args.place c.args.ticket c.in-Some.verdict in
    let took = c.take.ensures.took c.if-not-take.false in
    counted_take c.self.inside.relaying c.take.new.self c.self.inside.first c.self.inside.tally c.add.new.self c.args.place c.glance-number.result g
    c.self.invariant
    (took ∙ ap (λ x. record { board = x.board; view = take_after x.view g }) c.glance-number.ensures.looked)
    (subst (λ x. length x.view.passes < x.view.terms.places) c.glance-number.ensures.looked (c.take.ensures.room c.if-not-take.false))
    (c.glance-number.ensures.is_place, c.in-Some.ensures.some.0) c.add.ensures.all c.add.ensures.of_server
