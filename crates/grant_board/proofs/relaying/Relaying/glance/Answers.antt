use Rattle.std.proofs.Common.{ap}
use Rattle.grant_board.specs.Plays.{relay_of}
use Rattle.grant_board.specs.Rule.{terms_of}
use Rattle.grant_board.proofs.Seating.{relay_table, place_near, glances_at, relay_ruled}
use Rattle.grant_board.proofs.relaying.Relaying.glance.Goals as goal

pub load-requires : goal.load-requires
load-requires c =
    let seat = c.self.inside.seat in
    let r = relay_of seat.me.0.relays in
    let shared = c.board.inside.table.shared in
    let table = relay_table seat.table_id r c.args.self.now shared.table_id c.args.board.now c.self.view_is c.requires.same_board c.board.view_is in (
      table,
      place_near _ _ _ _ _ _ c.self.invariant.table table (ap (λ x. x.view.terms) c.self.view_is) c.requires.in_range,
      glances_at (terms_of shared.key) shared.table_id.slots seat.id seat.me c.self.invariant.me c.args.place,
    )

pub returns-clause-ruled : goal.returns-clause-ruled
returns-clause-ruled c = relay_ruled c.load.new.seat.me _ c.load.ensures.2.0 c.load.ensures.2.1
