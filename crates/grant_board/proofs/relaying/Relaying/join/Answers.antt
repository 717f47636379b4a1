use Rattle.std.proofs.Common.{ap, ◌∙◌}
use Rattle.grant_board.specs.Plays.{relay_of}
use Rattle.grant_board.specs.Rule.{terms_of}
use Rattle.grant_board.proofs.Seating.{relay_table, some_word, gathered_seat, gathers_at, counts_at, relay_ruled}
use Rattle.grant_board.proofs.relaying.Relaying.join.Goals as goal

pub join_seat-requires : goal.join_seat-requires
join_seat-requires c =
    let seat = c.self.inside.seat in
    let other = c.other.inside.seat in
    let shared = c.board.inside.table.shared in
    let table = relay_table seat.table_id (relay_of seat.me.0.relays) c.args.self.now shared.table_id c.args.board.now c.self.view_is c.requires.same_board
    c.board.view_is in
    let same = relay_table other.table_id (relay_of other.me.0.relays) c.args.other shared.table_id c.args.board.now c.other.view_is c.requires.other_board
    c.board.view_is in (
      table,
      same,
      ap (λ m. m.1) c.other.invariant.me,
      some_word _ _ _ _ c.self.invariant.table table,
      gathers_at (terms_of shared.key) shared.table_id.slots seat.id seat.me c.self.invariant.me other.id other.me c.other.invariant.me
          (ap (λ x. x.view.first) c.self.view_is ∙ c.requires.first),
    )

pub load-requires : goal.load-requires
load-requires c =
    let seat = c.self.inside.seat in
    let shared = c.board.inside.table.shared in
    let table = relay_table seat.table_id (relay_of seat.me.0.relays) c.args.self.now shared.table_id c.args.board.now c.self.view_is c.requires.same_board
    c.board.view_is in
    let me = gathered_seat seat.me c.other.inside.seat.me c.join_seat.new.seat.me (ap (λ m. m.1) c.self.invariant.me) c.join_seat.ensures.2 in (
      c.join_seat.ensures.0 ∙ table,
      some_word _ _ _ _ c.self.invariant.table table,
      counts_at (terms_of shared.key) shared.table_id.slots c.join_seat.new.seat.id c.join_seat.new.seat.me me 0,
    )

pub returns-clause-ruled : goal.returns-clause-ruled
returns-clause-ruled c = relay_ruled c.load.new.seat.me _ c.load.ensures.2.0.0 c.load.ensures.2.1
