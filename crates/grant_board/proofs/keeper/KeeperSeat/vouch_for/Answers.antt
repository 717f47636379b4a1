use Rattle.std.proofs.Common.{ap, ◌∙◌}
use Rattle.grant_board.specs.Ruled.{at_rest}
use Rattle.grant_board.specs.Plays.{keeper_of, relay_of}
use Rattle.grant_board.specs.Rule.{terms_of}
use Rattle.grant_board.proofs.Seating.{keeper_table, relay_table, some_word, keeper_beside, vouches_at, vouch_ruled}
use Rattle.grant_board.proofs.Joining.{beside_kept, cut_kept}
use Rattle.grant_board.proofs.keeper.KeeperSeat.vouch_for.Goals as goal

pub join_seat-requires : goal.join_seat-requires
join_seat-requires c =
    let seat = c.self.inside.seat in
    let other = c.relaying.inside.seat in
    let shared = c.board.inside.table.shared in
    let table = keeper_table seat.table_id (keeper_of seat.me.0.keepers).view c.args.self.now shared.table_id c.args.board.now c.self.view_is
    c.requires.same_board c.board.view_is in
    let same = relay_table other.table_id (relay_of other.me.0.relays) c.args.relaying shared.table_id c.args.board.now c.relaying.view_is
    c.requires.relay_board c.board.view_is in (
      table,
      same,
      ap (λ m. m.1) c.relaying.invariant.me,
      some_word _ _ _ _ c.self.invariant.table table,
      beside_kept (terms_of shared.key) seat.id seat.me.0 other.id other.me.0,
    )

pub load-requires : goal.load-requires
load-requires c =
    let seat = c.self.inside.seat in
    let other = c.relaying.inside.seat in
    let shared = c.board.inside.table.shared in
    let table = keeper_table seat.table_id (keeper_of seat.me.0.keepers).view c.args.self.now shared.table_id c.args.board.now c.self.view_is
    c.requires.same_board c.board.view_is in
    let k = at_rest (keeper_of seat.me.0.keepers).view in
    let me = keeper_beside seat.me other.me c.join_seat.new.seat.me k
    (relay_of other.me.0.relays) c.self.invariant.me c.relaying.invariant.me c.join_seat.ensures.2 in (
      c.join_seat.ensures.0 ∙ table,
      some_word _ _ _ _ c.self.invariant.table table,
      vouches_at (terms_of shared.key) shared.table_id.slots c.join_seat.new.seat.id c.join_seat.new.seat.me k (relay_of other.me.0.relays) 0 me,
    )

pub split_seat-seat-requires : goal.split_seat-seat-requires
split_seat-seat-requires c =
    let seat = c.self.inside.seat in
    let shared = c.board.inside.table.shared in
    let table = keeper_table seat.table_id (keeper_of seat.me.0.keepers).view c.args.self.now shared.table_id c.args.board.now c.self.view_is
    c.requires.same_board c.board.view_is in (
      c.load.ensures.0 ∙ (c.join_seat.ensures.0 ∙ table),
      some_word _ _ _ _ c.self.invariant.table table,
      cut_kept (terms_of shared.key) c.load.new.seat.id c.load.new.seat.me.0,
    )

pub returns-clause-ruled : goal.returns-clause-ruled
returns-clause-ruled c =
    let seat = c.self.inside.seat in
    let other = c.relaying.inside.seat in
    let q = relay_of other.me.0.relays in
    let me = keeper_beside seat.me other.me c.join_seat.new.seat.me
    (at_rest (keeper_of seat.me.0.keepers).view) q c.self.invariant.me c.relaying.invariant.me c.join_seat.ensures.2 in
    vouch_ruled c.load.new.seat.me c.split_seat-seat.new.seat.me (keeper_of c.join_seat.new.seat.me.0.keepers) _
    (relay_of c.join_seat.new.seat.me.0.relays) c.args.relaying.view c.load.ensures.2.0.0
    (ap (λ x. (keeper_of x.0.keepers).sight) me) c.split_seat-seat.ensures.2 (ap (λ x. relay_of x.0.relays) me
    ∙ ap (λ x. x.view) c.relaying.view_is) c.load.ensures.2.1
