use Rattle.std.proofs.Common.{ap, sym, subst, ◌∙◌, take}
use Rattle.std.specs.Mem.Slots.{slots_items}
use Rattle.base_lists.specs.Weights.{total}
use Rattle.grant_board.specs.BoardWords.{nonzero}
use Rattle.grant_board.specs.Plays.{keeper_of, relay_of}
use Rattle.grant_board.specs.Rule.{terms_of}
use Rattle.grant_board.specs.Ruled.{at_rest}
use Rattle.grant_board.specs.KeeperCalls.{IsClosed}
use Rattle.grant_board.proofs.Seating.{keeper_table, relay_table, some_word, keeper_beside}
use Rattle.grant_board.proofs.Joining.{beside_kept}
use Rattle.grant_board.proofs.Ending.{ends}
use Rattle.grant_board.proofs.board.Board.close.Goals as goal

pub join_seat-requires : goal.join_seat-requires
join_seat-requires c =
    let seat = c.keeper.inside.seat in
    let other = c.relaying.inside.seat in
    let shared = c.self.inside.table.shared in
    let table = keeper_table seat.table_id (keeper_of seat.me.0.keepers).view c.args.keeper shared.table_id c.args.self c.keeper.view_is c.requires.keeper_board
    c.self.view_is in
    let same = relay_table other.table_id (relay_of other.me.0.relays) c.args.relay shared.table_id c.args.self (c.relaying.view_is
    ∙ c.relay.view_is) c.requires.relay_board c.self.view_is in (
      table,
      same,
      ap (λ m. m.1) c.relaying.invariant.me,
      some_word _ _ _ _ c.keeper.invariant.table table,
      beside_kept (terms_of shared.key) seat.id seat.me.0 other.id other.me.0,
    )

pub returns : goal.returns
returns c =
    let seat = c.keeper.inside.seat in
    let other = c.relaying.inside.seat in
    let k = (keeper_of seat.me.0.keepers).view in
    let r = relay_of other.me.0.relays in
    let relay = c.relaying.view_is ∙ c.relay.view_is in
    let last = c.close_with-closed.ensures.values.2 in
    let me = keeper_beside seat.me other.me c.join_seat.new.seat.me (at_rest k) r c.keeper.invariant.me c.relaying.invariant.me c.join_seat.ensures.2 in
    let closed = ends (terms_of c.self.inside.table.shared.key) c.join_seat.new.seat.id c.join_seat.new.seat.me k r c.left_over-left.result last.0
    (slots_items c.close_with-closed.result.words) last.1.0 last.1.1 me last.2
    (c.left_over-left.ensures ∙ ap (λ n. total nonzero (take n (slots_items c.close_with-closed.result.words))) c.keeper.invariant.table.places_are)
    (ap (λ x. x.view.first) relay ∙ c.requires.first) (ap (λ x. x.view.split) relay ∙ (c.requires.settled ∙ sym (ap (λ x. x.view.joined) relay))) in
    subst (λ x. IsClosed x.view c.args.relay.view c.left_over-left.result) c.keeper.view_is
    (subst (λ x. IsClosed k x.view c.left_over-left.result) relay closed)
