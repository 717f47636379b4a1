use Rattle.std.proofs.Common.{ap, ◌∙◌}
use Rattle.grant_board.specs.Plays.{relay_of}
use Rattle.grant_board.specs.Rule.{terms_of}
use Rattle.grant_board.proofs.Seating.{relay_table, some_word, branches_at}
use Rattle.grant_board.proofs.relaying.Relaying.split.Goals as goal

pub split_seat-seat-requires : goal.split_seat-seat-requires
split_seat-seat-requires c =
    let seat = c.self.inside.seat in
    let r = relay_of seat.me.0.relays in
    let shared = c.board.inside.table.shared in
    let table = relay_table seat.table_id r c.args.self.now shared.table_id c.args.board.now c.self.view_is c.requires.same_board c.board.view_is in (
      table,
      some_word _ _ _ _ c.self.invariant.table table,
      branches_at (terms_of shared.key) shared.table_id.slots seat.id seat.me c.self.invariant.me (ap (λ x. x.view.first) c.self.view_is ∙ c.requires.first),
    )
