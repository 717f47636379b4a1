use Rattle.std.proofs.Common.{ap, sym, subst, Contains, arith}
use Rattle.grant_board.specs.Plays.{relay_of}
use Rattle.grant_board.specs.Views.{grant}
use Rattle.grant_board.specs.Rule.{terms_of}
use Rattle.grant_board.proofs.Seating.{relay_table, posts_at, relay_ruled}
use Rattle.grant_board.proofs.relaying.Relaying.post.Goals as goal

pub store-requires : goal.store-requires
store-requires c =
    let seat = c.self.inside.seat in
    let r = relay_of seat.me.0.relays in
    let shared = c.board.inside.table.shared in
    let table = relay_table seat.table_id r c.args.self.now shared.table_id c.args.board.now c.self.view_is c.requires.same_board c.board.view_is in (
      table,
      omega (arith, c.requires.in_range, ap (λ x. x.board.words) c.self.view_is, ap (λ x. x.words) table),
      posts_at (terms_of shared.key) shared.table_id.slots seat.id seat.me c.self.invariant.me c.args.place c.args.ticket c.args.verdict c.args.ending _
          c.encode-posted.ensures c.requires.word (subst (λ x. Contains x.view.passes (grant c.args.place c.args.ticket c.args.verdict))
          (sym c.self.view_is) c.requires.held),
    )

pub returns-clause-ruled : goal.returns-clause-ruled
returns-clause-ruled c = relay_ruled c.store.new.seat.me _
    (c.store.ensures.2.0 c.args.ticket c.args.verdict c.args.ending c.requires.word c.encode-posted.ensures).0 c.store.ensures.2.1
