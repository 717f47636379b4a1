use Rattle.std.proofs.Common.{◌≡◌, ◌+◌, ap, sym, refl, subst, arith}
use Rattle.grant_board.specs.Ruled.{at_rest}
use Rattle.grant_board.specs.KeeperCalls.{MayLimit, limit_after}
use Rattle.grant_board.specs.Plays.{keeper_of, keeper_seat}
use Rattle.grant_board.specs.Rule.{terms_of}
use Rattle.grant_board.proofs.Seating.{keeper_table, has_word, server_near, limits_at, keeper_kept, keeper_value, keeper_rests, keeper_ruled}
use Rattle.grant_board.proofs.keeper.KeeperSeat.limit.Goals as goal

pub store-requires : goal.store-requires
store-requires c =
    let seat = c.self.inside.seat in
    let k = (keeper_of seat.me.0.keepers).view in
    let shared = c.board.inside.table.shared in
    let same = c.requires.same_board in
    let table = keeper_table seat.table_id k c.args.self.now shared.table_id c.args.board.now c.self.view_is same c.board.view_is in
    let may = subst (λ x. MayLimit x.view c.args.server c.args.bound) (sym c.self.view_is) c.requires.may_limit in
    let word : c.self.inside.places + c.args.server ≡ k.terms.places + c.args.server = omega (arith, c.self.invariant.table.places_are) in (
      table,
      has_word _ _ _ _ _ c.self.invariant.table table (server_near _ _ _ _ c.self.invariant.table may.0),
      limits_at (terms_of shared.key) shared.table_id.slots seat.id seat.me (at_rest k) c.self.invariant.me c.args.server _ _ word may,
    )

-- what the step tells
told : (c : goal.After-store)
    → c.store.new.seat.me ≡ keeper_seat (at_rest (limit_after (keeper_of c.self.inside.seat.me.0.keepers).view c.args.server c.args.bound))
told c =
    let k = keeper_of c.self.inside.seat.me.0.keepers in
    let may = subst (λ x. MayLimit x.view c.args.server c.args.bound) (sym c.self.view_is) c.requires.may_limit in
    keeper_rests c.store.new.seat.me k _ (ap (λ m. (keeper_of m.0.keepers).sight) c.self.invariant.me)
    (c.store.ensures.2.0 c.args.server may.0 (omega (arith, c.self.invariant.table.places_are)))

pub invariant_of-self : goal.invariant_of-self
invariant_of-self c =
    let seat = c.self.inside.seat in
    let to = c.store.new.seat in
    let k = (keeper_of seat.me.0.keepers).view in
    keeper_kept seat.table_id to.table_id c.self.inside.places to.me k _ (told c) refl c.store.ensures.0 c.self.invariant.table

pub returns-clause-limited : goal.returns-clause-limited
returns-clause-limited c =
    let seat = c.self.inside.seat in
    let to = c.store.new.seat in
    let k = (keeper_of seat.me.0.keepers).view in
    keeper_value (λ v. limit_after v c.args.server c.args.bound) seat.table_id to.table_id to.me k c.args.self.now c.store.ensures.0 c.self.view_is
    (told c)

pub returns-clause-ruled : goal.returns-clause-ruled
returns-clause-ruled c = keeper_ruled c.store.new.seat.me _ (told c) c.store.ensures.2.1
