use Rattle.std.proofs.Common.{ap, sym, refl, subst, ◌≤◌, length}
use Rattle.grant_board.specs.Ruled.{at_rest}
use Rattle.grant_board.specs.KeeperCalls.{offer_after}
use Rattle.grant_board.specs.Plays.{keeper_of}
use Rattle.grant_board.specs.Views.{grant}
use Rattle.grant_board.specs.Rule.{terms_of}
use Rattle.grant_board.proofs.Keeping.{MayOffer}
use Rattle.grant_board.proofs.Seating.{keeper_table, place_near, may_offer, offers_at, keeper_kept, keeper_rests, keeper_ruled}
use Rattle.grant_board.proofs.keeper.KeeperSeat.offer.Goals as goal

pub store-requires : goal.store-requires
store-requires c =
    let seat = c.self.inside.seat in
    let k = (keeper_of seat.me.0.keepers).view in
    let shared = c.board.inside.table.shared in
    let table = keeper_table seat.table_id k c.args.self.now shared.table_id c.args.board.now c.self.view_is c.requires.same_board c.board.view_is in
    let few = subst (λ x. length x.view.terms.limits ≤ 64) c.self.view_is c.self.invariant.table.few_servers in
    let may = may_offer c.args.self.now.view c.args.place c.args.ticket c.args.verdict c.requires.in_range c.requires.free c.requires.ticket_fits
    c.requires.has_room few in (
      table,
      place_near _ _ _ _ _ _ c.self.invariant.table table (ap (λ x. x.view.terms) c.self.view_is) c.requires.in_range,
      offers_at (terms_of shared.key) shared.table_id.slots seat.id seat.me
          (at_rest k) c.self.invariant.me c.args.place c.args.ticket c.args.verdict _ c.encode-word.ensures
          (subst (λ x. MayOffer x.view c.args.place c.args.ticket c.args.verdict) (sym c.self.view_is) may),
    )

pub invariant_of-self : goal.invariant_of-self
invariant_of-self c =
    let seat = c.self.inside.seat in
    let k = (keeper_of seat.me.0.keepers).view in
    let few = subst (λ x. length x.view.terms.limits ≤ 64) c.self.view_is c.self.invariant.table.few_servers in
    let may = may_offer c.args.self.now.view c.args.place c.args.ticket c.args.verdict c.requires.in_range c.requires.free c.requires.ticket_fits
    c.requires.has_room few in
    keeper_kept seat.table_id c.store.new.seat.table_id c.self.inside.places c.store.new.seat.me k
    (offer_after k (grant c.args.place c.args.ticket c.args.verdict))
    (keeper_rests c.store.new.seat.me (keeper_of seat.me.0.keepers) _ (ap (λ m. (keeper_of m.0.keepers).sight) c.self.invariant.me)
    (c.store.ensures.2.0 c.args.ticket c.args.verdict may.word c.encode-word.ensures)) refl c.store.ensures.0 c.self.invariant.table

pub returns-clause-ruled : goal.returns-clause-ruled
returns-clause-ruled c =
    let seat = c.self.inside.seat in
    let few = subst (λ x. length x.view.terms.limits ≤ 64) c.self.view_is c.self.invariant.table.few_servers in
    let may = may_offer c.args.self.now.view c.args.place c.args.ticket c.args.verdict c.requires.in_range c.requires.free c.requires.ticket_fits
    c.requires.has_room few in
    keeper_ruled c.store.new.seat.me _ (keeper_rests c.store.new.seat.me (keeper_of seat.me.0.keepers) _
    (ap (λ m. (keeper_of m.0.keepers).sight) c.self.invariant.me)
    (c.store.ensures.2.0 c.args.ticket c.args.verdict may.word c.encode-word.ensures)) c.store.ensures.2.1
