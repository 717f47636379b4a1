use Rattle.std.proofs.Common.{ap, subst, ◌∙◌, arith, refl}
use Rattle.grant_board.specs.Ruled.{at_rest}
use Rattle.grant_board.specs.KeeperCalls.{keeper_looked, Collects}
use Rattle.grant_board.specs.Plays.{keeper_of}
use Rattle.grant_board.specs.Rule.{terms_of}
use Rattle.grant_board.proofs.Seating.{keeper_table, place_near, sees_at, clears_at, Cleared, collected, collects, keeper_kept, keeper_ruled}
use Rattle.grant_board.proofs.keeper.KeeperSeat.collect.Goals as goal

pub load-number-requires : goal.load-number-requires
load-number-requires c =
    let seat = c.self.inside.seat in
    let k = (keeper_of seat.me.0.keepers).view in
    let shared = c.board.inside.table.shared in
    let table = keeper_table seat.table_id k c.args.self.now shared.table_id c.args.board.now c.self.view_is c.requires.same_board c.board.view_is in (
      table,
      place_near _ _ _ _ _ _ c.self.invariant.table table (ap (λ x. x.view.terms) c.self.view_is) c.requires.in_range,
      sees_at (terms_of shared.key) shared.table_id.slots seat.id seat.me (at_rest k) c.self.invariant.me c.args.place refl
          (omega (arith, c.requires.in_range, ap (λ x. x.view.terms.places) c.self.view_is)),
    )

-- both steps told
told : (c : goal.After-store) → Cleared (keeper_looked
    (keeper_of c.self.inside.seat.me.0.keepers).view c.args.place c.load-number.result) c.args.place c.in_ok-ticket.ticket c.in_ok-ticket._verdict
    c.in_ok-ticket.ending c.store.new.seat.me
told c =
    let found = c.in_ok-ticket in
    collected c.board.inside.table.shared.table_id.slots c.args.place c.encode-empty.result c.load-number.new.seat.me c.store.new.seat.me
    (keeper_looked (keeper_of c.self.inside.seat.me.0.keepers).view c.args.place c.load-number.result) found.ticket found._verdict found.ending
    (c.load-number.ensures.2.0.0 found.ticket found._verdict found.ending found.ensures.some.0 found.ensures.some.1) c.store.ensures.2.0 found.ensures.some.0

pub store-requires : goal.store-requires
store-requires c =
    let seat = c.self.inside.seat in
    let k = (keeper_of seat.me.0.keepers).view in
    let shared = c.board.inside.table.shared in
    let table = keeper_table seat.table_id k c.args.self.now shared.table_id c.args.board.now c.self.view_is c.requires.same_board c.board.view_is in
    let found = c.in_ok-ticket in
    let word = found.ensures.some.0 in
    let me = c.load-number.ensures.2.0.0 found.ticket found._verdict found.ending word found.ensures.some.1 in (
      c.load-number.ensures.0 ∙ table,
      place_near _ _ _ _ _ _ c.self.invariant.table table (ap (λ x. x.view.terms) c.self.view_is) c.requires.in_range,
      clears_at (terms_of shared.key) shared.table_id.slots c.load-number.new.seat.id c.load-number.new.seat.me _ me c.args.place found.ticket found._verdict
          found.ending _ refl c.encode-empty.ensures,
    )

pub invariant_of-self-2 : goal.invariant_of-self-2
invariant_of-self-2 c =
    let seat = c.self.inside.seat in
    let k = (keeper_of seat.me.0.keepers).view in
    keeper_kept seat.table_id c.store.new.seat.table_id c.self.inside.places c.store.new.seat.me k _ (told c).0 refl (c.store.ensures.0
    ∙ c.load-number.ensures.0) c.self.invariant.table

pub returns-clause-some : goal.returns-clause-some
returns-clause-some c =
    let found = c.in_ok-ticket in
    let k = (keeper_of c.self.inside.seat.me.0.keepers).view in
    let all = collects k c.store.new.seat.me c.load-number.result c.args.place found.ticket found._verdict found.ending found.ensures.some.1
    found.ensures.some.0 (told c) in
    subst (λ x. Collects x.view (keeper_of c.store.new.seat.me.0.keepers).view c.args.place
    (record { place = c.args.place; ticket = found.ticket; ending = found.ending })) c.self.view_is all

pub returns-clause-ruled : goal.returns-clause-ruled
returns-clause-ruled c = keeper_ruled c.store.new.seat.me _ (told c).0 c.store.ensures.2.1

pub returns-in_err-ticket-clause-ruled : goal.returns-in_err-ticket-clause-ruled
returns-in_err-ticket-clause-ruled c = keeper_ruled c.load-number.new.seat.me _
    (c.load-number.ensures.2.0.1 c.in_err-ticket.ensures.none) c.load-number.ensures.2.1
