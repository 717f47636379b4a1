use Rattle.std.proofs.Common.{◌≡◌, ◌==◌, true, ap, sym, subst, ◌∙◌, ◌<◌, length, arith}
use Rattle.std.proofs.lemmas.Bool.{eqb-true, eqb-false}
use Rattle.grant_board.specs.BoardWords.{IsAmong}
use Rattle.grant_board.specs.RelayCalls.{relay_looked, take_after}
use Rattle.grant_board.specs.Plays.{relay_of, relay_seat}
use Rattle.grant_board.specs.Views.{grant}
use Rattle.grant_board.specs.Rule.{terms_of}
use Rattle.grant_board.proofs.Seating.{relay_table, place_near, takes_at, takes_one, relay_kept, relay_value, relay_ruled}
use Rattle.grant_board.proofs.relaying.Relaying.take.Goals as goal

pub compare_exchange-requires : goal.compare_exchange-requires
compare_exchange-requires c =
    let seat = c.self.inside.seat in
    let r = relay_of seat.me.0.relays in
    let shared = c.board.inside.table.shared in
    let table = relay_table seat.table_id r c.args.self.now shared.table_id c.args.board.now c.self.view_is c.requires.same_board c.board.view_is in (
      table,
      place_near _ _ _ _ _ _ c.self.invariant.table table (ap (λ x. x.view.terms) c.self.view_is) c.requires.in_range,
      takes_at (terms_of shared.key) shared.table_id.slots seat.id seat.me c.self.invariant.me c.args.place c.args.ticket c.args.verdict _ _
          c.encode-offered.ensures c.encode-taken.ensures c.requires.word (omega (arith, c.requires.in_range, ap (λ x. x.view.terms.places) c.self.view_is)),
    )

pub invariant_of-self : goal.invariant_of-self
invariant_of-self c =
    let seat = c.self.inside.seat in
    let r = relay_of seat.me.0.relays in
    let j = takes_one c.board.inside.table.shared.table_id.slots c.args.place c.encode-offered.result c.encode-taken.result c.compare_exchange.result seat.me
    c.compare_exchange.new.seat.me c.args.ticket c.args.verdict c.compare_exchange.ensures.2.0 c.requires.word c.encode-offered.ensures
    c.encode-taken.ensures in
    relay_kept seat.table_id c.compare_exchange.new.seat.table_id c.self.inside.places c.compare_exchange.new.seat.me r j.0 j.1 j.2 c.compare_exchange.ensures.0
    c.self.invariant.table

-- what an exchange that found the offer tells
hits : (c : goal.After-compare_exchange) → (c.compare_exchange.result == c.encode-offered.result) ≡ true
    → (c.compare_exchange.new.seat.me ≡ relay_seat (take_after (relay_of c.self.inside.seat.me.0.relays) (grant c.args.place c.args.ticket c.args.verdict)))
    × (length (relay_of c.self.inside.seat.me.0.relays).passes < (relay_of c.self.inside.seat.me.0.relays).terms.places)
    × IsAmong (length (relay_of c.self.inside.seat.me.0.relays).terms.limits) c.args.verdict
hits c hit = (c.compare_exchange.ensures.2.0 c.args.ticket c.args.verdict c.requires.word c.encode-offered.ensures c.encode-taken.ensures).0 (eqb-true _ _ hit)

pub returns-clause-took : goal.returns-clause-took
returns-clause-took c hit =
    let seat = c.self.inside.seat in
    let to = c.compare_exchange.new.seat in
    relay_value (λ v. take_after v (grant c.args.place c.args.ticket c.args.verdict)) seat.table_id to.table_id to.me
    (relay_of seat.me.0.relays) c.args.self.now
    c.compare_exchange.ensures.0 c.self.view_is (hits c hit).0

pub returns-clause-room : goal.returns-clause-room
returns-clause-room c hit = subst (λ x. length x.view.passes < x.view.terms.places) c.self.view_is (hits c hit).1

pub returns-clause-among : goal.returns-clause-among
returns-clause-among c hit = subst (λ x. IsAmong (length x.view.terms.limits) c.args.verdict) c.self.view_is (hits c hit).2

pub returns-clause-late : goal.returns-clause-late
returns-clause-late c miss =
    let seat = c.self.inside.seat in
    let r = relay_of seat.me.0.relays in
    let other = eqb-false _ _ miss in
    let told = (c.compare_exchange.ensures.2.0 c.args.ticket c.args.verdict c.requires.word c.encode-offered.ensures c.encode-taken.ensures).1 other in (
      c.compare_exchange.result,
      relay_value (λ v. relay_looked v c.args.place c.compare_exchange.result) seat.table_id c.compare_exchange.new.seat.table_id c.compare_exchange.new.seat.me
          r c.args.self.now c.compare_exchange.ensures.0 c.self.view_is told,
      λ e. other (e ∙ sym c.encode-offered.ensures),
    )

pub returns-clause-ruled : goal.returns-clause-ruled
returns-clause-ruled c =
    let seat = c.self.inside.seat in
    let j = takes_one c.board.inside.table.shared.table_id.slots c.args.place c.encode-offered.result c.encode-taken.result c.compare_exchange.result seat.me
    c.compare_exchange.new.seat.me c.args.ticket c.args.verdict c.compare_exchange.ensures.2.0 c.requires.word c.encode-offered.ensures
    c.encode-taken.ensures in
    relay_ruled c.compare_exchange.new.seat.me j.0 j.1 c.compare_exchange.ensures.2.1
