use Rattle.std.proofs.Common.{◌≡◌, ◌+◌, ◌<◌, length, ap, sym, refl, subst, ◌∙◌, arith}
use Rattle.grant_board.specs.Views.{RelayView}
use Rattle.grant_board.specs.RelayCalls.{relay_looked}
use Rattle.grant_board.specs.Plays.{relay_seat, relay_of, AreApart}
use Rattle.grant_board.specs.Rule.{terms_of}
use Rattle.grant_board.proofs.Seating.{relay_table, has_word, server_near, some_word, relays_beside, meets_at, HasMet}
use Rattle.grant_board.proofs.Seating.{met, left_alone, right_alone, relay_kept, relay_value, meet_ruled}
use Rattle.grant_board.proofs.Joining.{beside_kept, cut_kept}
use Rattle.grant_board.proofs.relaying.Relaying.meet.Goals as goal

pub join_seat-requires : goal.join_seat-requires
join_seat-requires c =
    let seat = c.self.inside.seat in
    let other = c.other.inside.seat in
    let shared = c.board.inside.table.shared in
    let table = relay_table seat.table_id (relay_of seat.me.0.relays) c.args.self.now shared.table_id c.args.board.now c.self.view_is c.requires.same_board
    c.board.view_is in
    let same = relay_table other.table_id (relay_of other.me.0.relays) c.args.other shared.table_id c.args.board.now c.other.view_is c.requires.other_board
    c.board.view_is in (
      table,
      same,
      ap (λ m. m.1) c.other.invariant.me,
      some_word _ _ _ _ c.self.invariant.table table,
      beside_kept (terms_of shared.key) seat.id seat.me.0 other.id other.me.0,
    )

pub load-bound-requires : goal.load-bound-requires
load-bound-requires c =
    let seat = c.self.inside.seat in
    let other = c.other.inside.seat in
    let shared = c.board.inside.table.shared in
    let me = relays_beside seat.me other.me c.join_seat.new.seat.me (relay_of seat.me.0.relays)
    (relay_of other.me.0.relays) c.self.invariant.me c.other.invariant.me c.join_seat.ensures.2 in
    let table = relay_table seat.table_id (relay_of seat.me.0.relays) c.args.self.now shared.table_id c.args.board.now c.self.view_is c.requires.same_board
    c.board.view_is in
    let server = subst (λ x. c.args.server < length x.view.terms.limits) (sym c.self.view_is) c.requires.server in (
      c.join_seat.ensures.0 ∙ table,
      has_word _ _ _ _ _ c.self.invariant.table table (server_near _ _ _ _ c.self.invariant.table server),
      meets_at (terms_of shared.key) shared.table_id.slots c.join_seat.new.seat.id c.join_seat.new.seat.me (relay_of seat.me.0.relays)
          (relay_of other.me.0.relays) _ me,
    )

pub split_seat-seat-requires : goal.split_seat-seat-requires
split_seat-seat-requires c =
    let seat = c.self.inside.seat in
    let shared = c.board.inside.table.shared in
    let table = relay_table seat.table_id (relay_of seat.me.0.relays) c.args.self.now shared.table_id c.args.board.now c.self.view_is c.requires.same_board
    c.board.view_is in (
      c.load-bound.ensures.0 ∙ (c.join_seat.ensures.0 ∙ table),
      some_word _ _ _ _ c.self.invariant.table table,
      cut_kept (terms_of shared.key) c.load-bound.new.seat.id c.load-bound.new.seat.me.0,
    )

abbrev mine : goal.After-split_seat-seat → RelayView
mine c = relay_of c.self.inside.seat.me.0.relays

abbrev theirs : goal.After-split_seat-seat → RelayView
theirs c = relay_of c.other.inside.seat.me.0.relays

-- what the meeting tells
told : (c : goal.After-split_seat-seat) → HasMet (c.self.inside.places + c.args.server) c.args.server c.load-bound.result (mine c)
    (theirs c) c.load-bound.new.seat.me
told c =
    let seat = c.self.inside.seat in
    let other = c.other.inside.seat in
    let both = c.join_seat.new.seat.me in
    let me = relays_beside seat.me other.me both (mine c) (theirs c) c.self.invariant.me c.other.invariant.me c.join_seat.ensures.2 in
    met c.board.inside.table.shared.table_id.slots _ _ c.args.server both c.load-bound.new.seat.me (mine c) (theirs c) me c.load-bound.ensures.2
    (subst (λ x. c.args.server < length x.view.terms.limits) (sym c.self.view_is) c.requires.server) (omega (arith, c.self.invariant.table.places_are))

-- both seats are of the board still
my_table : (c : goal.After-split_seat-seat) → c.split_seat-seat.new.seat.table_id ≡ c.self.inside.seat.table_id
my_table c = c.split_seat-seat.ensures.0 ∙ (c.load-bound.ensures.0 ∙ c.join_seat.ensures.0)

their_table : (c : goal.After-split_seat-seat) → c.split_seat-seat.result.table_id ≡ c.other.inside.seat.table_id
their_table c =
    let n = c.board.inside.table.shared.table_id in
    let is = c.board.view_is in
    let a = relay_table c.self.inside.seat.table_id (mine c) c.args.self.now n c.args.board.now c.self.view_is c.requires.same_board is in
    let b = relay_table c.other.inside.seat.table_id (theirs c) c.args.other n c.args.board.now c.other.view_is c.requires.other_board is in
    c.split_seat-seat.ensures.3 ∙ (c.load-bound.ensures.0 ∙ (c.join_seat.ensures.0 ∙ (a ∙ sym b)))

-- and apart again, as they were but for the look
my_seat : (c : goal.After-split_seat-seat)
    → c.split_seat-seat.new.seat.me ≡ relay_seat (relay_looked (mine c) (c.self.inside.places + c.args.server) c.load-bound.result)
my_seat c = left_alone c.load-bound.new.seat.me c.split_seat-seat.new.seat.me _ (theirs c) (told c).0 c.split_seat-seat.ensures.2

their_seat : (c : goal.After-split_seat-seat) → c.split_seat-seat.result.me ≡ relay_seat (theirs c)
their_seat c = right_alone c.load-bound.new.seat.me c.split_seat-seat.result.me _ (theirs c) (told c).0 c.split_seat-seat.ensures.4

pub invariant_of-self : goal.invariant_of-self
invariant_of-self c =
    let to = c.split_seat-seat.new.seat in
    relay_kept c.self.inside.seat.table_id to.table_id c.self.inside.places to.me (mine c) _ (my_seat c) refl (my_table c) c.self.invariant.table

pub returns-clause-looked : goal.returns-clause-looked
returns-clause-looked c =
    let old = c.args.self.now in
    let to = c.split_seat-seat.new.seat in
    let found = c.load-bound.result in
    let word = ap (λ n. n + c.args.server) (c.self.invariant.table.places_are ∙ ap (λ x. x.view.terms.places) c.self.view_is) in
    relay_value (λ v. relay_looked v (c.self.inside.places + c.args.server) found) c.self.inside.seat.table_id to.table_id to.me (mine c) old
    (my_table c) c.self.view_is (my_seat c)
    ∙ ap (λ n. record { board = old.board; view = relay_looked old.view n found }) word

pub invariant_of-result : goal.invariant_of-result
invariant_of-result c =
    let to = c.split_seat-seat.result in
    relay_kept c.other.inside.seat.table_id to.table_id c.other.inside.places to.me (theirs c) _ (their_seat c) refl (their_table c) c.other.invariant.table

pub returns-clause-back : goal.returns-clause-back
returns-clause-back c =
    let to = c.split_seat-seat.result in
    relay_value (λ v. v) c.other.inside.seat.table_id to.table_id to.me (theirs c) c.args.other (their_table c) c.other.view_is (their_seat c)

pub returns-clause-apart : goal.returns-clause-apart
returns-clause-apart c =
    let found = c.load-bound.result in
    let r = mine c in
    subst (λ x. AreApart x.view.terms.places c.args.server found x.view.passes c.args.other.view.passes) c.self.view_is
    (subst (λ x. AreApart r.terms.places c.args.server found r.passes x.view.passes) c.other.view_is (told c).1)

pub returns-clause-ruled : goal.returns-clause-ruled
returns-clause-ruled c =
    meet_ruled c.load-bound.new.seat.me c.split_seat-seat.new.seat.me _ (theirs c) c.args.other.view c.args.server c.load-bound.result (told c).0
    c.split_seat-seat.ensures.2 (ap (λ x. x.view) c.other.view_is) (told c).2
