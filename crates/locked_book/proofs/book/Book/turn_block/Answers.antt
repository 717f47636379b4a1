use Rattle.std.proofs.Common.{◌≡◌, ◌↔◌, ◌/◌, ◌<◌, IsTrue, Option, None, Some, IfNone, is_some, false, sym, ◌∙◌, subst}
use mathlib.Core.Bool.{true≢false}
use Rattle.grant_board.specs.Views.{Terms, count_at}
use Rattle.grant_board.specs.KeeperCalls.{FindsUnposted}
use Rattle.base_places.specs.Sets.{HasAhead}
use Rattle.dispatch_state.specs.Histories.{HasEntryRoom}
use Rattle.locked_book.specs.Calls.{Booked}
use Rattle.locked_book.proofs.Turns.{visit_of}
use Rattle.locked_book.proofs.Walking.{walking_begins, walking_goes, walking_stops, walking_ends}
use Rattle.locked_book.proofs.book.Book.turn_block.Goals as goal

pub loop-place-init : goal.loop-place-init
loop-place-init g c = (
  walking_begins c.args.moment c.args.number g.N.BoardName.terms.places c.args.self.now c.args.woken.now c.block-ahead.result
      (λ q. subst (λ (b : Booked). HasAhead c.block-ahead.result q ↔ ((q / 64 ≡ c.args.number) × (0 < count_at q b.view.out))) c.self.view_is
      (c.block-ahead.ensures.ahead q))
      (λ q has. subst (λ (t : Terms). q < t.places) c.self.invariant.of_terms (c.block-ahead.ensures.in_range q has)),
  subst (λ (b : Booked). IsTrue c.has_room-room.result ↔ HasEntryRoom b.history) c.self.view_is c.has_room-room.ensures,
)

pub loop-place-preserved-then-is_some : goal.loop-place-preserved-then-is_some
loop-place-preserved-then-is_some g c =
    let is = c.loop-place.invariant.0 in
    let at = c.in-Some.ensures.some in (
      walking_goes c.args.moment c.args.number g.N.BoardName.terms.places c.args.self.now c.args.woken.now
          c.loop-place.self c.loop-place.woken c.loop-place.ahead is c.in-Some.place c.take_first.new.self c.take_at.new.self c.take_at.new.woken
          at c.in-Some.ensures.later
          (visit_of c.args.moment c.in-Some.place c.loop-place.self c.loop-place.woken c.take_at.new.self c.take_at.new.woken c.take_at.result
          (is.out c.in-Some.place at.there) c.take_at.ensures.some c.take_at.ensures.none),
      subst (λ (b : Booked). IsTrue c.has_room-room-then-is_some.result ↔ HasEntryRoom b.history) c.self-in-Some.view_is
          c.has_room-room-then-is_some.ensures,
    )

-- nothing was found
if_not_some : {A : Type 0} (found : Option A) (P : Type 0) → is_some found ≡ false → IfNone found P → P
if_not_some None P none p = p
if_not_some (Some it) P none p = absurd (true≢false none)

pub loop-place-preserved : goal.loop-place-preserved
loop-place-preserved g c =
    let is = c.loop-place.invariant.0 in
    let at = c.in-Some.ensures.some in
    let none = if_not_some c.take_at.result
    ((c.take_at.new.self.history ≡ c.loop-place.self.history) × FindsUnposted c.loop-place.self.view c.take_at.new.self.view c.in-Some.place
    × (c.take_at.new.woken ≡ c.loop-place.woken)) (sym c.is_some.ensures ∙ c.if-is_some.false) c.take_at.ensures.none in (
      walking_goes c.args.moment c.args.number g.N.BoardName.terms.places c.args.self.now c.args.woken.now
          c.loop-place.self c.loop-place.woken c.loop-place.ahead is c.in-Some.place c.take_first.new.self c.take_at.new.self c.take_at.new.woken
          at c.in-Some.ensures.later
          (visit_of c.args.moment c.in-Some.place c.loop-place.self c.loop-place.woken c.take_at.new.self c.take_at.new.woken c.take_at.result
          (is.out c.in-Some.place at.there) c.take_at.ensures.some c.take_at.ensures.none),
      subst (λ h. IsTrue c.loop-place.room ↔ HasEntryRoom h) (sym none.0) c.loop-place.invariant.1,
    )

pub returns-clause-ok : goal.returns-clause-ok
returns-clause-ok g c =
    walking_ends c.args.moment c.args.number g.N.BoardName.terms.places c.args.self.now c.args.woken.now
    c.loop-place.self c.loop-place.woken c.loop-place.ahead c.loop-place.invariant.0 c.in_default.ensures.none

pub returns-then-not-room-clause-stopped : goal.returns-then-not-room-clause-stopped
returns-then-not-room-clause-stopped g c =
    walking_stops c.args.moment c.args.number g.N.BoardName.terms.places c.args.self.now c.args.woken.now
    c.loop-place.self c.loop-place.woken c.loop-place.ahead c.loop-place.invariant.0 c.in-Some.place c.in-Some.ensures.some
