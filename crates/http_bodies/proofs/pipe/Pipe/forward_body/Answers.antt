-- The coding is fed until the body is whole, or a fault is met.
use Rattle.std.proofs.Common.{refl, arith}
use Rattle.std.proofs.lemmas.Result.{on_ok_weaker}
use Rattle.http_bodies.proofs.Exits.{at_exit, if_err_weaker}
use Rattle.http_bodies.proofs.PipeFeeding.{forwarding_start, forwarding_feed, asked_on, forwarding_on, never_whole, whole_body, body_to_end, part_before, part_of_none, part_at_end, unread_on}
use Rattle.http_bodies.proofs.Stepping.{Countable-later}
use Rattle.http_bodies.specs.Steps.{ends}
use Rattle.http_bodies.proofs.pipe.Pipe.forward_body.Goals as goal

pub forwarding-init : goal.forwarding-init
forwarding-init g c = forwarding_start c.args.framing c.args.framed c.new-coding.result _ c.new-coding.ensures

pub returns-in_err-whole-clause-err : goal.returns-in_err-whole-clause-err
returns-in_err-whole-clause-err g c =
    let fed = forwarding_feed refl refl c.forwarding.invariant (c.feed.ensures.moves (g.S.Source.stream c.forwarding.source) (g.K.Sink.stream c.forwarding.sink)) in
    let never = c.in_err-whole.ensures.never in
    at_exit c.from_residual.result _ _ c.from_residual.ensures.1 (rw never.0 (part_of_none fed never.1))

pub returns-then-whole-clause-ok : goal.returns-then-whole-clause-ok
returns-then-whole-clause-ok g c =
    let fed = forwarding_feed refl refl c.forwarding.invariant (c.feed.ensures.moves (g.S.Source.stream c.forwarding.source) (g.K.Sink.stream c.forwarding.sink)) in
    whole_body fed (c.in_ok-whole.ensures.whole c.if-whole.true)

pub returns-then-whole-clause-end : goal.returns-then-whole-clause-end
returns-then-whole-clause-end g c =
    let fed = forwarding_feed refl refl c.forwarding.invariant (c.feed.ensures.moves (g.S.Source.stream c.forwarding.source) (g.K.Sink.stream c.forwarding.sink)) in
    λ e. absurd (never_whole fed e (c.in_ok-whole.ensures.whole c.if-whole.true))

pub returns-then-whole-clause-all : goal.returns-then-whole-clause-all
returns-then-whole-clause-all g c =
    let fed = forwarding_feed refl refl c.forwarding.invariant (c.feed.ensures.moves (g.S.Source.stream c.forwarding.source) (g.K.Sink.stream c.forwarding.sink)) in
    λ e. absurd (never_whole fed e (c.in_ok-whole.ensures.whole c.if-whole.true))

pub advance-requires-clause-countable : goal.advance-requires-clause-countable
advance-requires-clause-countable g c =
    let fed = forwarding_feed refl refl c.forwarding.invariant (c.feed.ensures.moves (g.S.Source.stream c.forwarding.source) (g.K.Sink.stream c.forwarding.sink)) in
    Countable-later fed.moves.reads c.requires

pub returns-in_err-more-clause-err : goal.returns-in_err-more-clause-err
returns-in_err-more-clause-err g c =
    let fed = forwarding_feed refl refl c.forwarding.invariant (c.feed.ensures.moves (g.S.Source.stream c.forwarding.source) (g.K.Sink.stream c.forwarding.sink)) in
    at_exit c.from_residual-in_err-more.result _ _ c.from_residual-in_err-more.ensures.1 (part_before fed (c.in_ok-whole.ensures.part c.if-whole.false).0 (c.in_ok-whole.ensures.part c.if-whole.false).1 c.in_err-more.ensures.err)

pub returns-then-not-more-clause-ok : goal.returns-then-not-more-clause-ok
returns-then-not-more-clause-ok g c =
    let fed = forwarding_feed refl refl c.forwarding.invariant (c.feed.ensures.moves (g.S.Source.stream c.forwarding.source) (g.K.Sink.stream c.forwarding.sink)) in
    on_ok_weaker c.ended.result (λ e. body_to_end (forwarding_on 1 (c.in_ok-whole.ensures.part c.if-whole.false).0 (c.in_ok-whole.ensures.part c.if-whole.false).1 (c.in_ok-whole.ensures.part c.if-whole.false).2 c.in_ok-more.ensures.read c.in_ok-more.ensures.unread (λ none. omega (arith, c.in_ok-more.ensures.once)) c.in_ok-more.ensures.once fed c.in_ok-more.ensures.ok) e) c.ended.ensures.ok

pub returns-then-not-more-clause-err : goal.returns-then-not-more-clause-err
returns-then-not-more-clause-err g c =
    let fed = forwarding_feed refl refl c.forwarding.invariant (c.feed.ensures.moves (g.S.Source.stream c.forwarding.source) (g.K.Sink.stream c.forwarding.sink)) in
    let going = c.in_ok-whole.ensures.part c.if-whole.false in
    let on = forwarding_on 1 (c.in_ok-whole.ensures.part c.if-whole.false).0 (c.in_ok-whole.ensures.part c.if-whole.false).1 (c.in_ok-whole.ensures.part c.if-whole.false).2 c.in_ok-more.ensures.read c.in_ok-more.ensures.unread (λ none. omega (arith, c.in_ok-more.ensures.once)) c.in_ok-more.ensures.once fed c.in_ok-more.ensures.ok in
    if_err_weaker c.ended.result
    (λ fault is. rw is.0 (part_at_end on going.0 going.1 is.1 (c.in_ok-more.ensures.end c.if-not-more.true) (c.in_ok-more.ensures.none c.if-not-more.true)))
    c.ended.ensures.err

pub forwarding-smaller : goal.forwarding-smaller
forwarding-smaller g c =
    let fed = c.feed.ensures.moves (g.S.Source.stream c.forwarding.source) (g.K.Sink.stream c.forwarding.sink) in
    omega (arith, fed.3.reads.spent, c.in_ok-more.ensures.spent)

pub forwarding-preserved : goal.forwarding-preserved
forwarding-preserved g c =
    let fed = forwarding_feed refl refl c.forwarding.invariant (c.feed.ensures.moves (g.S.Source.stream c.forwarding.source) (g.K.Sink.stream c.forwarding.sink)) in
    forwarding_on 0 (c.in_ok-whole.ensures.part c.if-whole.false).0 (c.in_ok-whole.ensures.part c.if-whole.false).1 (c.in_ok-whole.ensures.part c.if-whole.false).2 c.in_ok-more.ensures.read c.in_ok-more.ensures.unread (λ none. omega (arith, c.in_ok-more.ensures.once, c.in_ok-more.ensures.brought none c.if-not-more.false)) c.in_ok-more.ensures.once fed c.in_ok-more.ensures.ok

pub returns-in_err-whole-clause-unread : goal.returns-in_err-whole-clause-unread
returns-in_err-whole-clause-unread g c = c.forwarding.invariant.unread

pub returns-then-whole-clause-unread : goal.returns-then-whole-clause-unread
returns-then-whole-clause-unread g c = c.forwarding.invariant.unread

pub returns-in_err-more-clause-unread : goal.returns-in_err-more-clause-unread
returns-in_err-more-clause-unread g c =
    let fed = forwarding_feed refl refl c.forwarding.invariant (c.feed.ensures.moves (g.S.Source.stream c.forwarding.source) (g.K.Sink.stream c.forwarding.sink)) in
    unread_on (g.S.Source.stream c.advance.new.source) (c.in_ok-whole.ensures.part c.if-whole.false).0 (c.in_ok-whole.ensures.part c.if-whole.false).1 fed c.in_err-more.ensures.unread

pub returns-then-not-more-clause-unread : goal.returns-then-not-more-clause-unread
returns-then-not-more-clause-unread g c =
    let fed = forwarding_feed refl refl c.forwarding.invariant (c.feed.ensures.moves (g.S.Source.stream c.forwarding.source) (g.K.Sink.stream c.forwarding.sink)) in
    unread_on (g.S.Source.stream c.advance.new.source) (c.in_ok-whole.ensures.part c.if-whole.false).0 (c.in_ok-whole.ensures.part c.if-whole.false).1 fed c.in_ok-more.ensures.unread

pub returns-in_err-whole-clause-asked : goal.returns-in_err-whole-clause-asked
returns-in_err-whole-clause-asked g c = c.forwarding.invariant.asked

pub returns-then-whole-clause-asked : goal.returns-then-whole-clause-asked
returns-then-whole-clause-asked g c = c.forwarding.invariant.asked

pub returns-in_err-more-clause-asked : goal.returns-in_err-more-clause-asked
returns-in_err-more-clause-asked g c =
    let fed = forwarding_feed refl refl c.forwarding.invariant (c.feed.ensures.moves (g.S.Source.stream c.forwarding.source) (g.K.Sink.stream c.forwarding.sink)) in
    let going = c.in_ok-whole.ensures.part c.if-whole.false in
    asked_on (ends c.advance.new.self (g.S.Source.stream c.advance.new.source) (g.K.Sink.stream c.advance.new.sink)) c.in_err-more.ensures.err.taken
    going.0 going.1 fed c.in_err-more.ensures.unread c.in_err-more.ensures.err.reads.bytes c.in_err-more.ensures.once

pub returns-then-not-more-clause-asked : goal.returns-then-not-more-clause-asked
returns-then-not-more-clause-asked g c =
    let fed = forwarding_feed refl refl c.forwarding.invariant (c.feed.ensures.moves (g.S.Source.stream c.forwarding.source) (g.K.Sink.stream c.forwarding.sink)) in
    let going = c.in_ok-whole.ensures.part c.if-whole.false in
    asked_on (ends c.advance.new.self (g.S.Source.stream c.advance.new.source) (g.K.Sink.stream c.advance.new.sink)) c.in_ok-more.ensures.ok.taken
    going.0 going.1 fed c.in_ok-more.ensures.unread c.in_ok-more.ensures.ok.reads.bytes c.in_ok-more.ensures.once
