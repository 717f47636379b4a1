use Rattle.std.proofs.Common.{◌≡◌, ◌∙◌, ◌<◌, ◌+◌, arith, sym, subst, inl, inr}
use Rattle.exchange_events.specs.declared.exchange.Outcome.{Outcome}
use Rattle.exchange_events.specs.Steps.{IsOwn}
use Rattle.exchange_driver.specs.Drives.{Drives, at_client, at_server}
use Rattle.exchange_driver.specs.Moves.{IsDriven}
use Rattle.exchange_driver.specs.declared.driving.Rest.TheVariants.{Waits, Again}
use Rattle.exchange_driver.proofs.Moving.{drives_none, drives_on}
use Rattle.exchange_driver.proofs.Standing.{answered_none, answered_on}
use Rattle.exchange_driver.proofs.Telling.{driven_none, driven_on}
use Rattle.exchange_driver.proofs.driving.drive_on.Goals as goal

pub loop-turn-init : goal.loop-turn-init
loop-turn-init g c = record {
  at = λ h is. rw (c.none-moves.ensures.0, c.none-moves.ensures.1) (drives_none _ _ h c.args.exchange is);
  driven = (0, driven_none _ _ _ c.args.exchange, omega arith, omega arith);
  client = answered_none _;
  server = answered_none _;
  buffer = c.requires;
}

pub returns-in_default : goal.returns-in_default
returns-in_default g c =
    let gave = c.gave.ensures in
    let moved = c.with-moves.ensures in
    let so_far = c.loop-turn.invariant.driven in
    let one = c.move_down-between.ensures.driven in
    record {
      at = λ h is. rw (gave.moves.0, gave.moves.1, moved.0, moved.1, gave.exchange, gave.outcome)
          (drives_on _ _ _ _ _ _ _ _ _ _ h _ _ _ (c.loop-turn.invariant.at h is) c.move_down-between.ensures.at);
      driven = (
        so_far.0 + one.0,
        rw (gave.exchange, gave.outcome) (driven_on _ _ _ _ _ _ _ _ _ _ _ _ _ so_far.1 one.1),
        record {
          most = omega (arith, so_far.2, one.2, c.loop-turn-test.true);
          spent = λ again quiet. absurd (c.in_default.not-Quiet (sym gave.outcome ∙ quiet));
          gave = λ given. gave.rest;
        },
      );
      client = answered_on _ _ _ c.loop-turn.invariant.client c.move_down-between.ensures.client;
      server = answered_on _ _ _ c.loop-turn.invariant.server c.move_down-between.ensures.server;
      own = subst IsOwn (sym gave.outcome) c.move_down-between.ensures.own;
      down = λ e. let no : Again ≡ Waits = sym gave.rest ∙ e in cc;
      up = λ e. let no : Again ≡ Waits = sym gave.rest ∙ e in cc;
    }

pub returns-in_default-outcome : goal.returns-in_default-outcome
returns-in_default-outcome g c =
    let so_far = c.loop-turn.invariant.driven in
    let one = c.move_down-between.ensures.driven in
    let two = c.move_up-behind.ensures.driven in
    let gave = c.gave-in_default-outcome.ensures in
    let first = c.with-moves.ensures in
    let second = c.with-moves-in-loop-turn.ensures in
    let down = c.move_down-between in
    record {
      at = λ h is. rw (gave.moves.0, gave.moves.1, second.0, second.1, first.0, first.1, gave.exchange, gave.outcome)
          (drives_on _ _ _ _ _ _ _ _ _ _ h _ _ _ (drives_on _ _ _ _ _ _ _ _ _ _ h _ _ _ (c.loop-turn.invariant.at h is)
          (λ k at. subst (λ (o : Outcome). Drives c.loop-turn.client down.new.client c.loop-turn.server down.new.server (at_client down.result.did)
          (at_server down.result.did) k down.result.exchange o) c.in-Quiet.is (down.ensures.at k at))) c.move_up-behind.ensures.at);
      driven = (
        so_far.0 + one.0 + two.0,
        rw (gave.exchange, gave.outcome) (driven_on _ _ _ _ _ _ _ _ _ _ _ _ _ (driven_on _ _ _ _ _ _ _ _ _ _ _ _ _ so_far.1
            (subst (λ (o : Outcome). IsDriven one.0 c.args.settings.rules.aborts c.loop-turn.client.answers down.new.client.answers c.loop-turn.server.answers down.new.server.answers
            c.loop-turn.exchange o down.result.exchange) c.in-Quiet.is one.1)) two.1),
        record {
          most = omega (arith, so_far.2, one.2, two.2, c.loop-turn-test.true);
          spent = λ again quiet. absurd (c.in_default-outcome.not-Quiet (sym gave.outcome ∙ quiet));
          gave = λ given. gave.rest;
        },
      );
      client = answered_on _ _ _ (answered_on _ _ _ c.loop-turn.invariant.client c.move_down-between.ensures.client) c.move_up-behind.ensures.client;
      server = answered_on _ _ _ (answered_on _ _ _ c.loop-turn.invariant.server c.move_down-between.ensures.server) c.move_up-behind.ensures.server;
      own = subst IsOwn (sym gave.outcome) c.move_up-behind.ensures.own;
      down = λ e. let no : Again ≡ Waits = sym gave.rest ∙ e in cc;
      up = λ e. let no : Again ≡ Waits = sym gave.rest ∙ e in cc;
    }

pub loop-turn-preserved : goal.loop-turn-preserved
loop-turn-preserved g c =
    let so_far = c.loop-turn.invariant.driven in
    let one = c.move_down-between.ensures.driven in
    let two = c.move_up-behind.ensures.driven in
    let first = c.with-moves.ensures in
    let second = c.with-moves-in-loop-turn.ensures in
    let down = c.move_down-between in
    let up = c.move_up-behind in
    record {
      at = λ h is. rw (second.0, second.1, first.0, first.1)
          (drives_on _ _ _ _ _ _ _ _ _ _ h _ _ _ (drives_on _ _ _ _ _ _ _ _ _ _ h _ _ _ (c.loop-turn.invariant.at h is)
          (λ k at. subst (λ (o : Outcome). Drives c.loop-turn.client down.new.client c.loop-turn.server down.new.server (at_client down.result.did)
          (at_server down.result.did) k down.result.exchange o) c.in-Quiet.is (down.ensures.at k at)))
          (λ k at. subst (λ (o : Outcome). Drives down.new.client up.new.client down.new.server up.new.server (at_client up.result.did)
          (at_server up.result.did) k up.result.exchange o) c.in-Quiet-outcome.is (up.ensures.at k at)));
      driven = (
        so_far.0 + one.0 + two.0,
        driven_on _ _ _ _ _ _ _ _ _ _ _ _ _ (driven_on _ _ _ _ _ _ _ _ _ _ _ _ _ so_far.1
            (subst (λ (o : Outcome). IsDriven one.0 c.args.settings.rules.aborts c.loop-turn.client.answers down.new.client.answers c.loop-turn.server.answers down.new.server.answers
            c.loop-turn.exchange o down.result.exchange) c.in-Quiet.is one.1))
            (subst (λ (o : Outcome). IsDriven two.0 c.args.settings.rules.aborts down.new.client.answers up.new.client.answers down.new.server.answers up.new.server.answers
            down.result.exchange o up.result.exchange) c.in-Quiet-outcome.is two.1),
        omega (arith, so_far.2, one.2, two.2),
        elim (c.both_rest.ensures.moved c.if-both_rest.false) [
          | inl moved ↦ omega (arith, so_far.3, one.3 moved)
          | inr moved ↦ omega (arith, so_far.3, two.3 moved)
        ],
      );
      client = answered_on _ _ _ (answered_on _ _ _ c.loop-turn.invariant.client c.move_down-between.ensures.client) c.move_up-behind.ensures.client;
      server = answered_on _ _ _ (answered_on _ _ _ c.loop-turn.invariant.server c.move_down-between.ensures.server) c.move_up-behind.ensures.server;
      buffer = subst (λ n. 0 < n) (sym (up.ensures.buffer ∙ down.ensures.buffer)) c.loop-turn.invariant.buffer;
    }

pub returns-then-both_rest-clause-at : goal.returns-then-both_rest-clause-at
returns-then-both_rest-clause-at g c =
    let came = c.comes_to.ensures in
    let first = c.with-moves.ensures in
    let second = c.with-moves-in-loop-turn.ensures in
    let down = c.move_down-between in
    let up = c.move_up-behind in
    λ h is. rw (came.moves.0, came.moves.1, second.0, second.1, first.0, first.1, came.exchange, came.outcome)
    (drives_on _ _ _ _ _ _ _ _ _ _ h _ _ _ (drives_on _ _ _ _ _ _ _ _ _ _ h _ _ _ (c.loop-turn.invariant.at h is)
    (λ k at. subst (λ (o : Outcome). Drives c.loop-turn.client down.new.client c.loop-turn.server down.new.server (at_client down.result.did)
    (at_server down.result.did) k down.result.exchange o) c.in-Quiet.is (down.ensures.at k at)))
    (λ k at. subst (λ (o : Outcome). Drives down.new.client up.new.client down.new.server up.new.server (at_client up.result.did)
    (at_server up.result.did) k up.result.exchange o) c.in-Quiet-outcome.is (up.ensures.at k at)))

pub returns-then-both_rest-clause-down : goal.returns-then-both_rest-clause-down
returns-then-both_rest-clause-down g c = λ e.
    let rests = c.both_rest.ensures.rest c.if-both_rest.true in
    let first = c.move_down-between.ensures.rests rests.0 in
    let second = c.move_up-behind.ensures.rests rests.1 in
    rw (c.comes_to.ensures.exchange, second.exchange, first.exchange, second.client, first.client, second.server, first.server)
    (c.move_down-between.ensures.quiet rests.0)

pub returns-then-both_rest-clause-client : goal.returns-then-both_rest-clause-client
returns-then-both_rest-clause-client g c = answered_on _ _ _ (answered_on _ _ _ c.loop-turn.invariant.client c.move_down-between.ensures.client) c.move_up-behind.ensures.client

pub returns-then-both_rest-clause-server : goal.returns-then-both_rest-clause-server
returns-then-both_rest-clause-server g c = answered_on _ _ _ (answered_on _ _ _ c.loop-turn.invariant.server c.move_down-between.ensures.server) c.move_up-behind.ensures.server

pub returns-then-both_rest-clause-driven : goal.returns-then-both_rest-clause-driven
returns-then-both_rest-clause-driven g c =
    let so_far = c.loop-turn.invariant.driven in
    let one = c.move_down-between.ensures.driven in
    let two = c.move_up-behind.ensures.driven in
    let came = c.comes_to.ensures in
    let down = c.move_down-between in
    let up = c.move_up-behind in (
      so_far.0 + one.0 + two.0,
      rw (came.exchange, came.outcome) (driven_on _ _ _ _ _ _ _ _ _ _ _ _ _ (driven_on _ _ _ _ _ _ _ _ _ _ _ _ _ so_far.1
          (subst (λ (o : Outcome). IsDriven one.0 c.args.settings.rules.aborts c.loop-turn.client.answers down.new.client.answers c.loop-turn.server.answers down.new.server.answers
          c.loop-turn.exchange o down.result.exchange) c.in-Quiet.is one.1))
          (subst (λ (o : Outcome). IsDriven two.0 c.args.settings.rules.aborts down.new.client.answers up.new.client.answers down.new.server.answers up.new.server.answers
          down.result.exchange o up.result.exchange) c.in-Quiet-outcome.is two.1)),
      record {
        most = omega (arith, so_far.2, one.2, two.2, c.loop-turn-test.true);
        spent = λ again. let no : Waits ≡ Again = sym came.rest ∙ again in cc;
        gave = λ given. absurd (given came.outcome);
      },
    )

pub returns-clause-driven : goal.returns-clause-driven
returns-clause-driven g c =
    let so_far = c.loop-turn.invariant.driven in
    let came = c.comes_to-2.ensures in (
      so_far.0,
      rw (came.exchange, came.outcome) so_far.1,
      record {
        most = omega (arith, so_far.2, c.loop-turn.auto._turn-end);
        spent = λ again quiet. omega (arith, so_far.3, c.loop-turn-test.false);
        gave = λ given. absurd (given came.outcome);
      },
    )
