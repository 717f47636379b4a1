use Rattle.std.proofs.Common.{rules, ◌≡◌, ◌≤◌, inr, refl, ◌∙◌, sym, ap, subst, arith}
use Rattle.base_verdict.specs.declared.Verdict.{Verdict}
use Rattle.base_verdict.specs.declared.Verdict.TheVariants.{Serve, Told}
use Rattle.dispatch_state.specs.declared.position.Ticketed.{Ticketed}
use Rattle.relay_http.specs.declared.exchange.Exchange.{Exchange}
use Rattle.relay_workers.specs.Endings.{EndsUnder}
use Rattle.relay_workers.specs.Serving.HaveFailed.{not_yet, again}
use Rattle.relay_workers.specs.Waiting.{TakesPass, SpendsPauses}
use Rattle.relay_workers.proofs.Handing.{for_this}
use Rattle.relay_workers.proofs.working.attend.Goals as goal

pub loop-init : goal.loop-init
loop-init g c = (
  search rules,
  search rules,
  search rules,
  search rules,
  search rules,
  search rules,
  search rules,
  refl,
  refl,
  refl,
  record { left_is = refl; told_is = refl },
  not_yet,
)

pub returns-in-Ok-finish-clause-ended : goal.returns-in-Ok-finish-clause-ended
returns-in-Ok-finish-clause-ended g c = record {
  sent = c.in-Ok-finish.ensures.sent;
  end = inr (
    c.in-Some-wait.granted.pass,
    record {
      ends = by_verdict c.in-Some-wait.granted.pass.verdict refl;
      request = c.in-Ok.admitted.view;
      held = c.admit.new.runner.exchange.pipe.inbox;
      at = c.in-Ok.admitted.at;
      waiting = c.in-Some-wait.granted.admitted.client;
      waits = record { notes = g.G.Gate.notes c.loop.hand.runner.gate; left = g.P.Pause.left c.loop.hand.pause; view = c.loop.seat.view };
      still = record {
        read = c.in-Ok.admitted.client;
        head = c.in-Ok.ensures.read;
        untouched = record {
          left_is = c.in-Some-wait.ensures.client.left_is ∙ c.loop.invariant.10.left_is;
          told_is = c.in-Some-wait.ensures.client.told_is ∙ c.loop.invariant.10.told_is;
        };
        admitted = record { notes = g.G.Gate.notes c.admit.new.runner.gate; left = g.P.Pause.left c.args.hand.now.pause; view = c.args.seat.now.view };
        arrives = c.in-Ok.ensures.arrives;
        unpaused = (refl, refl);
        failed = c.loop.invariant.11;
      };
      granted = record { notes = g.G.Gate.notes c.wait.new.hand.runner.gate; left = g.P.Pause.left c.wait.new.hand.pause; view = c.wait.new.seat.view };
      takes = subst (λ (at : Ticketed). TakesPass g.N.BoardName.terms g.N.DeskName.setup at c.in-Some-wait.granted.pass
          (record { notes = g.G.Gate.notes c.loop.hand.runner.gate; left = g.P.Pause.left c.loop.hand.pause; view = c.loop.seat.view })
          (record { notes = g.G.Gate.notes c.wait.new.hand.runner.gate; left = g.P.Pause.left c.wait.new.hand.pause; view = c.wait.new.seat.view }))
          c.loop.invariant.9 c.in-Some-wait.ensures.takes;
      served = c.in-Ok-finish.ensures.relayed.1;
      client_then = c.in-Ok-finish.ensures.relayed.0;
      serves = for_this g.G.Client.Read.remaining g.G.Client.Write.contents g.G.Server.Read.remaining g.G.Server.Write.contents _ _ _ _ _ _ _ _
          (c.in-Some-wait.ensures.its_request.1 ∙ c.loop.invariant.8)
          (ap (λ (it : Exchange). it.pipe.inbox) (c.wait.ensures.exchange ∙ c.loop.invariant.7)) c.in-Ok-finish.ensures.relayed.3;
      posts = c.in-Ok-finish.ensures.done;
      turned = c.in-Ok-finish.ensures.relayed.2;
      turns = c.in-Ok-finish.ensures.relayed.4;
      released = c.in-Ok-finish.ensures.relayed.5;
      unpaused = refl;
    },
  );
}
  where
    by_verdict : (verdict : Verdict) → c.in-Some-wait.granted.pass.verdict ≡ verdict
        → EndsUnder verdict c.finish.new.runner.exchange c.in-Ok-finish.outcome
    by_verdict (Serve server) e = c.in-Ok-finish.ensures.carried server e
    by_verdict (Told cause) e = (c.in-Ok-finish.ensures.closing cause e, let told = c.in-Ok-finish.ensures.told cause e in cc)

-- no pass came as long as pauses were left
pub returns-in_default-clause-given_up : goal.returns-in_default-clause-given_up
returns-in_default-clause-given_up g c =
    let spent = c.in_default.ensures.spent in
    let same : c.wait.new.hand.runner.exchange ≡ c.admit.new.runner.exchange = c.wait.ensures.exchange ∙ c.loop.invariant.7 in record {
      request = c.in-Ok.admitted.view;
      held = c.admit.new.runner.exchange.pipe.inbox;
      at = c.in-Ok.admitted.at;
      waiting = spent.0;
      waits = record { notes = g.G.Gate.notes c.loop.hand.runner.gate; left = g.P.Pause.left c.loop.hand.pause; view = c.loop.seat.view };
      still = record {
        read = c.in-Ok.admitted.client;
        head = c.in-Ok.ensures.read;
        untouched = record {
          left_is = spent.1.left_is ∙ c.loop.invariant.10.left_is;
          told_is = spent.1.told_is ∙ c.loop.invariant.10.told_is;
        };
        admitted = record { notes = g.G.Gate.notes c.admit.new.runner.gate; left = g.P.Pause.left c.args.hand.now.pause; view = c.args.seat.now.view };
        arrives = c.in-Ok.ensures.arrives;
        unpaused = (refl, refl);
        failed = c.loop.invariant.11;
      };
      spends = subst (λ (at : Ticketed). SpendsPauses g.N.BoardName.terms g.N.DeskName.setup at spent.0
          (record { notes = g.G.Gate.notes c.loop.hand.runner.gate; left = g.P.Pause.left c.loop.hand.pause; view = c.loop.seat.view })
          (record { notes = g.G.Gate.notes c.wait.new.hand.runner.gate; left = g.P.Pause.left c.wait.new.hand.pause; view = c.wait.new.seat.view }))
          c.loop.invariant.9 spent.2;
      holds = ap (λ (it : Exchange). it.pipe.inbox) same;
      turns = subst (λ (it : Exchange). it.pipe.turns ≤ it.most) (sym same)
          (omega (arith, c.in-Ok.ensures.turns, c.admit.ensures.most, c.requires.fresh.turns));
    }

pub loop-preserved : goal.loop-preserved
loop-preserved g c = (
  search rules,
  search rules,
  search rules,
  search rules,
  search rules,
  search rules,
  search rules,
  c.in-Err-finish.ensures.again.3 ∙ c.wait.ensures.exchange ∙ c.loop.invariant.7,
  c.in-Err-finish.ensures.again.2 ∙ c.in-Some-wait.ensures.its_request.1 ∙ c.loop.invariant.8,
  c.in-Err-finish.ensures.again.1 ∙ c.in-Some-wait.ensures.its_request.0 ∙ c.loop.invariant.9,
  record {
    left_is = ap g.G.Client.Read.remaining c.in-Err-finish.ensures.again.0 ∙ c.in-Some-wait.ensures.client.left_is ∙ c.loop.invariant.10.left_is;
    told_is = ap g.G.Client.Write.contents c.in-Err-finish.ensures.again.0 ∙ c.in-Some-wait.ensures.client.told_is ∙ c.loop.invariant.10.told_is;
  },
  again _ _ c.loop.invariant.11 (record {
    pass = c.in-Some-wait.granted.pass;
    granted = record { notes = g.G.Gate.notes c.wait.new.hand.runner.gate; left = g.P.Pause.left c.wait.new.hand.pause; view = c.wait.new.seat.view };
    takes = subst (λ (at : Ticketed). TakesPass g.N.BoardName.terms g.N.DeskName.setup at c.in-Some-wait.granted.pass
        (record { notes = g.G.Gate.notes c.loop.hand.runner.gate; left = g.P.Pause.left c.loop.hand.pause; view = c.loop.seat.view })
        (record { notes = g.G.Gate.notes c.wait.new.hand.runner.gate; left = g.P.Pause.left c.wait.new.hand.pause; view = c.wait.new.seat.view }))
        c.loop.invariant.9 c.in-Some-wait.ensures.takes;
    serves = c.in-Err-finish.ensures.failed.1;
    posts = c.in-Err-finish.ensures.failed.0;
    turns = c.in-Err-finish.ensures.again.4;
    left = refl;
  }),
)
