use Rattle.std.proofs.Common.{rules, [], ◌∷◌, ◌++◌, sym, refl, ap, subst, ◌∙◌}
use Rattle.relay_http.specs.declared.exchange.Exchange.{Exchange}
use Rattle.relay_workers.specs.Serving.{HaveEnded}
use Rattle.relay_workers.specs.Tallies.{tally_noted, no_clients}
use Rattle.relay_workers.proofs.Handing.{ended_more}
use Rattle.relay_workers.proofs.Steps.{noted_more}
use Rattle.relay_workers.proofs.working.worker.Goals as goal

pub loop-init : goal.loop-init
loop-init g c = (search rules, refl, ([], (refl, refl), c.zero-tally.ensures))

pub loop-preserved : goal.loop-preserved
loop-preserved g c =
    let served = c.in-Served.ensures.served refl in
    let others = c.loop.invariant.2 in (
      search rules,
      c.serve_next.ensures.most ∙ c.loop.invariant.1,
      (
        others.0 ++ served.0 ∷ [],
        ended_more g.G.Client.Read.remaining g.G.Client.Write.contents g.G.Server.Read.remaining g.G.Server.Write.contents
            g.N.BoardName.terms g.N.DeskName.setup c.args.proxy.now.config others.0 _ _ _ _ _ c.serve_next.new.hand.runner.exchange served.0 served.1 served.2
            others.1 served.3,
        served.4 ∙ ap (tally_noted served.0) others.2 ∙ sym (noted_more no_clients others.0 served.0),
      ),
    )

pub returns-in-NoMore-clause-worked : goal.returns-in-NoMore-clause-worked
returns-in-NoMore-clause-worked g c =
    let none = c.in-NoMore.ensures.no_more refl in
    let others = c.loop.invariant.2 in (
      others.0,
      _,
      subst (λ (it : Exchange). HaveEnded g.G.Client.Read.remaining g.G.Client.Write.contents g.G.Server.Read.remaining g.G.Server.Write.contents
          g.N.BoardName.terms g.N.DeskName.setup c.args.proxy.now.config others.0 c.args.hand.now.runner.exchange it
          (record { notes = g.G.Gate.notes c.args.hand.now.runner.gate; left = g.P.Pause.left c.args.hand.now.pause; view = c.args.idle.now.seat.view })
          (record { notes = g.G.Gate.notes c.loop.hand.runner.gate; left = g.P.Pause.left c.loop.hand.pause; view = c.loop.idle.seat.view }))
          (sym none.3) others.1,
      none.0 ∙ others.2,
      none.2,
      none.4,
      none.1,
    )

pub returns-in-Spent-clause-worked : goal.returns-in-Spent-clause-worked
returns-in-Spent-clause-worked g c =
    let spent = c.in-Spent.ensures.spent refl in
    let others = c.loop.invariant.2 in
    (others.0, _, (_, others.1), c.in-Spent.ensures.asked refl, c.serve_next.ensures.most ∙ c.loop.invariant.1, spent)
