use Rattle.std.proofs.Common.{◌≡◌, List}
use Rattle.shared_desk.specs.Seats.{IsSameSeat}
use Rattle.relay_workers.specs.Serving.{HaveEnded}
use Rattle.relay_workers.specs.Tallies.{all_noted, no_clients}
use Rattle.relay_workers.specs.declared.outcome.Outcome.{Outcome}
use Rattle.relay_workers.proofs.working.worker.Given as goal

-- the outcome of each client so far is noted
abbrev pub invariant-loop : goal.invariant-loop
invariant-loop g l =
    IsSameSeat l.initial.idle.seat l.idle.seat
    × (l.hand.runner.exchange.most ≡ l.initial.hand.runner.exchange.most)
    × ((outcomes : List Outcome)
    × HaveEnded g.G.Client.Read.remaining g.G.Client.Write.contents g.G.Server.Read.remaining g.G.Server.Write.contents
    g.N.BoardName.terms g.N.DeskName.setup l.proxy.config outcomes
    l.initial.hand.runner.exchange l.hand.runner.exchange
    (record { notes = g.G.Gate.notes l.initial.hand.runner.gate; left = g.P.Pause.left l.initial.hand.pause; view = l.initial.idle.seat.view })
    (record { notes = g.G.Gate.notes l.hand.runner.gate; left = g.P.Pause.left l.hand.pause; view = l.idle.seat.view })
    × (l.tally ≡ all_noted no_clients outcomes))
