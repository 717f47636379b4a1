use Rattle.std.proofs.Common.{◌≡◌, ◌<◌, [], false}
use Rattle.relay_http.specs.declared.exchange.Stage.TheVariants.{Asked}
use Rattle.relay_http.specs.States.{IsOpen}
use Rattle.relay_workers.specs.Carrying.{IsUntouched}
use Rattle.relay_workers.specs.Serving.{HaveFailed}
use Rattle.shared_desk.specs.Seats.{IsSameSeat}
use Rattle.relay_workers.proofs.working.attend.Given as goal

-- the request has its place, and is still to be handed on
abbrev pub invariant-loop : goal.invariant-loop
invariant-loop g l =
    IsSameSeat l.initial.seat l.seat
    × (l.seat.view.passes ≡ [])
    × (l.admitted.at.place < g.N.BoardName.terms.places)
    × (l.hand.runner.exchange.stage ≡ Asked) × (l.hand.runner.exchange.begun ≡ false)
    × IsOpen l.hand.runner.exchange
    × (l.hand.runner.exchange.most ≡ l.initial.hand.runner.exchange.most)
    × (l.hand.runner.exchange ≡ l.initial.hand.runner.exchange)
    × (l.admitted.view ≡ l.initial.admitted.view)
    × (l.admitted.at ≡ l.initial.admitted.at)
    × IsUntouched g.G.Client.Read.remaining g.G.Client.Write.contents l.initial.admitted.client l.admitted.client
    × HaveFailed g.N.BoardName.terms g.N.DeskName.setup l.initial.admitted.at
    (record { notes = g.G.Gate.notes l.initial.hand.runner.gate; left = g.P.Pause.left l.initial.hand.pause; view = l.initial.seat.view })
    (record { notes = g.G.Gate.notes l.hand.runner.gate; left = g.P.Pause.left l.hand.pause; view = l.seat.view })
