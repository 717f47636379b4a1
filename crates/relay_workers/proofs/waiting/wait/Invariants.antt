use Rattle.std.proofs.Common.{◌≡◌, []}
use Rattle.relay_workers.specs.Carrying.{IsUntouched}
use Rattle.relay_workers.specs.Waiting.{HasWaited}
use Rattle.shared_desk.specs.Seats.{IsSameSeat}
use Rattle.relay_workers.proofs.waiting.wait.Given as goal

-- no pass was taken yet
abbrev pub invariant-loop : goal.invariant-loop
invariant-loop g l =
    IsSameSeat l.initial.seat l.seat
    × (l.seat.view.passes ≡ [])
    × (l.admitted.at ≡ l.initial.admitted.at) × (l.admitted.view ≡ l.initial.admitted.view)
    × IsUntouched g.G.Client.Read.remaining g.G.Client.Write.contents l.initial.admitted.client l.admitted.client
    × (l.hand.runner.exchange ≡ l.initial.hand.runner.exchange)
    × HasWaited g.N.BoardName.terms g.N.DeskName.setup l.initial.admitted.at
    (record { notes = g.G.Gate.notes l.initial.hand.runner.gate; left = g.P.Pause.left l.initial.hand.pause; view = l.initial.seat.view })
    (record { notes = g.G.Gate.notes l.hand.runner.gate; left = g.P.Pause.left l.hand.pause; view = l.seat.view }) l.patience
