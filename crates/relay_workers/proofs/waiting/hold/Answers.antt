use Rattle.std.proofs.Common.{sym, subst, refl}
use Rattle.relay_workers.specs.Waiting.{Holds}
use Rattle.relay_workers.specs.Waiting.Holds.{leaves, pauses, spends}
use Rattle.relay_workers.specs.declared.waiting.Patience.{Patience}
use Rattle.relay_workers.specs.declared.waiting.Patience.TheVariants.{GaveUp}
use Rattle.relay_workers.proofs.Steps.{turned_from, gave_up_from}
use Rattle.relay_workers.proofs.waiting.hold.Goals as goal

-- the client has left
pub returns-then-has_left-clause-holds : goal.returns-then-has_left-clause-holds
returns-then-has_left-clause-holds g c =
    subst (λ (patience : Patience). Holds g.N.BoardName.terms g.N.DeskName.setup c.args.admitted.now.at.ticket (g.G.Gate.notes c.args.hand.now.runner.gate)
    (g.G.Gate.notes c.give_up.new.gate) (g.P.Pause.left c.args.hand.now.pause) (g.P.Pause.left c.args.hand.now.pause) patience GaveUp)
    (sym c.if-has_left.ensures.left.0)
    (leaves (gave_up_from g.N.BoardName.terms g.N.DeskName.setup c.args.admitted.now.at.ticket c.give_up.result _ c.if-has_left.ensures.left.1
    c.give_up.ensures) refl)

-- a pause, and a turn
pub returns-then-turn-clause-holds : goal.returns-then-turn-clause-holds
returns-then-turn-clause-holds g c =
    pauses c.args.patience
    (turned_from g.N.BoardName.terms g.N.DeskName.setup c.turn-then-turn.result _ c.if-has_left.ensures.there c.turn-then-turn.ensures)
    c.if-turn.ensures.more

-- no pause is left
pub returns-clause-holds : goal.returns-clause-holds
returns-clause-holds g c =
    spends c.args.patience (g.G.Gate.notes c.give_up-2.new.gate)
    (gave_up_from g.N.BoardName.terms g.N.DeskName.setup c.args.admitted.now.at.ticket c.give_up-2.result _ c.if-has_left.ensures.there
    c.give_up-2.ensures) (c.turn-2.result, c.turn-2.ensures) c.if-turn.ensures.spent.0 c.if-turn.ensures.spent.1
