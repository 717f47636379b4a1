use Rattle.dispatch_state.proofs.Beginning.{placed_here, cursor_here}
use Rattle.dispatch_state.proofs.state.DispatchState.placement.Goals as goal

pub returns-clause-placed : goal.returns-clause-placed
returns-clause-placed g c = placed_here _ _ c.args.pin c.args.avoid _ c.args.self.now c.self.invariant c.self.view_is c.place-placement.ensures.placed

pub returns-clause-cursor : goal.returns-clause-cursor
returns-clause-cursor g c = cursor_here _ _ _ c.args.pin _ c.args.self.now c.self.invariant c.self.view_is c.place-placement.ensures.cursor
