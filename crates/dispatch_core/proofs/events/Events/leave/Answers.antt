use Rattle.std.proofs.Common.{Option, ℕ, subst}
use Rattle.log_entries.specs.Histories.{state_of}
use Rattle.dispatch_core.specs.Steps.{IsReturn}
use Rattle.dispatch_core.proofs.Calls.{may_end_told, ends_told}
use Rattle.dispatch_core.proofs.events.Events.leave.Goals as goal

pub give_back-requires-clause-slot : goal.give_back-requires-clause-slot
give_back-requires-clause-slot g c = subst (λ (o : Option ℕ). IsReturn (state_of c.args.self.now.state).rows c.args.it.ticket o) c.in-Some.is c.requires.row

pub end-requires-clause-lawful : goal.end-requires-clause-lawful
end-requires-clause-lawful g c =
    may_end_told c.args.self.now.state c.args.it.ticket c.requires.returning
    (subst (λ (o : Option ℕ). IsReturn (state_of c.args.self.now.state).rows c.args.it.ticket o) c.in-None.is c.requires.row)

pub returns-in-None : goal.returns-in-None
returns-in-None g c = ends_told c.args.self.now.state c.end.new.self c.args.it.ticket c.end.ensures
