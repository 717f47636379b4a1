use Rattle.std.proofs.Common.{refl}
use Rattle.log_entries.specs.declared.entry.Entry.TheVariants.{Retried}
use Rattle.dispatch_state.proofs.Stepping.{follows_on}
use Rattle.dispatch_state.proofs.Beginning.{still_kept}
use Rattle.dispatch_state.proofs.Stepping.{closed}
use Rattle.dispatch_state.proofs.Stepping.{here_may}
use Rattle.dispatch_state.proofs.state.DispatchState.retry.Goals as goal

pub note-requires-clause-follows : goal.note-requires-clause-follows
note-requires-clause-follows g c =
    let may = here_may _ _ (Retried c.args.ticket c.args.server c.args.failures) c.self.view_is c.requires.lawful in
    follows_on _ _ _ _ (still_kept _ _ (Retried c.args.ticket c.args.server c.args.failures) c.self.invariant refl may refl).judged

pub invariant_of-self : goal.invariant_of-self
invariant_of-self g c =
    let may = here_may _ _ (Retried c.args.ticket c.args.server c.args.failures) c.self.view_is c.requires.lawful in
    closed _ _ _ _ _ _ _ _ refl c.note.ensures refl (still_kept _ _ (Retried c.args.ticket c.args.server c.args.failures) c.self.invariant refl may refl)
