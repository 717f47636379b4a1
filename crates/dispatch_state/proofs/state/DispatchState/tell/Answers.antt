use Rattle.std.proofs.Common.{refl}
use Rattle.log_entries.specs.declared.entry.Entry.TheVariants.{Left}
use Rattle.dispatch_state.proofs.Stepping.{follows_on}
use Rattle.dispatch_state.proofs.Entries.{left_kept}
use Rattle.dispatch_state.proofs.Stepping.{has_row, closed}
use Rattle.dispatch_state.proofs.Stepping.{here_at, here_may}
use Rattle.dispatch_state.proofs.state.DispatchState.tell.Goals as goal

pub tell-requires : goal.tell-requires
tell-requires g c = has_row _ _ c.args.it c.self.invariant (here_at _ _ c.args.it c.self.view_is c.requires.at)

pub note-requires-clause-follows : goal.note-requires-clause-follows
note-requires-clause-follows g c =
    let at = here_at _ _ c.args.it c.self.view_is c.requires.at in
    let may = here_may _ _ (Left c.args.it.ticket c.args.cause) c.self.view_is c.requires.lawful in
    follows_on _ _ _ _ (left_kept _ _ c.args.it c.args.cause c.self.invariant c.requires.no_abort c.requires.no_timeout may at).judged

pub invariant_of-self : goal.invariant_of-self
invariant_of-self g c =
    let at = here_at _ _ c.args.it c.self.view_is c.requires.at in
    let may = here_may _ _ (Left c.args.it.ticket c.args.cause) c.self.view_is c.requires.lawful in
    closed _ _ _ _ _ _ _ _ c.tell.ensures c.note.ensures refl
    (left_kept _ _ c.args.it c.args.cause c.self.invariant c.requires.no_abort c.requires.no_timeout may at)
