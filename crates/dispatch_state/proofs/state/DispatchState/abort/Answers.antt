use Rattle.std.proofs.Common.{refl}
use Rattle.log_entries.specs.declared.entry.Entry.TheVariants.{Abort}
use Rattle.log_entries.specs.Histories.{refuses_abort}
use Rattle.dispatch_state.proofs.Stepping.{follows_on}
use Rattle.dispatch_state.proofs.Beginning.{begun_kept}
use Rattle.dispatch_state.proofs.Stepping.{closed}
use Rattle.dispatch_state.proofs.Stepping.{here_begins}
use Rattle.dispatch_state.proofs.state.DispatchState.abort.Goals as goal

pub note-requires-clause-follows : goal.note-requires-clause-follows
note-requires-clause-follows g c =
    let begins = here_begins _ _ _ c.args.moment c.later-now.result
    (λ h. refuses_abort h c.args.it.ticket) c.self.invariant c.self.view_is c.requires.begins c.later-now.ensures.later
    c.later-now.ensures.range in
    follows_on _ _ _ _
    (begun_kept _ _ (λ n. Abort n c.args.it.ticket) c.args.moment c.later-now.result c.self.invariant refl c.later-now.ensures.later begins refl).judged

pub invariant_of-self : goal.invariant_of-self
invariant_of-self g c =
    let begins = here_begins _ _ _ c.args.moment c.later-now.result
    (λ h. refuses_abort h c.args.it.ticket) c.self.invariant c.self.view_is c.requires.begins c.later-now.ensures.later
    c.later-now.ensures.range in
    closed _ _ _ _ _ _ _ _ refl c.note.ensures refl
    (begun_kept _ _ (λ n. Abort n c.args.it.ticket) c.args.moment c.later-now.result c.self.invariant refl c.later-now.ensures.later begins refl)
