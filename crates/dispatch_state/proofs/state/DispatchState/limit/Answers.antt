use Rattle.std.proofs.Common.{refl}
use Rattle.log_entries.specs.Histories.{refuses_limit}
use Rattle.dispatch_state.proofs.Checks.{limit_kept}
use Rattle.dispatch_state.proofs.Stepping.{closed, follows_on, here_begins}
use Rattle.dispatch_state.proofs.state.DispatchState.limit.Goals as goal

pub note-requires-clause-follows : goal.note-requires-clause-follows
note-requires-clause-follows g c =
    let begins = here_begins _ _ _ c.args.moment c.later-now.result
    (λ h. refuses_limit h c.args.server) c.self.invariant c.self.view_is c.requires.begins c.later-now.ensures.later
    c.later-now.ensures.range in
    follows_on _ _ _ _ (limit_kept _ _ c.args.server c.args.limit c.args.moment c.later-now.result c.self.invariant begins c.later-now.ensures.later).judged

pub invariant_of-self : goal.invariant_of-self
invariant_of-self g c =
    let begins = here_begins _ _ _ c.args.moment c.later-now.result
    (λ h. refuses_limit h c.args.server) c.self.invariant c.self.view_is c.requires.begins c.later-now.ensures.later
    c.later-now.ensures.range in
    closed _ _ _ _ _ _ _ _ c.set_limit.ensures c.note.ensures refl
    (limit_kept _ _ c.args.server c.args.limit c.args.moment c.later-now.result c.self.invariant begins c.later-now.ensures.later)
