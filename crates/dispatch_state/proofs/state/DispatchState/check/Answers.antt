use Rattle.std.proofs.Common.{◌≡◌, refl, sym, subst}
use Rattle.log_entries.specs.Health.{with_result}
use Rattle.log_entries.specs.Histories.{History, state_of, refuses_check}
use Rattle.dispatch_state.proofs.Stepping.{follows_on}
use Rattle.dispatch_state.specs.LoggedStates.{is_up_at}
use Rattle.dispatch_state.proofs.Checks.{check_kept}
use Rattle.dispatch_state.proofs.Stepping.{closed}
use Rattle.dispatch_state.proofs.Stepping.{here_begins}
use Rattle.dispatch_state.proofs.state.DispatchState.check.Goals as goal

pub note-requires-clause-follows : goal.note-requires-clause-follows
note-requires-clause-follows g c =
    let begins = here_begins _ _ _ c.args.moment c.later-now.result
    (λ h. refuses_check h c.args.server) c.self.invariant c.self.view_is c.requires.begins c.later-now.ensures.later
    c.later-now.ensures.range in
    let up = subst (λ (h : History). c.args.up ≡ is_up_at h.setup.servers (with_result c.args.server c.args.ok (state_of h).results) c.args.server)
    (sym c.self.view_is) c.requires.up in
    follows_on _ _ _ _
    (check_kept _ _ c.args.server c.args.moment c.later-now.result c.args.ok c.args.up c.self.invariant begins c.later-now.ensures.later up).judged

pub invariant_of-self : goal.invariant_of-self
invariant_of-self g c =
    let begins = here_begins _ _ _ c.args.moment c.later-now.result
    (λ h. refuses_check h c.args.server) c.self.invariant c.self.view_is c.requires.begins c.later-now.ensures.later
    c.later-now.ensures.range in
    let up = subst (λ (h : History). c.args.up ≡ is_up_at h.setup.servers (with_result c.args.server c.args.ok (state_of h).results) c.args.server)
    (sym c.self.view_is) c.requires.up in
    closed _ _ _ _ _ _ _ _ c.set_up.ensures c.note.ensures refl
    (check_kept _ _ c.args.server c.args.moment c.later-now.result c.args.ok c.args.up c.self.invariant begins c.later-now.ensures.later up)
