use Rattle.std.proofs.Common.{◌<◌, length, refl, ap, sym, ◌∙◌, subst}
use Rattle.log_entries.specs.declared.entry.Entry.TheVariants.{Direct}
use Rattle.log_entries.specs.Histories.{History}
use Rattle.dispatch_state.proofs.Stepping.{follows_on}
use Rattle.dispatch_state.specs.Histories.{cursor_after}
use Rattle.dispatch_state.proofs.Entries.{direct_within, direct_kept}
use Rattle.dispatch_state.proofs.Stepping.{has_row, closed}
use Rattle.dispatch_state.proofs.Stepping.{here_at, here_may}
use Rattle.dispatch_state.proofs.state.DispatchState.direct.Goals as goal

pub serve-requires-clause-row : goal.serve-requires-clause-row
serve-requires-clause-row g c = has_row _ _ c.args.it c.self.invariant (here_at _ _ c.args.it c.self.view_is c.requires.at)

pub serve-requires-clause-within : goal.serve-requires-clause-within
serve-requires-clause-within g c =
    subst (λ (h : History). c.args.server < length h.setup.servers) (sym c.self.view_is)
    (direct_within c.args.self.now c.args.it.ticket c.args.server c.requires.lawful)

pub note-requires-clause-follows : goal.note-requires-clause-follows
note-requires-clause-follows g c =
    let at = here_at _ _ c.args.it c.self.view_is c.requires.at in
    let may = here_may _ _ (Direct c.args.it.ticket c.args.server) c.self.view_is c.requires.lawful in
    let moved = c.requires.cursor ∙ ap (λ (h : History). cursor_after h (Direct c.args.it.ticket c.args.server)) (sym c.self.view_is) in
    follows_on _ _ _ _ (direct_kept _ _ c.args.it c.args.server c.args.cursor c.self.invariant may at moved).judged

pub invariant_of-self : goal.invariant_of-self
invariant_of-self g c =
    let at = here_at _ _ c.args.it c.self.view_is c.requires.at in
    let may = here_may _ _ (Direct c.args.it.ticket c.args.server) c.self.view_is c.requires.lawful in
    let moved = c.requires.cursor ∙ ap (λ (h : History). cursor_after h (Direct c.args.it.ticket c.args.server)) (sym c.self.view_is) in
    closed _ _ _ _ _ _ _ _ c.serve.ensures c.note.ensures refl (direct_kept _ _ c.args.it c.args.server c.args.cursor c.self.invariant may at moved)
