use Rattle.std.proofs.Common.{◌+◌, ap, ◌∙◌}
use Rattle.log_entries.specs.declared.row.Phase.TheVariants.{Told}
use Rattle.log_entries.specs.declared.setup.Setup.{Setup}
use Rattle.log_entries.specs.Histories.{History}
use Rattle.log_entries.specs.Logs.{Recorded}
use Rattle.dispatch_state.proofs.Stepping.{follows_on}
use Rattle.slot_ledger.specs.Ledgers.{Kept, with_cells}
use Rattle.slot_ledger.specs.Cells.{with_phase}
use Rattle.slot_ledger.proofs.Standing.{still_stands}
use Rattle.dispatch_state.specs.Histories.{waiting_of}
use Rattle.dispatch_state.proofs.Joining.{its_waiter, leave_kept, leave_fewer}
use Rattle.dispatch_state.proofs.Stepping.{has_row, closed}
use Rattle.dispatch_state.proofs.Joining.{leave_calls}
use Rattle.dispatch_state.proofs.Stepping.{here_at}
use Rattle.dispatch_state.proofs.state.DispatchState.dismiss.Goals as goal

pub leave-node-requires : goal.leave-node-requires
leave-node-requires g c =
    let calls = leave_calls _ _ _ c.args.it c.args.cause c.self.invariant c.self.view_is c.requires.lawful c.requires.at c.requires.waits in
    its_waiter _ _ c.args.it c.args.cause calls

pub loosen-requires : goal.loosen-requires
loosen-requires g c = has_row _ _ c.args.it c.self.invariant (here_at _ _ c.args.it c.self.view_is c.requires.at)

pub tell-requires : goal.tell-requires
tell-requires g c =
    still_stands _ _ _ c.args.it.place (has_row _ _ c.args.it c.self.invariant (here_at _ _ c.args.it c.self.view_is c.requires.at))
    (ap (λ (k : Kept _). k.cells) c.loosen.ensures)

pub note-requires-clause-follows : goal.note-requires-clause-follows
note-requires-clause-follows g c =
    let calls = leave_calls _ _ _ c.args.it c.args.cause c.self.invariant c.self.view_is c.requires.lawful c.requires.at c.requires.waits in
    follows_on _ _ _ _ (leave_kept _ _ c.args.it c.args.cause calls c.leave-node.result c.leave-node.ensures.pair).judged

pub invariant_of-self : goal.invariant_of-self
invariant_of-self g c =
    let calls = leave_calls _ _ _ c.args.it c.args.cause c.self.invariant c.self.view_is c.requires.lawful c.requires.at c.requires.waits in
    closed _ _ _ _ _ _ _ _ (c.tell.ensures ∙ ap (λ (k : Kept _). with_cells k (with_phase (Told c.args.cause) k.cells c.args.it.place)) c.loosen.ensures)
    c.note.ensures c.leave-node.ensures.left
    (leave_kept _ _ c.args.it c.args.cause calls c.leave-node.result c.leave-node.ensures.pair)

pub returns-clause-fewer : goal.returns-clause-fewer
returns-clause-fewer g c =
    let calls = leave_calls _ _ _ c.args.it c.args.cause c.self.invariant c.self.view_is c.requires.lawful c.requires.at c.requires.waits in
    let setup =
    ap (λ (k : Kept _). k.setup)
    (c.tell.ensures ∙ ap (λ (k : Kept _). with_cells k (with_phase (Told c.args.cause) k.cells c.args.it.place)) c.loosen.ensures) in
    let goes = ap (λ (s : Setup). record { setup = s; base = c.note.new.self.base; log = c.note.new.self.entries }) setup
    ∙ ap (λ (r : Recorded). record { setup = c.self.inside.ledger.setup; base = r.base; log = r.entries }) c.note.ensures in
    ap (λ (h : History). waiting_of h + 1) goes ∙ leave_fewer _ _ c.args.it c.args.cause calls ∙ ap waiting_of c.self.view_is
