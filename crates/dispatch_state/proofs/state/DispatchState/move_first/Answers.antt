use Rattle.std.proofs.Common.{◌+◌, ◌≤◌, length, ap, sym, ◌∙◌, subst}
use Rattle.log_entries.specs.declared.entry.Entry.TheVariants.{Moved}
use Rattle.log_entries.specs.declared.queue.Queue.TheVariants.{Server}
use Rattle.log_entries.specs.declared.setup.Setup.{Setup}
use Rattle.log_entries.specs.Histories.{History, state_of}
use Rattle.log_entries.specs.Logs.{Recorded}
use Rattle.log_entries.specs.Rows.{queued}
use Rattle.log_reading.specs.Readable.{MayFollow}
use Rattle.log_reading.specs.Windows.{base_rows}
use Rattle.dispatch_state.proofs.Stepping.{follows_on}
use Rattle.slot_ledger.specs.Ledgers.{Kept, with_cells}
use Rattle.slot_ledger.specs.Cells.{unpinned}
use Rattle.slot_ledger.proofs.Standing.{still_stands}
use Rattle.dispatch_state.specs.Histories.{IsMove}
use Rattle.dispatch_state.specs.LoggedStates.{noted}
use Rattle.dispatch_state.proofs.Moves.{emptied, move_row, move_ticket, move_may, move_room, is_move}
use Rattle.dispatch_state.proofs.Stepping.{closed}
use Rattle.dispatch_state.proofs.Waiters.{moved_on}
use Rattle.dispatch_state.proofs.Moves.{move_calls}
use Rattle.dispatch_state.proofs.state.DispatchState.move_first.Goals as goal

pub returns-in_default-clause-emptied : goal.returns-in_default-clause-emptied
returns-in_default-clause-emptied g c = emptied _ _ c.args.server c.args.self.now c.self.invariant c.self.view_is c.in_default.ensures.shifted.0

pub row-ticket-requires : goal.row-ticket-requires
row-ticket-requires g c =
    let calls = move_calls _ _ _ c.args.server c.in-Some.place _ c.self.invariant c.self.view_is c.requires.emptying c.requires.redispatch c.in-Some.ensures.shifted.1 in
    move_row _ _ _ _ _ calls

pub unpin-requires : goal.unpin-requires
unpin-requires g c =
    let calls = move_calls _ _ _ c.args.server c.in-Some.place _ c.self.invariant c.self.view_is c.requires.emptying c.requires.redispatch c.in-Some.ensures.shifted.1 in
    still_stands _ _ _ c.in-Some.place (move_row _ _ _ _ _ calls) (ap (λ (k : Kept _). k.cells) c.shift-2.ensures)

pub note-requires-clause-room : goal.note-requires-clause-room
note-requires-clause-room g c =
    let calls = move_calls _ _ _ c.args.server c.in-Some.place _ c.self.invariant c.self.view_is c.requires.emptying c.requires.redispatch c.in-Some.ensures.shifted.1 in
    move_room _ _ _ _ _ calls
    (subst (λ (h : History). length h.log + queued (Server c.args.server) (state_of h).rows ≤ h.setup.log) (sym c.self.view_is) c.requires.room)

pub note-requires-clause-follows : goal.note-requires-clause-follows
note-requires-clause-follows g c =
    let calls = move_calls _ _ _ c.args.server c.in-Some.place _ c.self.invariant c.self.view_is c.requires.emptying c.requires.redispatch c.in-Some.ensures.shifted.1 in
    let ticket = move_ticket _ _ _ _ _ calls c.row-ticket.result c.row-ticket.ensures in
    subst (λ n. MayFollow (base_rows c.self.inside.log.base.rows) c.self.inside.log.entries (Moved n c.args.server)) (sym ticket)
    (follows_on _ _ _ _
    (moved_on _ _ c.in-Some.place c.args.server (c.len-joined.result + 1) c.in-Some.ensures.shifted.0 c.self.invariant
    (move_may _ _ _ _ _ calls) c.in-Some.ensures.shifted.1.waits (ap (λ n. n + 1) c.len-joined.ensures)).judged)

pub invariant_of-self-2 : goal.invariant_of-self-2
invariant_of-self-2 g c =
    let calls = move_calls _ _ _ c.args.server c.in-Some.place _ c.self.invariant c.self.view_is c.requires.emptying c.requires.redispatch c.in-Some.ensures.shifted.1 in
    let ticket = move_ticket _ _ _ _ _ calls c.row-ticket.result c.row-ticket.ensures in
    closed _ _ _ _ _ _ _ _ (c.unpin.ensures ∙ ap (λ (k : Kept _). with_cells k (unpinned k.cells c.in-Some.place)) c.shift-2.ensures)
    (c.note.ensures ∙ ap (λ n. noted c.self.inside.log (Moved n c.args.server)) ticket) c.in-Some.ensures.shifted.2
    (moved_on _ _ c.in-Some.place c.args.server (c.len-joined.result + 1) c.in-Some.ensures.shifted.0 c.self.invariant
    (move_may _ _ _ _ _ calls) c.in-Some.ensures.shifted.1.waits (ap (λ n. n + 1) c.len-joined.ensures))

pub returns-clause-moved : goal.returns-clause-moved
returns-clause-moved g c =
    let calls = move_calls _ _ _ c.args.server c.in-Some.place _ c.self.invariant c.self.view_is c.requires.emptying c.requires.redispatch c.in-Some.ensures.shifted.1 in
    let ticket = move_ticket _ _ _ _ _ calls c.row-ticket.result c.row-ticket.ensures in
    let setup = ap (λ (k : Kept _). k.setup) (c.unpin.ensures ∙ ap (λ (k : Kept _). with_cells k (unpinned k.cells c.in-Some.place)) c.shift-2.ensures) in
    subst (λ (h : History). IsMove c.args.server h
    (record { setup = c.unpin.new.self.setup; base = c.note.new.self.base; log = c.note.new.self.entries })) c.self.view_is
    (is_move _ _ _ _ _ calls (record { setup = c.unpin.new.self.setup; base = c.note.new.self.base; log = c.note.new.self.entries })
    (ap (λ (s : Setup). record { setup = s; base = c.note.new.self.base; log = c.note.new.self.entries }) setup
    ∙ ap (λ (r : Recorded). record { setup = c.self.inside.ledger.setup; base = r.base; log = r.entries })
    (c.note.ensures ∙ ap (λ n. noted c.self.inside.log (Moved n c.args.server)) ticket)))
