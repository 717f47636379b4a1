use Rattle.std.proofs.Common.{◌≡◌, ◌+◌, ◌<◌, ◌≤◌, length, ap, sym, ◌∙◌, subst}
use Rattle.log_entries.specs.declared.row.Phase.TheVariants.{Serving}
use Rattle.log_entries.specs.declared.setup.Setup.{Setup}
use Rattle.log_entries.specs.Histories.{History}
use Rattle.log_entries.specs.Logs.{Recorded}
use Rattle.log_entries.specs.Queues.{IsQueueOf}
use Rattle.slot_ledger.specs.Ledgers.{Kept, with_cells, scene_in as kept_scene}
use Rattle.slot_ledger.specs.Cells.{with_phase, loosened}
use Rattle.slot_ledger.proofs.Standing.{still_stands}
use Rattle.queue_waits.specs.Waitlists.{Waitlist, AreFirst, without_waiter, list_of}
use Rattle.dispatch_state.specs.Histories.{waiting_of, IsGrant}
use Rattle.dispatch_state.proofs.Grants.{heads_are, not_empty, grant_within, grant_row, grant_kept, is_grant, grant_room, grant_arrived}
use Rattle.dispatch_state.proofs.Grants.{grant_joined, grant_waits, grant_begun}
use Rattle.dispatch_state.proofs.Stepping.{closed}
use Rattle.dispatch_state.proofs.Within.{take_within}
use Rattle.dispatch_state.proofs.Grants.{GrantCalls, grant_calls}
use Rattle.dispatch_state.proofs.state.DispatchState.grant.Given as given
use Rattle.dispatch_state.proofs.state.DispatchState.grant.Goals.{In-Some-take, After-serve}
use Rattle.dispatch_state.proofs.state.DispatchState.grant.Goals as goal

pub next_queue-queue-requires : goal.next_queue-queue-requires
next_queue-queue-requires g c =
    record {
      heads =
          heads_are _ _ c.heads-heads.result c.in-Some.server c.self.invariant
          (subst (AreFirst c.in-Some.server c.heads-heads.result) c.heads-heads.ensures.same c.heads-heads.ensures.heads);
    }

pub take-requires : goal.take-requires
take-requires g c =
    subst (λ n. IsQueueOf n c.next_queue-queue.result) (sym (ap (λ (l : Waitlist). l.servers) c.heads-heads.ensures.same ∙ c.self.invariant.servers))
    (take_within (kept_scene c.self.inside.ledger) c.self.inside.position.cursor c.heads-heads.result c.in-Some.server c.next_queue-queue.result
    (c.next_queue-queue.ensures.lawful c.self.inside.position.cursor c.in-Some.ensures.next)).1

pub unreachable-requires : goal.unreachable-requires
unreachable-requires g c =
    not_empty _ _ c.heads-heads.result c.in-Some.server c.self.inside.position.cursor c.next_queue-queue.result c.heads-heads.ensures.heads
    (c.next_queue-queue.ensures.lawful c.self.inside.position.cursor c.in-Some.ensures.next) c.in_default-take.ensures.first

-- what a grant rests on, once its request is taken from the queue
calls : (g : given.Over) (c : In-Some-take g)
    → GrantCalls g.Q.PendQueue.pair_of
    (record { kept = c.self.inside.ledger; log = c.self.inside.log; waits = list_of c.self.inside.waiting; position = c.self.inside.position })
    c.heads-heads.result c.in-Some.server c.next_queue-queue.result c.in-Some-take.taken.place c.in-Some-take.taken.waiter
calls g c =
    grant_calls _ _ _ _ c.heads-heads.result c.in-Some.server c.next_queue-queue.result c.in-Some-take.taken.place c.in-Some-take.taken.waiter
    c.self.invariant c.self.view_is c.requires.may_grant c.heads-heads.ensures.heads c.heads-heads.ensures.same
    (c.next_queue-queue.ensures.lawful c.self.inside.position.cursor c.in-Some.ensures.next) c.in-Some-take.ensures.first

pub loosen-requires : goal.loosen-requires
loosen-requires g c =
    let known = calls g (goal.at.loosen-requires g c).In-Some-take in
    grant_row _ _ _ _ _ _ _ known

pub serve-requires-clause-row : goal.serve-requires-clause-row
serve-requires-clause-row g c =
    let known = calls g (goal.at.serve-requires-clause-row g c).In-Some-take in
    still_stands _ _ _ c.in-Some-take.taken.place (grant_row _ _ _ _ _ _ _ known) (ap (λ (k : Kept _). k.cells) c.loosen.ensures)

pub serve-requires-clause-within : goal.serve-requires-clause-within
serve-requires-clause-within g c =
    let known = calls g (goal.at.serve-requires-clause-within g c).In-Some-take in
    subst (λ (k : Kept _). c.in-Some.server < length k.setup.servers) (sym c.loosen.ensures) (grant_within _ _ _ _ _ _ _ known)

pub note_grant-requires-clause-room : goal.note_grant-requires-clause-room
note_grant-requires-clause-room g c =
    let known = calls g (goal.at.note_grant-requires-clause-room g c).In-Some-take in
    grant_room _ _ _ _ _ _ _ known (subst (λ (h : History). length h.log + waiting_of h ≤ h.setup.log) (sym c.self.view_is) c.requires.room)

pub note_grant-requires-clause-begun : goal.note_grant-requires-clause-begun
note_grant-requires-clause-begun g c =
    let known = calls g (goal.at.note_grant-requires-clause-begun g c).In-Some-take in
    grant_begun _ _ _ _ _ _ _ known

pub note_grant-requires-clause-arrived : goal.note_grant-requires-clause-arrived
note_grant-requires-clause-arrived g c =
    let known = calls g (goal.at.note_grant-requires-clause-arrived g c).In-Some-take in
    grant_arrived _ _ _ _ _ _ _ known

pub note_grant-requires-clause-joined : goal.note_grant-requires-clause-joined
note_grant-requires-clause-joined g c =
    let known = calls g (goal.at.note_grant-requires-clause-joined g c).In-Some-take in
    grant_joined _ _ _ _ _ _ _ known

pub note_grant-requires-clause-waits : goal.note_grant-requires-clause-waits
note_grant-requires-clause-waits g c =
    let known = calls g (goal.at.note_grant-requires-clause-waits g c).In-Some-take in
    grant_waits _ _ _ _ _ _ _ known

-- the rows that it leaves, and who waits then
served : (g : given.Over) (c : After-serve g)
    → c.serve.new.self ≡ with_cells c.self.inside.ledger
    (with_phase (Serving c.in-Some.server) (loosened c.in-Some-take.taken.node c.self.inside.ledger.cells c.in-Some-take.taken.place)
    c.in-Some-take.taken.place)
served g c =
    c.serve.ensures ∙ ap (λ (k : Kept _). with_cells k (with_phase (Serving c.in-Some.server) k.cells c.in-Some-take.taken.place)) c.loosen.ensures

left : (g : given.Over) (c : In-Some-take g) → list_of c.take.new.self ≡ without_waiter (list_of c.self.inside.waiting) c.in-Some-take.taken.place
left g c = c.in-Some-take.ensures.left ∙ ap (λ (l : Waitlist). without_waiter l c.in-Some-take.taken.place) c.heads-heads.ensures.same

pub invariant_of-self : goal.invariant_of-self
invariant_of-self g c =
    let at = goal.at.invariant_of-self g c in
    closed _ _ _ _ _ _ _ _ (served g at.After-serve) c.note_grant.ensures (left g at.In-Some-take)
    (grant_kept _ _ _ _ _ _ _ (calls g at.In-Some-take) c.in-Some-take.taken.node _ c.in-Some-take.ensures.pair c.in-Some.ensures.cursor)

pub returns-clause-granted : goal.returns-clause-granted
returns-clause-granted g c =
    let at = goal.at.returns-clause-granted g c in
    let setup = ap (λ (k : Kept _). k.setup) (served g at.After-serve) in
    subst (λ (h : History). IsGrant h (record {
      setup = c.serve.new.self.setup;
      base = c.note_grant.new.self.base;
      log = c.note_grant.new.self.entries;
    })) c.self.view_is
    (is_grant _ _ _ _ _ _ _ (calls g at.In-Some-take)
    (record { setup = c.serve.new.self.setup; base = c.note_grant.new.self.base; log = c.note_grant.new.self.entries })
    (ap (λ (s : Setup). record { setup = s; base = c.note_grant.new.self.base; log = c.note_grant.new.self.entries }) setup
    ∙ ap (λ (r : Recorded). record { setup = c.self.inside.ledger.setup; base = r.base; log = r.entries }) c.note_grant.ensures))

pub returns-clause-judged : goal.returns-clause-judged
returns-clause-judged g c =
    let at = goal.at.returns-clause-judged g c in
    (closed _ _ _ _ _ _ _ _ (served g at.After-serve) c.note_grant.ensures (left g at.In-Some-take)
    (grant_kept _ _ _ _ _ _ _ (calls g at.In-Some-take) c.in-Some-take.taken.node _ c.in-Some-take.ensures.pair c.in-Some.ensures.cursor)).judged
