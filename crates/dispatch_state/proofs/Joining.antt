-- A request that begins to wait, and one that is dismissed.
use Rattle.std.proofs.Common.{◌≡◌, ℕ, ◌+◌, false, true, None, Some, slice_get, length, refl, ap, sym, ◌∙◌, subst}
use Rattle.std.proofs.lemmas.Option.{same_Some}
use Rattle.due_key.specs.declared.key.Key.{Key}
use Rattle.log_entries.specs.declared.entry.Entry.TheVariants.{Joined, Left}
use Rattle.log_entries.specs.declared.queue.Queue.{Queue}
use Rattle.log_entries.specs.declared.row.Phase.TheVariants.{Told}
use Rattle.log_entries.specs.declared.row.Row.{Row}
use Rattle.log_entries.specs.Histories.{History, state_of, end_of}
use Rattle.log_entries.specs.Judgement.{IsInPhase}
use Rattle.log_entries.specs.Refusals.{is_waiting}
use Rattle.log_entries.specs.Rows.{in_phase}
use Rattle.log_entries.proofs.Judged.{joined_row}
use Rattle.log_entries.proofs.RowLemmas.{changed_at}
use Rattle.slot_ledger.specs.declared.places.Cell.{Cell}
use Rattle.slot_ledger.specs.Ledgers.{with_cells}
use Rattle.slot_ledger.specs.Cells.{StandsIn, HasNode, with_phase, loosened, waiting}
use Rattle.base_verdict.specs.declared.cause.Cause.{Cause}
use Rattle.queue_waits.specs.declared.waiters.Waiter.{Waiter}
use Rattle.queue_waits.specs.Waitlists.{WaitsAt, HasNoKey, with_waiter, without_waiter}
use Rattle.dispatch_state.specs.declared.position.Ticketed.{Ticketed}
use Rattle.dispatch_state.specs.Histories.{with_entry, stage_of, cursor_after, waiting_of, IsTicketAt, MayComeNext}
use Rattle.dispatch_state.specs.LoggedStates.{LoggedState, history_of, noted, IsLoggedState}
use Rattle.dispatch_state.proofs.Entries.{cursor_moved}
use Rattle.dispatch_state.proofs.Resting.{waits_somewhere}
use Rattle.dispatch_state.proofs.Stepping.{here_at, here_may, stands_cell, at_row, node_of, state_consistent}
use Rattle.dispatch_state.proofs.Waiters.{waits_listed, listed, not_listed, own_key, queued_up, unqueued, one_fewer}

module _ {N : Type 0} (pair_of : N → Key × ℕ) where
  -- a request is to join a queue
  pub record JoinCalls (t : LoggedState N) (it : Ticketed) (queue : Queue) : Type 0 where
    pub before : IsLoggedState pair_of t
    pub may : MayComeNext (history_of t) (Joined it.ticket queue)
    pub at : IsTicketAt (state_of (history_of t)).rows it

  pub join_calls : (t : LoggedState N) (now : History) (it : Ticketed) (queue : Queue) → IsLoggedState pair_of t → history_of t ≡ now
      → MayComeNext now (Joined it.ticket queue) → IsTicketAt (state_of now).rows it → JoinCalls t it queue
  join_calls t now it queue is same may at = record {
    before = is;
    may = here_may (history_of t) now (Joined it.ticket queue) same may;
    at = here_at (history_of t) now it same at;
  }

  module _ (t : LoggedState N) (it : Ticketed) (queue : Queue) (calls : JoinCalls t it queue) where
    join_idle : is_waiting calls.at.0.phase ≡ false
    join_idle =
        let h = history_of t in
        let loose = joined_row (end_of h) (stage_of h) it.ticket queue (state_consistent pair_of t calls.before) calls.may in
        let there = at_row (state_of h).rows it loose.place loose.row (state_consistent pair_of t calls.before).tickets calls.at loose.stands loose.named in
        ap (λ (r : Row). is_waiting r.phase) (same_Some calls.at.0 loose.row (same_Some (Some calls.at.0) (Some loose.row) (sym calls.at.1 ∙ there)))
        ∙ ap is_waiting loose.loose

    cell_there : (s : Cell N) × StandsIn t.kept.cells it.place s × (s.row ≡ calls.at.0)
    cell_there = stands_cell t.kept.cells (state_of (history_of t)).rows it.place calls.at.0 calls.before.holds.rows calls.at.1

    idle_cell : is_waiting cell_there.0.row.phase ≡ false
    idle_cell = ap (λ (r : Row). is_waiting r.phase) cell_there.2 ∙ join_idle

    pub join_node : HasNode t.kept.cells it.place
    join_node = let node =
        node_of pair_of it.place cell_there.0 idle_cell (calls.before.holds.nodes it.place cell_there.0 cell_there.1) in
        (cell_there.0, node.0, cell_there.1, node.1)

    pub join_vacant : slice_get t.waits.waiters it.place ≡ Some None
    join_vacant = not_listed pair_of t it.place calls.at.0 calls.before calls.at.1 join_idle

    module _ (row : Row) (read : (s : Cell N) × StandsIn t.kept.cells it.place s × (s.row ≡ row)) where
      row_is : calls.at.0 ≡ row
      row_is =
          let one : cell_there.0 ≡ read.0 = same_Some cell_there.0 read.0 (same_Some (Some cell_there.0) (Some read.0) (sym cell_there.1 ∙ read.1)) in
          sym cell_there.2 ∙ ap (λ (s : Cell N). s.row) one ∙ read.2

      pub join_key : HasNoKey t.waits.waiters row.key
      join_key = subst (λ (r : Row). HasNoKey t.waits.waiters r.key) row_is (own_key pair_of t it.place calls.at.0 calls.before calls.at.1 join_idle)

      pub join_pair : (node : N) → (s : Cell N) × StandsIn t.kept.cells it.place s × (s.node ≡ Some node) → pair_of node ≡ (row.key, it.place)
      join_pair node has =
          let one : cell_there.0 ≡ has.0 = same_Some cell_there.0 has.0 (same_Some (Some cell_there.0) (Some has.0) (sym cell_there.1 ∙ has.1)) in
          let own = node_of pair_of it.place cell_there.0 idle_cell (calls.before.holds.nodes it.place cell_there.0 cell_there.1) in
          let same : node ≡ own.0 = same_Some node own.0 (sym has.2 ∙ ap (λ (s : Cell N). s.node) (sym one) ∙ own.1) in
          ap pair_of same ∙ own.2 ∙ ap (λ (r : Row). (r.key, it.place)) (cell_there.2 ∙ row_is)

      pub join_kept : (joined now : ℕ) → joined ≡ length t.log.entries + 1 → now ≡ cursor_after (history_of t) (Joined it.ticket queue)
          → IsLoggedState pair_of
          (record {
            kept = with_cells t.kept (waiting queue t.position.last t.kept.cells it.place);
            log = noted t.log (Joined it.ticket queue);
            waits =
                with_waiter t.waits it.place (record { key = row.key; queue = queue; joined = joined });
            position =
                record { cursor = now; last = t.position.last; ticket = t.position.ticket };
          })
      join_kept joined now later moved =
          queued_up pair_of t it queue now joined (record {
            key =
                row.key;
            queue = queue;
            joined = joined;
          }) calls.before calls.may calls.at join_idle
          (ap (λ (r : Row). record { key = r.key; queue = queue; joined = joined }) (sym row_is)) later
          (cursor_moved t.position (state_of (history_of t)) now calls.before.holds.position
          ∙ ap (λ n. record { cursor = n; last = (state_of (history_of t)).moment; ticket = (state_of (history_of t)).ticket }) moved)

  -- a request that waits is to be dismissed
  pub record LeaveCalls (t : LoggedState N) (it : Ticketed) (cause : Cause) : Type 0 where
    pub before : IsLoggedState pair_of t
    pub may : MayComeNext (history_of t) (Left it.ticket cause)
    pub at : IsTicketAt (state_of (history_of t)).rows it
    pub waits : IsInPhase is_waiting (state_of (history_of t)).rows it.ticket

  pub leave_calls : (t : LoggedState N) (now : History) (it : Ticketed) (cause : Cause) → IsLoggedState pair_of t → history_of t ≡ now
      → MayComeNext now (Left it.ticket cause) → IsTicketAt (state_of now).rows it
      → IsInPhase is_waiting (state_of now).rows it.ticket → LeaveCalls t it cause
  leave_calls t now it cause is same may at waits = record {
    before = is;
    may = here_may (history_of t) now (Left it.ticket cause) same may;
    at = here_at (history_of t) now it same at;
    waits = subst (λ (h : History). IsInPhase is_waiting (state_of h).rows it.ticket) (sym same) waits;
  }

  module _ (t : LoggedState N) (it : Ticketed) (cause : Cause) (calls : LeaveCalls t it cause) where
    waits_there : is_waiting calls.at.0.phase ≡ true
    waits_there =
        let h = history_of t in
        let there = at_row (state_of h).rows it calls.waits.live.0 calls.waits.row
        (state_consistent pair_of t calls.before).tickets calls.at calls.waits.live.1 calls.waits.named in
        ap (λ (r : Row). is_waiting r.phase)
        (same_Some calls.at.0 calls.waits.row (same_Some (Some calls.at.0) (Some calls.waits.row) (sym calls.at.1 ∙ there))) ∙ calls.waits.phase

    pub its_waiter : (waiter : Waiter) × WaitsAt t.waits.waiters it.place waiter
    its_waiter = let w = waits_somewhere calls.at.0.phase waits_there in (_, listed pair_of t it.place calls.at.0 w.queue w.since calls.before calls.at.1 w.is)

    pub leave_kept : (node : N) → (waiter : Waiter) × WaitsAt t.waits.waiters it.place waiter × (pair_of node ≡ (waiter.key, it.place))
        → IsLoggedState pair_of
        (record {
          kept = with_cells t.kept (with_phase (Told cause) (loosened node t.kept.cells it.place) it.place);
          log =
              noted t.log (Left it.ticket cause);
          waits = without_waiter t.waits it.place;
          position = t.position;
        })
    leave_kept node its =
        let s = state_of (history_of t) in
        let own = waits_listed pair_of t it.place its.0 calls.before its.1 in
        let same : own.row ≡ calls.at.0 = same_Some own.row calls.at.0 (same_Some (Some own.row) (Some calls.at.0) (sym own.stands ∙ calls.at.1)) in
        let named : its.0.key.ticket ≡ it.ticket = ap (λ (k : Key). k.ticket) (sym own.key) ∙ ap (λ (r : Row). r.key.ticket) same ∙ calls.at.2 in
        subst (λ n. IsLoggedState pair_of (record {
          kept =
              with_cells t.kept (with_phase (Told cause) (loosened node t.kept.cells it.place) it.place);
          log = noted t.log (Left n cause);
          waits =
              without_waiter t.waits it.place;
          position = t.position;
        })) named
        (unqueued pair_of t (Left its.0.key.ticket cause) it.place its.0 (Told cause) node t.position calls.before
        (subst (λ n. MayComeNext (history_of t) (Left n cause)) (sym named) calls.may) refl its.1 refl its.2 refl refl refl refl calls.before.holds.position)

    pub leave_fewer : waiting_of (with_entry (history_of t) (Left it.ticket cause)) + 1 ≡ waiting_of (history_of t)
    leave_fewer =
        one_fewer (history_of t) (Left it.ticket cause) it.place calls.at.0 (record calls.at.0 { phase = Told cause }) calls.at.1
        (changed_at (state_of (history_of t)).rows it.ticket it.place calls.at.0 (in_phase (Told cause))
        (state_consistent pair_of t calls.before).tickets calls.at.1 calls.at.2) waits_there refl
