-- The moves of a server's queue into the backend's.
use Rattle.std.proofs.Common.{◌≡◌, ℕ, ◌+◌, ◌<◌, ◌≤◌, None, Some, IsTrue, length, refl, ap, sym, ◌∙◌, subst, arith, Greater}
use Rattle.std.proofs.Math.ListN.{set}
use Rattle.std.proofs.lemmas.Option.{same_Some}
use Rattle.due_key.specs.declared.key.Key.{Key}
use Rattle.due_key.specs.Order.{key_cmp}
use Rattle.log_entries.specs.declared.entry.Entry.TheVariants.{Moved}
use Rattle.log_entries.specs.declared.queue.Queue.{Queue}
use Rattle.log_entries.specs.declared.queue.Queue.TheVariants.{Backend, Server}
use Rattle.log_entries.specs.declared.row.Phase.TheVariants.{Waiting}
use Rattle.log_entries.specs.declared.row.Row.{Row}
use Rattle.log_entries.specs.Histories.{History, state_of, end_of}
use Rattle.log_entries.specs.Judgement.{Stage, emptying, MayCome, IsFirstIn}
use Rattle.log_entries.specs.Rows.{waits_in, queued, in_backend_since}
use Rattle.log_entries.specs.States.{State}
use Rattle.log_entries.proofs.Judged.{after_all-push}
use Rattle.base_lists.proofs.Places.{tally, count-set}
use Rattle.log_entries.proofs.RowLemmas.{changed_at}
use Rattle.slot_ledger.specs.declared.places.Cell.{Cell}
use Rattle.slot_ledger.specs.Cells.{StandsIn, HasRow}
use Rattle.queue_waits.specs.declared.waiters.Waiter.{Waiter}
use Rattle.queue_waits.specs.Waitlists.{NoneWaitsIn}
use Rattle.queue_waits.specs.Waitlists.{WaitsFirstIn as IsFirstListed}
use Rattle.dispatch_state.specs.Histories.{with_entry, stage_of, MayComeNext, IsMove, IsEmptied}
use Rattle.dispatch_state.specs.LoggedStates.{LoggedState, history_of, IsLoggedState}
use Rattle.dispatch_state.proofs.Grants.{none_wait}
use Rattle.dispatch_state.proofs.Resting.{waits_phase, phase_waits}
use Rattle.dispatch_state.proofs.Stepping.{stands_row, stands_cell, state_consistent}
use Rattle.dispatch_state.proofs.Waiters.{ItsRow, waits_listed, listed}

module _ {N : Type 0} (pair_of : N → Key × ℕ) where
  pub emptied : (t : LoggedState N) (server : ℕ) (now : History) → IsLoggedState pair_of t → history_of t ≡ now → NoneWaitsIn (Server server) t.waits.waiters
      → IsEmptied server now
  emptied t server now is same none = subst (IsEmptied server) same (none_wait pair_of t (Server server) is none)

  -- what a move's call found
  pub record MoveCalls (t : LoggedState N) (server place : ℕ) (waiter : Waiter) : Type 0 where
    pub before : IsLoggedState pair_of t
    pub stage : stage_of (history_of t) ≡ emptying server
    pub redispatch : IsTrue t.kept.setup.redispatch
    pub first : IsFirstListed (Server server) t.waits.waiters place waiter

  pub move_calls : (t : LoggedState N) (now : History) (server place : ℕ) (waiter : Waiter) → IsLoggedState pair_of t → history_of t ≡ now
      → stage_of now ≡ emptying server → IsTrue now.setup.redispatch → IsFirstListed (Server server) t.waits.waiters place waiter
      → MoveCalls t server place waiter
  move_calls t now server place waiter is same stage redispatch first = record {
    before = is;
    stage = ap stage_of same ∙ stage;
    redispatch = subst (λ (h : History). IsTrue h.setup.redispatch) (sym same) redispatch;
    first = first;
  }

  module _ (t : LoggedState N) (server place : ℕ) (waiter : Waiter) (calls : MoveCalls t server place waiter) where
    its : ItsRow t.log.entries (state_of (history_of t)).rows place waiter
    its = waits_listed pair_of t place waiter calls.before calls.first.waits

    its_phase : its.row.phase ≡ Waiting (Server server) its.since
    its_phase = its.phase ∙ ap (λ (q : Queue). Waiting q its.since) calls.first.its

    pub move_row : HasRow t.kept.cells place
    move_row = let s = stands_cell t.kept.cells (state_of (history_of t)).rows place its.row calls.before.holds.rows its.stands in (s.0, s.1)

    pub move_ticket : (row : Row) → (s : Cell N) × StandsIn t.kept.cells place s × (s.row ≡ row) → row.key.ticket ≡ waiter.key.ticket
    move_ticket row read =
        let there = stands_row t.kept.cells (state_of (history_of t)).rows place read.0 calls.before.holds.rows read.1 in
        let same : read.0.row ≡ its.row = same_Some read.0.row its.row (same_Some (Some read.0.row) (Some its.row) (sym there ∙ its.stands)) in
        ap (λ (r : Row). r.key.ticket) (sym read.2 ∙ same) ∙ ap (λ (k : Key). k.ticket) its.key

    pub move_may : MayComeNext (history_of t) (Moved waiter.key.ticket server)
    move_may =
        let first : IsFirstIn (Server server) (state_of (history_of t)).rows waiter.key.ticket = record {
          row = its.row;
          live = (place, its.stands);
          named = ap (λ (k : Key). k.ticket) its.key;
          waits = phase_waits (Server server) its.since its.row.phase its_phase;
          least = λ other live waits_so greater.
              let w = waits_phase (Server server) other.phase waits_so in
              calls.first.least live.0 _ (listed pair_of t live.0 other (Server server) w.0 calls.before live.1 w.1) refl
              (subst (λ (k : Key). key_cmp k other.key ≡ Greater) its.key greater);
        } in
        subst (λ (x : Stage). MayCome (end_of (history_of t)) x (Moved waiter.key.ticket server)) (sym calls.stage)
        (refl, calls.redispatch, first)

    rows_after : (state_of (with_entry (history_of t) (Moved waiter.key.ticket server))).rows ≡ set (state_of (history_of t)).rows place
        (Some (record its.row { pin = None; phase = Waiting Backend (state_of (history_of t)).moment }))
    rows_after =
        ap (λ (s : State). s.rows) (after_all-push t.kept.setup t.log.base t.log.entries (Moved waiter.key.ticket server))
        ∙ changed_at (state_of (history_of t)).rows waiter.key.ticket place its.row (in_backend_since (state_of (history_of t)).moment)
        (state_consistent pair_of t calls.before).tickets its.stands (ap (λ (k : Key). k.ticket) its.key)

    pub move_fewer : queued (Server server) (state_of (with_entry (history_of t) (Moved waiter.key.ticket server))).rows + 1 ≡ queued (Server server)
        (state_of (history_of t)).rows
    move_fewer =
        let rows = (state_of (history_of t)).rows in
        let next : Row = record its.row { pin = None; phase = Waiting Backend (state_of (history_of t)).moment } in
        let count : queued (Server server) (set rows place (Some next)) + tally (waits_in (Server server) (Some its.row)) ≡ queued
        (Server server) rows + tally (waits_in (Server server) (Some next)) = count-set (waits_in (Server server)) rows place (Some its.row)
        (Some next) its.stands in
        let one : tally (waits_in (Server server) (Some its.row)) ≡ 1 = ap tally (phase_waits (Server server) its.since its.row.phase its_phase) in
        let none : tally (waits_in (Server server) (Some next)) ≡ 0 = refl in
        let now : queued (Server server) (state_of (with_entry (history_of t) (Moved waiter.key.ticket server))).rows ≡ queued (Server server)
        (set rows place (Some next)) = ap (queued (Server server)) rows_after in
        omega arith

    pub move_room : length t.log.entries + queued (Server server) (state_of (history_of t)).rows ≤ t.kept.setup.log → length t.log.entries < t.log.room
    move_room room = let fewer = move_fewer in let most = calls.before.log_room in omega arith

    pub is_move : (now : History) → now ≡ with_entry (history_of t) (Moved waiter.key.ticket server) → IsMove server (history_of t) now
    is_move now goes = record {
      ticket = waiter.key.ticket;
      moves = goes;
      lawful = move_may;
      fewer =
          subst (λ (h : History). queued (Server server) (state_of h).rows + 1 ≡ queued (Server server) (state_of (history_of t)).rows)
          (sym goes) move_fewer;
    }
