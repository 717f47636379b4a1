-- The entries of a logged state with which nobody begins or stops to wait, one by one.
use Rattle.std.proofs.Common.{◌≢◌, ◌≡◌, ℕ, ◌<◌, false, List, [], ◌∷◌, ◌++◌, Option, None, Some, length, refl, ap, sym, ◌∙◌}
use Rattle.std.proofs.Common.{subst, arith, ◌⊎◌, inl, inr}
use Rattle.std.proofs.Math.ListN.{set}
use Rattle.std.proofs.lemmas.Option.{same_Some}
use Rattle.due_key.specs.declared.key.Key.{Key}
use Rattle.log_entries.specs.declared.entry.Entry.{Entry}
use Rattle.log_entries.specs.declared.entry.Entry.TheVariants.{Direct, Freed, Left, Ended}
use Rattle.log_entries.specs.declared.row.Phase.{Phase}
use Rattle.log_entries.specs.declared.row.Phase.TheVariants.{Loose, Serving, Told}
use Rattle.log_entries.specs.declared.row.Row.{Row}
use Rattle.log_entries.specs.Histories.{History, state_of, end_of}
use Rattle.log_entries.specs.Judgement.{IsTold, MayCome, Stage, freed_by_failure, placing}
use Rattle.log_entries.specs.Refusals.{is_waiting}
use Rattle.log_entries.specs.Rows.{changed, in_phase, gone}
use Rattle.log_entries.specs.States.{State, after, scene, point_of}
use Rattle.log_entries.proofs.Consistency.{IsLoose}
use Rattle.log_entries.proofs.Judged.{direct_row, loose_left, ended_row, freed_slot}
use Rattle.log_entries.proofs.RowLemmas.{changed_at}
use Rattle.log_reading.specs.Grants.{joining_in}
use Rattle.slot_ledger.specs.declared.places.Cell.{Cell}
use Rattle.slot_ledger.specs.Ledgers.{with_cells}
use Rattle.slot_ledger.specs.Cells.{with_phase}
use Rattle.slot_ledger.proofs.Standing.{with_cell_at}
use Rattle.log_entries.proofs.Choices.{free_there}
use Rattle.base_verdict.specs.declared.cause.Cause.{Cause}
use Rattle.base_verdict.specs.declared.cause.Cause.TheVariants.{Aborted, Timeout}
use Rattle.dispatch_state.specs.declared.position.Position.{Position}
use Rattle.dispatch_state.specs.declared.position.Ticketed.{Ticketed}
use Rattle.dispatch_state.specs.Histories.{stage_of, cursor_after, IsTicketAt, MayComeNext}
use Rattle.dispatch_state.specs.LoggedStates.{LoggedState, history_of, noted, HasItsNode, IsLoggedState, position_of}
use Rattle.dispatch_state.proofs.Resting.{rests, none_rests, served_phase, told_rests}
use Rattle.dispatch_state.proofs.Stepping.{stands_row, stands_cell, at_row, node_of, its_node, state_consistent, idle_changed}
use Rattle.dispatch_state.proofs.Waits.{idle_waiter}

-- the server of an entry is one of them
pub direct_within : (h : History) (u v : ℕ) → MayComeNext h (Direct u v) → v < length h.setup.servers
direct_within h u v may = by_stage (stage_of h) may
  where
    by_stage : (t : Stage) → MayCome (end_of h) t (Direct u v) → v < length h.setup.servers
    by_stage (placing n) m = free_there (scene h.setup (state_of h)) v m.1.1
    by_stage (freed_by_failure n w) m = free_there (scene h.setup (state_of h)) v m.put.1.1
    by_stage t m = absurd m

-- the position of a logged state after an entry
pub cursor_moved : (position : Position) (s : State) (now : ℕ) → position ≡ position_of s
    → record { cursor = now; last = position.last; ticket = position.ticket } ≡ position_of (record s { cursor = now })
cursor_moved position s now far = ap (λ (p : Position). record { cursor = now; last = p.last; ticket = p.ticket }) far

pub moment_moved : (position : Position) (s : State) (now : ℕ) → position ≡ position_of s
    → record { cursor = position.cursor; last = now; ticket = position.ticket } ≡ position_of (record s { moment = now })
moment_moved position s now far = ap (λ (p : Position). record { cursor = p.cursor; last = now; ticket = p.ticket }) far

module _ {N : Type 0} (pair_of : N → Key × ℕ) where
  -- a row goes from one phase in which it doesn't wait into another
  pub phase_changed : (t : LoggedState N) (e : Entry) (it : Ticketed) (phase : Phase) (position : Position) → IsLoggedState pair_of t → MayComeNext (history_of t) e
      → (at : IsTicketAt (state_of (history_of t)).rows it) → joining_in e ≡ None
      → is_waiting at.0.phase ≡ false → is_waiting phase ≡ false
      → (after t.kept.setup (state_of (history_of t)) e).rows ≡ changed it.ticket (in_phase phase) (state_of (history_of t)).rows
      → (after t.kept.setup (state_of (history_of t)) e).results ≡ (state_of (history_of t)).results
      → (after t.kept.setup (state_of (history_of t)) e).limits ≡ (state_of (history_of t)).limits
      → (after t.kept.setup (state_of (history_of t)) e).moment ≡ (state_of (history_of t)).moment
      → position ≡ position_of (after t.kept.setup (state_of (history_of t)) e)
      → IsLoggedState pair_of
      (record { kept = with_cells t.kept (with_phase phase t.kept.cells it.place); log = noted t.log e; waits = t.waits; position = position })
  phase_changed t e it phase position is may at none idle stays rows results limited still far =
      let s = state_of (history_of t) in
      let cell = stands_cell t.kept.cells s.rows it.place at.0 is.holds.rows at.1 in
      let idle_cell : is_waiting cell.0.row.phase ≡ false = ap (λ (r : Row). is_waiting r.phase) cell.2 ∙ idle in
      let next : Cell N = record { row = record cell.0.row { phase = phase }; node = cell.0.node } in
      let written = with_cell_at (λ (x : Cell N). record { row = record x.row { phase = phase }; node = x.node }) t.kept.cells it.place cell.0 cell.1 in
      let there = stands_row t.kept.cells s.rows it.place cell.0 is.holds.rows cell.1 in
      let node = node_of pair_of it.place cell.0 idle_cell (is.holds.nodes it.place cell.0 cell.1) in
      subst (λ (l : List (Option (Cell N))). IsLoggedState pair_of
      (record { kept = with_cells t.kept l; log = noted t.log e; waits = t.waits; position = position })) (sym written)
      (idle_changed pair_of t e it.place cell.0 (Some next) position is may (record {
        stands = cell.1;
        rows =
            rows ∙ changed_at s.rows it.ticket it.place cell.0.row (in_phase phase) (state_consistent pair_of t is).tickets there
            (ap (λ (r : Row). r.key.ticket) cell.2 ∙ at.2);
        results = results;
        limits = limited;
        node =
            λ x same. subst (λ (y : Cell N). HasItsNode pair_of it.place y.row.phase y) (same_Some next x same)
            (its_node pair_of it.place next phase (node.0, node.1, node.2));
      }) none idle_cell (idle_waiter (t.log.entries ++ e ∷ []) next.row stays) (λ queue. rests queue next.row stays) (let e2 = still in omega arith) far)

  -- a request in no place stands loose at its place
  loose_at : (t : LoggedState N) (it : Ticketed) → IsLoggedState pair_of t → (at : IsTicketAt (state_of (history_of t)).rows it)
      → IsLoose (state_of (history_of t)).rows it.ticket → at.0.phase ≡ Loose
  loose_at t it is at loose =
      let there = at_row (state_of (history_of t)).rows it loose.place loose.row (state_consistent pair_of t is).tickets at loose.stands loose.named in
      ap (λ (r : Row). r.phase) (same_Some at.0 loose.row (same_Some (Some at.0) (Some loose.row) (sym at.1 ∙ there))) ∙ loose.loose

  -- the newcomer is served at once
  pub direct_kept : (t : LoggedState N) (it : Ticketed) (v now : ℕ) → IsLoggedState pair_of t → MayComeNext (history_of t) (Direct it.ticket v)
      → IsTicketAt (state_of (history_of t)).rows it → now ≡ cursor_after (history_of t) (Direct it.ticket v)
      → IsLoggedState pair_of
      (record {
        kept = with_cells t.kept (with_phase (Serving v) t.kept.cells it.place);
        log = noted t.log (Direct it.ticket v);
        waits = t.waits;
        position =
            record { cursor = now; last = t.position.last; ticket = t.position.ticket };
      })
  direct_kept t it v now is may at moved =
      let h = history_of t in
      let loose = loose_at t it is at (direct_row (end_of h) (stage_of h) it.ticket v (state_consistent pair_of t is) may) in
      phase_changed t (Direct it.ticket v) it (Serving v) (record {
        cursor =
            now;
        last = t.position.last;
        ticket = t.position.ticket;
      }) is may at refl (ap is_waiting loose) refl refl refl refl refl
      (cursor_moved t.position (state_of h) now is.holds.position ∙ ap (λ n. position_of (record (state_of h) { cursor = n })) moved)

  -- a request in no place is told that it isn't served
  pub left_kept : (t : LoggedState N) (it : Ticketed) (cause : Cause) → IsLoggedState pair_of t → cause ≢ Aborted → cause ≢ Timeout
      → MayComeNext (history_of t) (Left it.ticket cause) → IsTicketAt (state_of (history_of t)).rows it
      → IsLoggedState pair_of
      (record {
        kept = with_cells t.kept (with_phase (Told cause) t.kept.cells it.place);
        log = noted t.log (Left it.ticket cause);
        waits =
            t.waits;
        position = t.position;
      })
  left_kept t it cause is first second may at =
      let h = history_of t in
      let loose =
      loose_at t it is at (loose_left (end_of h) (stage_of h) it.ticket cause (state_consistent pair_of t is) first second may) in
      phase_changed t (Left it.ticket cause) it (Told cause) t.position is may at refl (ap is_waiting loose) refl refl refl refl refl is.holds.position

  -- a slot is given back
  pub free_kept : (t : LoggedState N) (it : Ticketed) (v : ℕ) → IsLoggedState pair_of t → MayComeNext (history_of t) (Freed it.ticket v)
      → IsTicketAt (state_of (history_of t)).rows it
      → IsLoggedState pair_of
      (record {
        kept = with_cells t.kept (with_phase Loose t.kept.cells it.place);
        log = noted t.log (Freed it.ticket v);
        waits = t.waits;
        position =
            t.position;
      })
  free_kept t it v is may at =
      let h = history_of t in
      let cell = freed_slot (end_of h) (stage_of h) it.ticket v may in
      let there = at_row (state_of h).rows it cell.live.0 cell.row (state_consistent pair_of t is).tickets at cell.live.1 cell.named in
      let serves : at.0.phase ≡ Serving v = ap (λ (r : Row). r.phase) (same_Some at.0 cell.row (same_Some (Some at.0) (Some cell.row) (sym at.1 ∙ there)))
      ∙ served_phase v cell.row.phase cell.phase in
      phase_changed t (Freed it.ticket v) it Loose t.position is may at refl (ap is_waiting serves) refl refl refl refl refl is.holds.position

  -- a row is gone
  end_rests : (t : LoggedState N) (it : Ticketed) → IsLoggedState pair_of t → (at : IsTicketAt (state_of (history_of t)).rows it)
      → IsLoose (state_of (history_of t)).rows it.ticket ⊎ IsTold (state_of (history_of t)).rows it.ticket → is_waiting at.0.phase ≡ false
  end_rests t it is at (inl loose) = ap is_waiting (loose_at t it is at loose)
  end_rests t it is at (inr told) =
      let there = at_row (state_of (history_of t)).rows it told.live.0 told.row (state_consistent pair_of t is).tickets at told.live.1 told.named in
      ap (λ (r : Row). is_waiting r.phase) (same_Some at.0 told.row (same_Some (Some at.0) (Some told.row) (sym at.1 ∙ there)))
      ∙ told_rests told.row.phase told.phase

  pub end_kept : (t : LoggedState N) (it : Ticketed) → IsLoggedState pair_of t → MayComeNext (history_of t) (Ended it.ticket)
      → IsTicketAt (state_of (history_of t)).rows it
      → IsLoggedState pair_of
      (record { kept = with_cells t.kept (set t.kept.cells it.place None); log = noted t.log (Ended it.ticket); waits = t.waits; position = t.position })
  end_kept t it is may at =
      let h = history_of t in
      let s = state_of h in
      let cell = stands_cell t.kept.cells s.rows it.place at.0 is.holds.rows at.1 in
      let idle = end_rests t it is at (ended_row (point_of h.setup s (length h.log)) (stage_of h) it.ticket (state_consistent pair_of t is) may) in
      let there = stands_row t.kept.cells s.rows it.place cell.0 is.holds.rows cell.1 in
      idle_changed pair_of t (Ended it.ticket) it.place cell.0 None t.position is may (record {
        stands = cell.1;
        rows =
            changed_at s.rows it.ticket it.place cell.0.row gone (state_consistent pair_of t is).tickets there
            (ap (λ (r : Row). r.key.ticket) cell.2 ∙ at.2);
        results = refl;
        limits = refl;
        node = λ x same. cc;
      }) refl (ap (λ (r : Row). is_waiting r.phase) cell.2 ∙ idle) refl (λ queue. none_rests queue) (omega arith) is.holds.position
