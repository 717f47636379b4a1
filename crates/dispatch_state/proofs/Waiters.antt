-- The entries of a logged state with which a request begins or stops to wait.
use Rattle.std.proofs.Common.{◌≡◌, ℕ, ◌+◌, ◌&&◌, Bool, true, false, List, [], ◌∷◌, ◌++◌, Option, None, Some, option_map}
use Rattle.std.proofs.Common.{slice_get, length, count_by, IsTrue, refl, ap, sym, ◌∙◌, subst, arith}
use Rattle.std.proofs.Math.ListN.{set}
use Rattle.std.proofs.lemmas.Bool.Decides.{Decides-eqb}
use Rattle.std.proofs.lemmas.List.{set-set}
use Rattle.std.proofs.lemmas.Option.{same_Some, slice_get-map}
use Rattle.due_key.specs.declared.key.Key.{Key}
use Rattle.log_entries.specs.declared.entry.Entry.{Entry}
use Rattle.log_entries.specs.declared.entry.Entry.TheVariants.{Joined, Moved}
use Rattle.log_entries.specs.declared.queue.Queue.{Queue}
use Rattle.log_entries.specs.declared.queue.Queue.TheVariants.{Backend}
use Rattle.log_entries.specs.declared.row.Phase.{Phase}
use Rattle.log_entries.specs.declared.row.Phase.TheVariants.{Loose, Waiting, Serving, Told}
use Rattle.log_entries.specs.declared.row.Row.{Row}
use Rattle.log_entries.specs.Histories.{History, state_of}
use Rattle.log_entries.specs.Refusals.{is_waiting}
use Rattle.log_entries.specs.Rows.{Rows, StandsAt, IsRow, changed, in_phase, in_backend_since, phase_waits_in, same_queue}
use Rattle.log_entries.specs.States.{State, after}
use Rattle.log_entries.proofs.Judged.{after_all-push}
use Rattle.base_lists.proofs.Places.{tally, get-set_same, count-set}
use Rattle.log_entries.proofs.RowLemmas.{changed_at}
use Rattle.log_reading.specs.Grants.{joining_in, joins, joining_of, has_joined}
use Rattle.log_reading.specs.Readable.{HasArrived}
use Rattle.log_reading.proofs.Joinings.{joining_of_last}
use Rattle.log_reading.specs.Windows.{base_rows}
use Rattle.log_reading.proofs.Based.{base_arrived, base_joined}
use Rattle.log_reading.proofs.Judged.{judged_keep_order}
use Rattle.log_reading.proofs.RowsLeft.{rows_arrived, rows_joined}
use Rattle.slot_ledger.specs.declared.places.Cell.{Cell}
use Rattle.slot_ledger.specs.Ledgers.{with_cells}
use Rattle.slot_ledger.specs.Cells.{StandsIn, with_phase, loosened, waiting, unpinned}
use Rattle.slot_ledger.proofs.Standing.{with_cell_at}
use Rattle.log_entries.proofs.Choices.{queue_own}
use Rattle.queue_waits.specs.declared.waiters.Waiter.{Waiter}
use Rattle.queue_waits.specs.Order.{places_without}
use Rattle.queue_waits.specs.Waitlists.{Waiters, WaitsAt, HasNoKey, with_waiter, without_waiter, with_waiter_anew, moved_waiter}
use Rattle.dispatch_state.specs.declared.position.Position.{Position}
use Rattle.dispatch_state.specs.declared.position.Ticketed.{Ticketed}
use Rattle.dispatch_state.specs.Histories.{with_entry, row_waits, waiting_of, IsTicketAt, MayComeNext}
use Rattle.dispatch_state.specs.LoggedStates.{LoggedState, history_of, noted, HasItsNode, IsLoggedState, position_of, waiter_in, waiter_of, waiters_of}
use Rattle.dispatch_state.specs.Turns.{WaitsSince, AreInTurn}
use Rattle.dispatch_state.proofs.Resting.{rests}
use Rattle.dispatch_state.proofs.Stepping.{stands_row, stands_cell, its_node, state_consistent, row_changed}
use Rattle.dispatch_state.proofs.Turns.{rows_left, rows_joined as turn_joined}
use Rattle.dispatch_state.proofs.Waits.{waiters_set, idle_waiter, waiter_at, joins_other, moves_other, none_join}

-- the row of a waiter
pub record ItsRow (log : List Entry) (rows : Rows) (place : ℕ) (waiter : Waiter) : Type 0 where
  pub row : Row
  pub stands : StandsAt rows place row
  pub since : ℕ
  pub phase : row.phase ≡ Waiting waiter.queue since
  pub key : row.key ≡ waiter.key
  pub joined : joining_of row.key.ticket waiter.queue log ≡ waiter.joined

pub row_of_waiter : (log : List Entry) (rows : Rows) (place : ℕ) (waiter : Waiter) → WaitsAt (waiters_of log rows) place waiter
    → ItsRow log rows place waiter
row_of_waiter log rows place waiter waits = by_cell (slice_get rows place) refl (sym (slice_get-map (waiter_of log) rows place) ∙ waits)
  where
    by_phase : (row : Row) → StandsAt rows place row → (phase : Phase) → row.phase ≡ phase → waiter_in log row.key phase ≡ Some waiter
        → ItsRow log rows place waiter
    by_phase row stands Loose is e = cc
    by_phase row stands (Serving server) is e = cc
    by_phase row stands (Told cause) is e = cc
    by_phase row stands (Waiting queue since) is e =
        let same : record { key = row.key; queue = queue; joined = joining_of row.key.ticket queue log } ≡ waiter = same_Some _ waiter e in
        let its : queue ≡ waiter.queue = ap (λ (w : Waiter). w.queue) same in record {
          row = row;
          stands = stands;
          since = since;
          phase = is ∙ ap (λ (q : Queue). Waiting q since) its;
          key = ap (λ (w : Waiter). w.key) same;
          joined = ap (λ (q : Queue). joining_of row.key.ticket q log) (sym its) ∙ ap (λ (w : Waiter). w.joined) same;
        }

    by_cell : (cell : Option (Option Row)) → slice_get rows place ≡ cell → option_map (waiter_of log) cell ≡ Some (Some waiter)
        → ItsRow log rows place waiter
    by_cell None at e = cc
    by_cell (Some None) at e = let no : None ≡ Some waiter = same_Some None (Some waiter) e in cc
    by_cell (Some (Some row)) at e = by_phase row at row.phase refl (same_Some (waiter_in log row.key row.phase) (Some waiter) e)

-- the waiter of a row
pub waiter_of_row : (log : List Entry) (rows : Rows) (place : ℕ) (row : Row) (queue : Queue) (since : ℕ) → StandsAt rows place row
    → row.phase ≡ Waiting queue since
    → WaitsAt (waiters_of log rows) place (record { key = row.key; queue = queue; joined = joining_of row.key.ticket queue log })
waiter_of_row log rows place row queue since stands is = waiter_at log rows place (Some row) stands ∙ ap (λ (p : Phase). Some (waiter_in log row.key p)) is

-- one request less waits
pub one_fewer : (old : History) (e : Entry) (p : ℕ) (row next : Row) → StandsAt (state_of old).rows p row
    → (after old.setup (state_of old) e).rows ≡ set (state_of old).rows p (Some next) → is_waiting row.phase ≡ true → is_waiting next.phase ≡ false
    → waiting_of (with_entry old e) + 1 ≡ waiting_of old
one_fewer old e p row next stands leaves waited idle =
    let rows : (state_of (with_entry old e)).rows ≡ set (state_of old).rows p (Some next) =
    ap (λ (s : State). s.rows) (after_all-push old.setup old.base old.log e) ∙ leaves in
    let count : count_by row_waits (set (state_of old).rows p (Some next)) + tally (row_waits (Some row)) ≡ count_by row_waits (state_of old).rows + tally
    (row_waits (Some next)) = count-set row_waits (state_of old).rows p (Some row) (Some next) stands in
    let one : tally (row_waits (Some row)) ≡ 1 = ap tally waited in
    let none : tally (row_waits (Some next)) ≡ 0 = ap tally idle in
    let now : waiting_of (with_entry old e) ≡ count_by row_waits (set (state_of old).rows p (Some next)) = ap (count_by row_waits) rows in
    omega arith

module _ {N : Type 0} (pair_of : N → Key × ℕ) where
  -- those that wait, as the logged state's list has them
  pub waits_listed : (t : LoggedState N) (place : ℕ) (waiter : Waiter) → IsLoggedState pair_of t → WaitsAt t.waits.waiters place waiter
      → ItsRow t.log.entries (state_of (history_of t)).rows place waiter
  waits_listed t place waiter is row_waits =
      row_of_waiter t.log.entries (state_of (history_of t)).rows place waiter (subst (λ (l : Waiters). WaitsAt l place waiter) is.holds.waiters row_waits)

  pub listed : (t : LoggedState N) (place : ℕ) (row : Row) (queue : Queue) (since : ℕ) → IsLoggedState pair_of t
      → StandsAt (state_of (history_of t)).rows place row → row.phase ≡ Waiting queue since
      → WaitsAt t.waits.waiters place (record { key = row.key; queue = queue; joined = joining_of row.key.ticket queue t.log.entries })
  listed t place row queue since is stands phase =
      subst (λ (l : Waiters). WaitsAt l place (record { key = row.key; queue = queue; joined = joining_of row.key.ticket queue t.log.entries }))
      (sym is.holds.waiters) (waiter_of_row t.log.entries (state_of (history_of t)).rows place row queue since stands phase)

  -- a row that doesn't wait isn't listed, and nobody that is has its key
  pub not_listed : (t : LoggedState N) (place : ℕ) (row : Row) → IsLoggedState pair_of t → StandsAt (state_of (history_of t)).rows place row
      → is_waiting row.phase ≡ false → slice_get t.waits.waiters place ≡ Some None
  not_listed t place row is stands idle =
      ap (λ (l : Waiters). slice_get l place) is.holds.waiters ∙ waiter_at t.log.entries (state_of (history_of t)).rows place (Some row) stands
      ∙ ap Some (idle_waiter t.log.entries row idle)

  pub own_key : (t : LoggedState N) (place : ℕ) (row : Row) → IsLoggedState pair_of t → StandsAt (state_of (history_of t)).rows place row
      → is_waiting row.phase ≡ false → HasNoKey t.waits.waiters row.key
  own_key t place row is stands idle other waiter row_waits same =
      let its = waits_listed t other waiter is row_waits in
      let at : other ≡ place = (state_consistent pair_of t is).tickets.own other place its.row row its.stands stands
      (ap (λ (k : Key). k.ticket) (its.key ∙ same)) in
      let one : its.row ≡ row =
      same_Some its.row row
      (same_Some (Some its.row) (Some row) (sym (subst (λ n. StandsAt (state_of (history_of t)).rows n its.row) at its.stands) ∙ stands)) in
      let no : true ≡ false = ap is_waiting (sym its.phase) ∙ ap (λ (r : Row). is_waiting r.phase) one ∙ idle in
      cc

  -- a request stops to wait
  pub unqueued : (t : LoggedState N) (e : Entry) (place : ℕ) (waiter : Waiter) (phase : Phase) (node : N) (position : Position) → IsLoggedState pair_of t
      → MayComeNext (history_of t) e → joining_in e ≡ None → WaitsAt t.waits.waiters place waiter
      → is_waiting phase ≡ false → pair_of node ≡ (waiter.key, place)
      → (after t.kept.setup (state_of (history_of t)) e).rows ≡ changed waiter.key.ticket (in_phase phase) (state_of (history_of t)).rows
      → (after t.kept.setup (state_of (history_of t)) e).results ≡ (state_of (history_of t)).results
      → (after t.kept.setup (state_of (history_of t)) e).limits ≡ (state_of (history_of t)).limits
      → (after t.kept.setup (state_of (history_of t)) e).moment ≡ (state_of (history_of t)).moment
      → position ≡ position_of (after t.kept.setup (state_of (history_of t)) e)
      → IsLoggedState pair_of
      (record {
        kept = with_cells t.kept (with_phase phase (loosened node t.kept.cells place) place);
        log = noted t.log e;
        waits =
            without_waiter t.waits place;
        position = position;
      })
  unqueued t e place waiter phase node position is may none waited idle pair rows results limited still far =
      let s = state_of (history_of t) in
      let its = waits_listed t place waiter is waited in
      let cell = stands_cell t.kept.cells s.rows place its.row is.holds.rows its.stands in
      let there = stands_row t.kept.cells s.rows place cell.0 is.holds.rows cell.1 in
      let own = (state_consistent pair_of t is).tickets in
      let loose : Cell N = record { row = record cell.0.row { phase = Loose }; node = Some node } in
      let next : Cell N = record { row = record cell.0.row { phase = phase }; node = Some node } in
      let first : loosened node t.kept.cells place ≡ set t.kept.cells place (Some loose) =
      with_cell_at (λ (x : Cell N). record { row = record x.row { phase = Loose }; node = Some node }) t.kept.cells place cell.0 cell.1 in
      let stood : StandsIn (set t.kept.cells place (Some loose)) place loose = get-set_same t.kept.cells place (Some cell.0) (Some loose) cell.1 in
      let second = with_cell_at (λ (x : Cell N). record { row = record x.row { phase = phase }; node = x.node })
      (set t.kept.cells place (Some loose)) place loose stood in
      let written : with_phase phase (loosened node t.kept.cells place) place ≡ set t.kept.cells place (Some next) =
      ap (λ (l : List (Option (Cell N))). with_phase phase l place) first ∙ second ∙ set-set t.kept.cells place (Some loose) (Some next) in
      let key : cell.0.row.key ≡ waiter.key = ap (λ (r : Row). r.key) cell.2 ∙ its.key in
      subst (λ (l : List (Option (Cell N))). IsLoggedState pair_of
      (record { kept = with_cells t.kept l; log = noted t.log e; waits = without_waiter t.waits place; position = position })) (sym written)
      (row_changed pair_of t e place cell.0 (Some next) (without_waiter t.waits place) position is may (record {
        stands = cell.1;
        rows = rows ∙ changed_at s.rows waiter.key.ticket place cell.0.row (in_phase phase) own there (ap (λ (k : Key). k.ticket) key);
        results = results;
        limits = limited;
        node =
            λ x same. subst (λ (y : Cell N). HasItsNode pair_of place y.row.phase y) (same_Some next x same)
            (its_node pair_of place next phase (node, refl, pair ∙ ap (λ (k : Key). (k, place)) (sym key)));
      }) refl
      (ap (λ (l : Waiters). set l place None) is.holds.waiters
      ∙ ap (set (waiters_of t.log.entries s.rows) place) (sym (idle_waiter (t.log.entries ++ e ∷ []) next.row idle))
      ∙ sym (waiters_set t.log.entries e s.rows place cell.0.row (Some next.row) own there (λ n q differs. none_join e none n q)))
      (subst (λ n. AreInTurn (WaitsSince (set s.rows place (Some next.row))) n (places_without place t.waits.order)) (sym still)
      (rows_left s.rows place s.moment (Some cell.0.row) (Some next.row) t.waits.order is.holds.in_turn there (λ queue. rests queue next.row idle)))
      far)

  -- a request begins to wait
  pub queued_up : (t : LoggedState N) (it : Ticketed) (queue : Queue) (now joined : ℕ) (waiter : Waiter) → IsLoggedState pair_of t
      → MayComeNext (history_of t) (Joined it.ticket queue) → (at : IsTicketAt (state_of (history_of t)).rows it) → is_waiting at.0.phase ≡ false
      → waiter ≡ record { key = at.0.key; queue = queue; joined = joined } → joined ≡ length t.log.entries + 1
      → record { cursor = now; last = t.position.last; ticket = t.position.ticket } ≡ position_of
      (after t.kept.setup (state_of (history_of t)) (Joined it.ticket queue))
      → IsLoggedState pair_of
      (record {
        kept = with_cells t.kept (waiting queue t.position.last t.kept.cells it.place);
        log = noted t.log (Joined it.ticket queue);
        waits =
            with_waiter t.waits it.place waiter;
        position = record { cursor = now; last = t.position.last; ticket = t.position.ticket };
      })
  queued_up t it queue now joined waiter is may at idle its later far =
      let s = state_of (history_of t) in
      let e = Joined it.ticket queue in
      let cell = stands_cell t.kept.cells s.rows it.place at.0 is.holds.rows at.1 in
      let there = stands_row t.kept.cells s.rows it.place cell.0 is.holds.rows cell.1 in
      let own = (state_consistent pair_of t is).tickets in
      let named : cell.0.row.key.ticket ≡ it.ticket = ap (λ (r : Row). r.key.ticket) cell.2 ∙ at.2 in
      let moment : t.position.last ≡ s.moment = ap (λ (p : Position). p.last) is.holds.position in
      let next : Cell N = record { row = record cell.0.row { phase = Waiting queue s.moment }; node = None } in
      let written : waiting queue t.position.last t.kept.cells it.place ≡ set t.kept.cells it.place (Some next) =
      with_cell_at (λ (x : Cell N). record { row = record x.row { phase = Waiting queue t.position.last }; node = None }) t.kept.cells it.place cell.0 cell.1
      ∙ ap (λ n. set t.kept.cells it.place (Some (record { row = record cell.0.row { phase = Waiting queue n }; node = None }))) moment in
      let idle_cell : is_waiting cell.0.row.phase ≡ false = ap (λ (r : Row). is_waiting r.phase) cell.2 ∙ idle in
      let joins_it : joins cell.0.row.key.ticket queue e ≡ true =
      ap (λ (b : Bool). b && same_queue queue queue) ((Decides-eqb it.ticket cell.0.row.key.ticket).1 (sym named)) ∙ queue_own queue in
      let last : joining_of cell.0.row.key.ticket queue (t.log.entries ++ e ∷ []) ≡ length t.log.entries + 1 =
      joining_of_last cell.0.row.key.ticket queue t.log.entries e joins_it in
      let is_its : waiter_of (t.log.entries ++ e ∷ []) (Some next.row) ≡ Some waiter =
      ap (λ n. Some (record {
        key =
            cell.0.row.key;
        queue = queue;
        joined = n;
      })) (last ∙ sym later)
      ∙ ap (λ (r : Row). Some (record { key = r.key; queue = queue; joined = joined })) cell.2 ∙ ap Some (sym its) in
      subst (λ (l : List (Option (Cell N))). IsLoggedState pair_of
      (record {
        kept = with_cells t.kept l;
        log = noted t.log e;
        waits = with_waiter t.waits it.place waiter;
        position =
            record { cursor = now; last = t.position.last; ticket = t.position.ticket };
      })) (sym written)
      (row_changed pair_of t e it.place cell.0 (Some next) (with_waiter t.waits it.place waiter)
      (record { cursor = now; last = t.position.last; ticket = t.position.ticket }) is may (record {
        stands = cell.1;
        rows = changed_at s.rows it.ticket it.place cell.0.row (in_phase (Waiting queue s.moment)) own there named;
        results = refl;
        limits = refl;
        node = λ x same. subst (λ (y : Cell N). HasItsNode pair_of it.place y.row.phase y) (same_Some next x same) tt;
      }) refl
      (ap (λ (l : Waiters). set l it.place (Some waiter)) is.holds.waiters ∙ ap (set (waiters_of t.log.entries s.rows) it.place) (sym is_its)
      ∙ sym (waiters_set t.log.entries e s.rows it.place cell.0.row (Some next.row) own there
      (λ n q differs. joins_other it.ticket n queue q (λ same. differs (same ∙ sym named)))))
      (turn_joined s.rows it.place s.moment queue (Some cell.0.row) next.row t.waits.order is.holds.in_turn there
      (λ other. rests other cell.0.row idle_cell) refl)
      far)

  -- a request is moved into the backend's queue
  pub moved_on : (t : LoggedState N) (place server joined : ℕ) (waiter : Waiter) → IsLoggedState pair_of t
      → MayComeNext (history_of t) (Moved waiter.key.ticket server) → WaitsAt t.waits.waiters place waiter → joined ≡ length t.log.entries + 1
      → IsLoggedState pair_of
      (record {
        kept = with_cells t.kept (unpinned (with_phase (Waiting Backend t.position.last) t.kept.cells place) place);
        log =
            noted t.log (Moved waiter.key.ticket server);
        waits = with_waiter_anew t.waits place (moved_waiter waiter joined);
        position = t.position;
      })
  moved_on t place server joined waiter is may waited later =
      let s = state_of (history_of t) in
      let e = Moved waiter.key.ticket server in
      let its = waits_listed t place waiter is waited in
      let cell = stands_cell t.kept.cells s.rows place its.row is.holds.rows its.stands in
      let there = stands_row t.kept.cells s.rows place cell.0 is.holds.rows cell.1 in
      let own = (state_consistent pair_of t is).tickets in
      let moment : t.position.last ≡ s.moment = ap (λ (p : Position). p.last) is.holds.position in
      let key : cell.0.row.key ≡ waiter.key = ap (λ (r : Row). r.key) cell.2 ∙ its.key in
      let named : cell.0.row.key.ticket ≡ waiter.key.ticket = ap (λ (k : Key). k.ticket) key in
      let one : Cell N = record { row = record cell.0.row { phase = Waiting Backend t.position.last }; node = cell.0.node } in
      let two : Cell N = record { row = record cell.0.row { phase = Waiting Backend t.position.last; pin = None }; node = cell.0.node } in
      let next : Cell N = record { row = record cell.0.row { phase = Waiting Backend s.moment; pin = None }; node = cell.0.node } in
      let first : with_phase (Waiting Backend t.position.last) t.kept.cells place ≡ set t.kept.cells place (Some one) =
      with_cell_at (λ (x : Cell N). record { row = record x.row { phase = Waiting Backend t.position.last }; node = x.node }) t.kept.cells place cell.0
      cell.1 in
      let stood : StandsIn (set t.kept.cells place (Some one)) place one = get-set_same t.kept.cells place (Some cell.0) (Some one) cell.1 in
      let second : unpinned (set t.kept.cells place (Some one)) place ≡ set (set t.kept.cells place (Some one)) place (Some two) =
      with_cell_at (λ (x : Cell N). record { row = record x.row { pin = None }; node = x.node }) (set t.kept.cells place (Some one)) place one stood in
      let written : unpinned (with_phase (Waiting Backend t.position.last) t.kept.cells place) place ≡ set t.kept.cells place (Some next) =
      ap (λ (l : List (Option (Cell N))). unpinned l place) first ∙ second ∙ set-set t.kept.cells place (Some one) (Some two)
      ∙ ap (λ n. set t.kept.cells place (Some (record { row = record cell.0.row { phase = Waiting Backend n; pin = None }; node = cell.0.node }))) moment
      in
      let loose : Row = record cell.0.row { phase = Loose } in
      let joins_it : joins cell.0.row.key.ticket Backend e ≡ true =
      ap (λ (b : Bool). b && true) ((Decides-eqb waiter.key.ticket cell.0.row.key.ticket).1 (sym named)) in
      let last : joining_of cell.0.row.key.ticket Backend (t.log.entries ++ e ∷ []) ≡ length t.log.entries + 1 =
      joining_of_last cell.0.row.key.ticket Backend t.log.entries e joins_it in
      let is_its : waiter_of (t.log.entries ++ e ∷ []) (Some next.row) ≡ Some (moved_waiter waiter joined) =
      ap (λ n. Some (record { key = cell.0.row.key; queue = Backend; joined = n })) (last ∙ sym later)
      ∙ ap (λ (k : Key). Some (record { key = k; queue = Backend; joined = joined })) key in
      let left = rows_left s.rows place s.moment (Some cell.0.row) (Some loose) t.waits.order is.holds.in_turn there (λ queue. rests queue loose refl) in
      let back = turn_joined (set s.rows place (Some loose)) place s.moment Backend (Some loose) next.row (places_without place t.waits.order) left
      (get-set_same s.rows place (Some cell.0.row) (Some loose) there) (λ other. rests other loose refl) refl in
      subst (λ (l : List (Option (Cell N))). IsLoggedState pair_of
      (record {
        kept = with_cells t.kept l;
        log = noted t.log e;
        waits = with_waiter_anew t.waits place (moved_waiter waiter joined);
        position =
            t.position;
      })) (sym written)
      (row_changed pair_of t e place cell.0 (Some next) (with_waiter_anew t.waits place (moved_waiter waiter joined)) t.position is may (record {
        stands = cell.1;
        rows = changed_at s.rows waiter.key.ticket place cell.0.row (in_backend_since s.moment) own there named;
        results = refl;
        limits = refl;
        node = λ x same. subst (λ (y : Cell N). HasItsNode pair_of place y.row.phase y) (same_Some next x same) tt;
      }) refl
      (ap (λ (l : Waiters). set l place (Some (moved_waiter waiter joined))) is.holds.waiters ∙ ap (set (waiters_of t.log.entries s.rows) place) (sym is_its)
      ∙ sym (waiters_set t.log.entries e s.rows place cell.0.row (Some next.row) own there
      (λ n q differs. moves_other waiter.key.ticket n server q (λ same. differs (same ∙ sym named)))))
      (subst (λ (l : Rows). AreInTurn (WaitsSince l) s.moment (places_without place t.waits.order ++ place ∷ []))
      (set-set s.rows place (Some loose) (Some next.row)) back)
      is.holds.position)

  -- a live request's ticket has arrived, with the class and the due date of its key, and one that waits has joined its queue
  pub row_arrived : (t : LoggedState N) (row : Row) → IsLoggedState pair_of t → IsRow (state_of (history_of t)).rows row
      → HasArrived (base_rows t.log.base.rows) t.log.entries row.key.ticket row.key.class row.key.due
  row_arrived t row is live =
      let begins = is.judged.begins in
      rows_arrived (base_rows t.log.base.rows) t.kept.setup t.log.base t.log.entries (base_arrived t.kept.setup t.log.base begins)
      (judged_keep_order t.kept.setup t.log.base t.log.entries begins is.judged.judged) row live

  pub row_joined : (t : LoggedState N) (row : Row) (queue : Queue) → IsLoggedState pair_of t → IsRow (state_of (history_of t)).rows row
      → IsTrue (phase_waits_in queue row.phase) → IsTrue (has_joined (base_rows t.log.base.rows) row.key.ticket queue t.log.entries)
  row_joined t row queue is live waits_so =
      rows_joined (base_rows t.log.base.rows) t.kept.setup t.log.base t.log.entries
      (base_joined t.kept.setup t.log.base is.judged.begins) row queue live waits_so
