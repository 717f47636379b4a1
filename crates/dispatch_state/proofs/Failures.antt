-- Failed connections, as the ledger counts them.
use Rattle.std.proofs.Common.{◌≡◌, ℕ, ◌+◌, ◌≤◌, max, not, Bool, true, false, cond, List, [], ◌∷◌}
use Rattle.std.proofs.Common.{◌++◌, Option, None, Some, slice_get, length, refl, ap, sym, ◌∙◌, subst, arith}
use Rattle.std.proofs.Math.ListN.{set}
use Rattle.std.proofs.lemmas.List.{set-set}
use Rattle.std.proofs.lemmas.Bool.{not-false}
use Rattle.std.proofs.lemmas.Option.{same_Some}
use Rattle.log_entries.specs.declared.entry.Entry.TheVariants.{Fail}
use Rattle.log_entries.specs.declared.row.Phase.{Phase}
use Rattle.log_entries.specs.declared.row.Phase.TheVariants.{Loose, Waiting, Serving, Told}
use Rattle.log_entries.specs.declared.row.Row.{Row}
use Rattle.log_entries.specs.declared.setup.Setup.{Setup}
use Rattle.log_entries.specs.Retries.{are_redispatched, failed}
use Rattle.log_entries.specs.Rows.{phase_is_told, row_of, failures_of}
use Rattle.log_entries.specs.Judgement.{granting}
use Rattle.log_entries.proofs.Dispatched.{base_consistent}
use Rattle.log_entries.proofs.Tried.{tried_all, tried_over}
use Rattle.base_lists.proofs.Never.{false_true}
use Rattle.base_lists.proofs.Places.{get-set_same}
use Rattle.slot_ledger.specs.declared.places.Cell.{Cell}
use Rattle.slot_ledger.specs.Cells.{StandsIn, HasCountable, with_cell, with_failure, unpinned}
use Rattle.slot_ledger.proofs.Standing.{with_cell_at}
use Rattle.due_key.specs.declared.key.Key.{Key}
use Rattle.std.specs.Option.{option_map_or}
use Rattle.log_entries.specs.Histories.{state_of, effective, refuses_failure, start_of}
use Rattle.log_entries.specs.Refusals.{is_waiting, has_a_slot}
use Rattle.log_entries.proofs.Accepted.{row_of_accepted}
use Rattle.log_entries.proofs.RowLemmas.{row_of_at, changed_at}
use Rattle.std.proofs.lemmas.Bool.Decides.{nat_tests}
use Rattle.slot_ledger.specs.Ledgers.{Kept, with_cells}
use Rattle.dispatch_state.specs.declared.position.Position.{Position}
use Rattle.dispatch_state.specs.declared.position.Ticketed.{Ticketed}
use Rattle.dispatch_state.specs.Fates.{failed_cell}
use Rattle.dispatch_state.specs.Histories.{stage_of, IsTicketAt, MayComeNext, MayBeginNext}
use Rattle.dispatch_state.specs.LoggedStates.{LoggedState, history_of, noted, HasItsNode, IsLoggedState}
use Rattle.dispatch_state.proofs.Entries.{moment_moved}
use Rattle.dispatch_state.proofs.Resting.{rests, slot_rests}
use Rattle.dispatch_state.proofs.Stepping.{stands_row, stands_cell, at_row, node_of, its_node, state_consistent, idle_changed}
use Rattle.dispatch_state.proofs.Waits.{idle_waiter}

module _ {H : Type 0} where
  -- a failure that leaves the pin
  pub failed_once : (setup : Setup) (cells : List (Option (Cell H))) (p : ℕ) (s : Cell H) → StandsIn cells p s
      → are_redispatched setup (s.row.failures + 1) ≡ false → with_failure cells p ≡ with_cell (failed_cell setup) cells p
  failed_once setup cells p s stands stays =
      with_cell_at (λ (x : Cell H). record { row = record x.row { failures = x.row.failures + 1 }; node = x.node }) cells p s stands
      ∙ ap (λ (pin : Option ℕ). set cells p (Some (record { row = record s.row { failures = s.row.failures + 1; pin = pin }; node = s.node })))
      (sym (ap (λ (b : Bool). cond {A = Option ℕ} b None s.row.pin) stays))
      ∙ sym (with_cell_at (failed_cell setup) cells p s stands)

  -- and one that takes it
  pub failed_unpinned : (setup : Setup) (cells : List (Option (Cell H))) (p : ℕ) (s : Cell H) → StandsIn cells p s
      → are_redispatched setup (s.row.failures + 1) ≡ true → unpinned (with_failure cells p) p ≡ with_cell (failed_cell setup) cells p
  failed_unpinned setup cells p s stands goes =
      let one : Cell H = record { row = record s.row { failures = s.row.failures + 1 }; node = s.node } in
      let two : Cell H = record { row = record s.row { failures = s.row.failures + 1; pin = None }; node = s.node } in
      let first : with_failure cells p ≡ set cells p (Some one) =
      with_cell_at (λ (x : Cell H). record { row = record x.row { failures = x.row.failures + 1 }; node = x.node }) cells p s stands in
      let there : StandsIn (set cells p (Some one)) p one = get-set_same cells p (Some s) (Some one) stands in
      let second : unpinned (set cells p (Some one)) p ≡ set (set cells p (Some one)) p (Some two) =
      with_cell_at (λ (x : Cell H). record { row = record x.row { pin = None }; node = x.node }) (set cells p (Some one)) p one there in
      ap (λ (l : List (Option (Cell H))). unpinned l p) first ∙ second ∙ set-set cells p (Some one) (Some two)
      ∙ ap (λ (pin : Option ℕ). set cells p (Some (record { row = record s.row { failures = s.row.failures + 1; pin = pin }; node = s.node })))
      (sym (ap (λ (b : Bool). cond {A = Option ℕ} b None s.row.pin) goes))
      ∙ sym (with_cell_at (failed_cell setup) cells p s stands)

  -- the same of a ledger whose calls are known by equations
  pub counted_once : (kept next : Kept H) (setup : Setup) (p : ℕ) (row : Row) → next ≡ with_cells kept (with_failure kept.cells p)
      → setup ≡ next.setup → (s : Cell H) × StandsIn kept.cells p s × (s.row ≡ row) → are_redispatched setup (row.failures + 1) ≡ false
      → next ≡ with_cells kept (with_cell (failed_cell kept.setup) kept.cells p)
  counted_once kept next setup p row goes same there stays =
      goes ∙ ap (with_cells kept) (failed_once kept.setup kept.cells p there.0 there.1
      (subst (λ (r : Row). are_redispatched kept.setup (r.failures + 1) ≡ false) (sym there.2)
      (subst (λ (x : Setup). are_redispatched x (row.failures + 1) ≡ false) (same ∙ ap (λ (k : Kept H). k.setup) goes) stays)))

  pub counted_unpinned : (kept next last : Kept H) (setup : Setup) (p : ℕ) (row : Row) → next ≡ with_cells kept (with_failure kept.cells p)
      → setup ≡ next.setup → last ≡ with_cells next (unpinned next.cells p) → (s : Cell H) × StandsIn kept.cells p s × (s.row ≡ row)
      → are_redispatched setup (row.failures + 1) ≡ true → last ≡ with_cells kept (with_cell (failed_cell kept.setup) kept.cells p)
  counted_unpinned kept next last setup p row goes same then there takes =
      then ∙ ap (λ (k : Kept H). with_cells k (unpinned k.cells p)) goes ∙ ap (with_cells kept) (failed_unpinned kept.setup kept.cells p there.0 there.1
      (subst (λ (r : Row). are_redispatched kept.setup (r.failures + 1) ≡ true) (sym there.2)
      (subst (λ (x : Setup). are_redispatched x (row.failures + 1) ≡ true) (same ∙ ap (λ (k : Kept H). k.setup) goes) takes)))

slot_untold : (phase : Phase) → has_a_slot phase ≡ true → phase_is_told phase ≡ false
slot_untold (Serving v) cell = refl
slot_untold Loose cell = false_true cell
slot_untold (Waiting q m) cell = false_true cell
slot_untold (Told c) cell = false_true cell

module _ {N : Type 0} (pair_of : N → Key × ℕ) where
  -- the failures of a request that has a slot are far from all that can be counted
  pub fail_countable : (t : LoggedState N) (it : Ticketed) (moment : ℕ) → IsLoggedState pair_of t
      → MayBeginNext (history_of t) moment (refuses_failure (history_of t) it.ticket) → IsTicketAt (state_of (history_of t)).rows it
      → HasCountable t.kept.cells it.place
  fail_countable t it moment is begins at =
      let h = history_of t in
      let rows = (state_of h).rows in
      let its = row_of_accepted (λ phase. not (has_a_slot phase)) h.setup (state_of h) (length h.log) it.ticket begins.accepted in
      let there = at_row rows it its.place its.row (state_consistent pair_of t is).tickets at its.stands its.named in
      let same : at.0 ≡ its.row = same_Some at.0 its.row (same_Some (Some at.0) (Some its.row) (sym at.1 ∙ there)) in
      let s = stands_cell t.kept.cells rows it.place at.0 is.holds.rows at.1 in
      let opened = base_consistent h.setup h.base is.judged.begins in
      let tried = tried_all (start_of h) granting h.log opened is.judged.judged (λ row live untold other. is.judged.begins.tried row live untold) in
      let few : its.row.failures ≤ h.setup.retries =
      tried_over h.setup (state_of h) (stage_of h) tried begins.over its.row (its.place, its.stands)
      (slot_untold its.row.phase (not-false (has_a_slot its.row.phase) its.right)) in
      let its_own : s.0.row.failures ≡ its.row.failures = ap (λ (r : Row). r.failures) (s.2 ∙ same) in
      let most = is.sound.retries in
      (s.0, s.1, omega arith)

  -- a failure is counted
  pub fail_kept : (t : LoggedState N) (it : Ticketed) (moment now : ℕ) → IsLoggedState pair_of t
      → MayBeginNext (history_of t) moment (refuses_failure (history_of t) it.ticket) → now ≡ max t.position.last moment
      → IsTicketAt (state_of (history_of t)).rows it
      → IsLoggedState pair_of
      (record {
        kept = with_cells t.kept (with_cell (failed_cell t.kept.setup) t.kept.cells it.place);
        log = noted t.log (Fail now it.ticket);
        waits =
            t.waits;
        position = record { cursor = t.position.cursor; last = now; ticket = t.position.ticket };
      })
  fail_kept t it moment now is begins later at =
      let h = history_of t in
      let s = state_of h in
      let its = row_of_accepted (λ phase. not (has_a_slot phase)) h.setup s (length h.log) it.ticket begins.accepted in
      let when : now ≡ effective h moment = later ∙ ap (λ (p : Position). max p.last moment) is.holds.position in
      let may : MayComeNext h (Fail now it.ticket) = subst (λ n. MayComeNext h (Fail n it.ticket)) (sym when) begins in
      let there = at_row s.rows it its.place its.row (state_consistent pair_of t is).tickets at its.stands its.named in
      let same : at.0 ≡ its.row = same_Some at.0 its.row (same_Some (Some at.0) (Some its.row) (sym at.1 ∙ there)) in
      let cell = stands_cell t.kept.cells s.rows it.place at.0 is.holds.rows at.1 in
      let idle : is_waiting cell.0.row.phase ≡ false = ap (λ (r : Row). is_waiting r.phase) (cell.2 ∙ same)
      ∙ slot_rests its.row.phase (not-false (has_a_slot its.row.phase) its.right) in
      let next : Cell N = failed_cell t.kept.setup cell.0 in
      let node = node_of pair_of it.place cell.0 idle (is.holds.nodes it.place cell.0 cell.1) in
      subst (λ (l : List (Option (Cell N))). IsLoggedState pair_of
      (record {
        kept = with_cells t.kept l;
        log = noted t.log (Fail now it.ticket);
        waits = t.waits;
        position =
            record { cursor = t.position.cursor; last = now; ticket = t.position.ticket };
      }))
      (sym (with_cell_at (failed_cell t.kept.setup) t.kept.cells it.place cell.0 cell.1))
      (idle_changed pair_of t (Fail now it.ticket) it.place cell.0 (Some next)
      (record { cursor = t.position.cursor; last = now; ticket = t.position.ticket }) is may (record {
        stands = cell.1;
        rows =
            changed_at s.rows it.ticket it.place cell.0.row (failed t.kept.setup) (state_consistent pair_of t is).tickets
            (stands_row t.kept.cells s.rows it.place cell.0 is.holds.rows cell.1) (ap (λ (r : Row). r.key.ticket) cell.2 ∙ at.2);
        results = refl;
        limits = refl;
        node =
            λ x alike. subst (λ (y : Cell N). HasItsNode pair_of it.place y.row.phase y) (same_Some next x alike)
            (its_node pair_of it.place next cell.0.row.phase (node.0, node.1, node.2));
      }) refl idle (idle_waiter (t.log.entries ++ Fail now it.ticket ∷ []) next.row idle) (λ queue. rests queue next.row idle)
      (let grows : s.moment ≤ max s.moment moment = grind (arith, nat_tests) in let e = when in omega arith)
      (moment_moved t.position s now is.holds.position))

  -- how many failed is what the row of the ticket says
  pub fail_counted : (t next : LoggedState N) (it : Ticketed) (count : ℕ) → IsLoggedState pair_of t → IsLoggedState pair_of next
      → next.kept ≡ with_cells t.kept (with_cell (failed_cell t.kept.setup) t.kept.cells it.place) → IsTicketAt (state_of (history_of t)).rows it
      → (s : Cell N) × StandsIn t.kept.cells it.place s × (count ≡ s.row.failures + 1)
      → failures_of it.ticket (state_of (history_of next)).rows ≡ count
  fail_counted t next it count is then goes at counted =
      let rows = (state_of (history_of next)).rows in
      let cell = stands_cell t.kept.cells (state_of (history_of t)).rows it.place at.0 is.holds.rows at.1 in
      let one : cell.0 ≡ counted.0 = same_Some cell.0 counted.0 (same_Some (Some cell.0) (Some counted.0) (sym cell.1 ∙ counted.1)) in
      let new : Cell N = failed_cell t.kept.setup cell.0 in
      let stands : StandsIn next.kept.cells it.place new = ap (λ (k : Kept N). slice_get k.cells it.place) goes
      ∙ ap (λ (l : List (Option (Cell N))). slice_get l it.place) (with_cell_at (failed_cell t.kept.setup) t.kept.cells it.place cell.0 cell.1)
      ∙ get-set_same t.kept.cells it.place (Some cell.0) (Some new) cell.1 in
      let found : row_of it.ticket rows ≡ Some new.row = row_of_at rows it.ticket it.place new.row (state_consistent pair_of next then).tickets
      (stands_row next.kept.cells rows it.place new then.holds.rows stands) (ap (λ (r : Row). r.key.ticket) cell.2 ∙ at.2) in
      ap (λ (o : Option Row). option_map_or (λ (r : Row). r.failures) o 0) found ∙ ap (λ (s : Cell N). s.row.failures + 1) one ∙ sym counted.2
