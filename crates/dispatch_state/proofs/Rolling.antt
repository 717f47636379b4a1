-- The next window of a logged state.
use Rattle.std.proofs.Common.{◌≡◌, ℕ, Bool, [], ◌∷◌, List, Option, None, Some, map, length, refl, ap, sym, subst, ◌∙◌}
use Rattle.std.proofs.lemmas.List.{length-map}
use Rattle.due_key.specs.declared.key.Key.{Key}
use Rattle.log_entries.specs.declared.allowance.Allowance.{Allowance}
use Rattle.log_entries.specs.declared.entry.Entry.{Entry}
use Rattle.log_entries.specs.declared.row.Phase.{Phase}
use Rattle.log_entries.specs.declared.row.Phase.TheVariants.{Loose, Waiting, Serving, Told}
use Rattle.log_entries.specs.Health.{shortened_all}
use Rattle.log_entries.specs.Histories.{state_of, rolled}
use Rattle.log_entries.specs.Legal.{IsLegal}
use Rattle.log_entries.specs.Logs.{Recorded}
use Rattle.log_entries.specs.Rows.{Rows}
use Rattle.log_entries.specs.States.{State}
use Rattle.log_entries.proofs.Judged.{places_all, limits_all}
use Rattle.log_entries.proofs.Windows.{next_base, shortened_ups}
use Rattle.slot_ledger.specs.declared.places.Cell.{Cell}
use Rattle.slot_ledger.specs.Cells.{rows_in}
use Rattle.queue_waits.specs.Waitlists.{Waitlist, since_before, in_next_window}
use Rattle.dispatch_state.specs.declared.position.Position.{Position}
use Rattle.dispatch_state.specs.LoggedStates.{LoggedState, IsLoggedState, history_of, waiter_in, waiters_of}

pub rows_long : {N : Type 0} (cells : List (Option (Cell N))) → length (rows_in cells) ≡ length cells
rows_long {N} cells = length-map cells _

-- those that wait joined before
before_phase : (log : List Entry) (key : Key) (phase : Phase) → since_before (waiter_in log key phase) ≡ waiter_in [] key phase
before_phase log key (Waiting queue since) = refl
before_phase log key Loose = refl
before_phase log key (Serving server) = refl
before_phase log key (Told cause) = refl

before_rows : (log : List Entry) (rows : Rows) → map since_before (waiters_of log rows) ≡ waiters_of [] rows
before_rows log [] = refl
before_rows log (None ∷ rows) = ap (λ l. None ∷ l) (before_rows log rows)
before_rows log (Some row ∷ rows) =
    ap (λ cell. cell ∷ map since_before (waiters_of log rows)) (before_phase log row.key row.phase)
    ∙ ap (λ l. waiter_in [] row.key row.phase ∷ l) (before_rows log rows)

module _ {N : Type 0} (pair_of : N → Key × ℕ) (old : LoggedState N) (is : IsLoggedState pair_of old) (legal : IsLegal (history_of old)) where
  abbrev end : State
  end = state_of (history_of old)

  -- the logged state in the next window
  abbrev window : LoggedState N
  window = record old { log = record { base = rolled old.kept.setup end; entries = []; room = old.log.room }; waits = in_next_window old.waits }

  pub window_trace : IsLoggedState pair_of window
  window_trace = record {
    sound = is.sound;
    judged = record { begins = next_base (history_of old) is.sound legal; judged = tt };
    holds = record {
      rows = is.holds.rows;
      nodes = is.holds.nodes;
      ups = is.holds.ups ∙ sym (shortened_ups old.kept.setup.servers end.results is.sound.within);
      limits = is.holds.limits;
      waiters = ap (map since_before) is.holds.waiters ∙ before_rows old.log.entries end.rows;
      in_turn = is.holds.in_turn;
      position = is.holds.position;
    };
    servers = is.servers;
    log_room = is.log_room;
  }

  -- it has its places, and limits for all servers
  pub kept_places : length old.kept.cells ≡ old.kept.setup.places
  kept_places = sym (rows_long old.kept.cells) ∙ ap length is.holds.rows ∙ places_all old.kept.setup old.log.base old.log.entries ∙ is.judged.begins.places

  pub kept_limits : length old.kept.limits ≡ length old.kept.setup.servers
  kept_limits = ap length is.holds.limits ∙ limits_all old.kept.setup old.log.base old.log.entries ∙ is.judged.begins.limited

  -- what it saves is the next base
  abbrev rolled_at : List Allowance → ℕ → ℕ → ℕ → State
  rolled_at l last ticket c = record {
    rows = end.rows;
    results = shortened_all old.kept.setup.servers end.results;
    limits = l;
    moment = last;
    ticket = ticket;
    cursor = c;
  }

  pub window_base : (base : State) (results : List (List Bool)) (limits : List Allowance) (cursor : ℕ)
      → base ≡ record {
        rows = rows_in old.kept.cells;
        results = results;
        limits = limits;
        moment = old.position.last;
        ticket = old.position.ticket;
        cursor = cursor;
      }
      → results ≡ shortened_all old.kept.setup.servers end.results → limits ≡ old.kept.limits → cursor ≡ old.position.cursor
      → base ≡ rolled old.kept.setup end
  window_base base results limits cursor saved by_results by_limits by_cursor =
      saved
      ∙ ap (λ r. record {
        rows = r;
        results = results;
        limits = limits;
        moment = old.position.last;
        ticket = old.position.ticket;
        cursor = cursor;
      }) is.holds.rows
      ∙ ap (λ r. record { rows = end.rows; results = r; limits = limits; moment = old.position.last; ticket = old.position.ticket; cursor = cursor }) by_results
      ∙ ap (λ l. rolled_at l old.position.last old.position.ticket cursor) (by_limits ∙ is.holds.limits)
      ∙ ap (λ c. rolled_at end.limits old.position.last old.position.ticket c) by_cursor
      ∙ ap (λ (p : Position). rolled_at end.limits p.last p.ticket p.cursor) is.holds.position

  pub window_is : (log : Recorded) (waits : Waitlist) → log ≡ window.log → waits ≡ in_next_window old.waits
      → IsLoggedState pair_of (record old { log = log; waits = waits })
  window_is log waits by_log by_waits =
      subst (λ (w : Waitlist). IsLoggedState pair_of (record old { log = log; waits = w })) (sym by_waits)
      (subst (λ (l : Recorded). IsLoggedState pair_of (record old { log = l; waits = in_next_window old.waits })) (sym by_log) window_trace)
