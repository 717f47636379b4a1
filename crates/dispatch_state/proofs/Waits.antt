-- Those that wait by place, as the rows say and as one entry changes them.
use Rattle.std.proofs.Common.{◌≡◌, ◌≢◌, ℕ, ◌==◌, ◌&&◌, Bool, true, false, List, [], ◌∷◌, ◌++◌, Option, None}
use Rattle.std.proofs.Common.{Some, option_map, slice_get, refl, ap, sym, ◌∙◌}
use Rattle.std.proofs.Math.ListN.{set}
use Rattle.std.proofs.lemmas.Bool.Decides.{Decides-eqb}
use Rattle.std.proofs.lemmas.List.{map-set, length-map}
use Rattle.std.proofs.lemmas.Option.{slice_get-map}
use Rattle.log_entries.specs.declared.entry.Entry.{Entry}
use Rattle.log_entries.specs.declared.entry.Entry.TheVariants.{Joined, Moved}
use Rattle.log_entries.specs.declared.queue.Queue.{Queue}
use Rattle.log_entries.specs.declared.queue.Queue.TheVariants.{Backend}
use Rattle.log_entries.specs.declared.row.Phase.{Phase}
use Rattle.log_entries.specs.declared.row.Phase.TheVariants.{Loose, Waiting, Serving, Told}
use Rattle.log_entries.specs.declared.row.Row.{Row}
use Rattle.log_entries.specs.Refusals.{is_waiting}
use Rattle.log_entries.specs.Rows.{Rows, StandsAt, same_queue}
use Rattle.base_lists.proofs.Places.{set_alike}
use Rattle.log_entries.proofs.RowLemmas.{HaveOwnTickets}
use Rattle.log_reading.specs.Grants.{joining_in, joins}
use Rattle.log_reading.proofs.Joinings.{joining_of_other, nothing_joins}
use Rattle.queue_waits.specs.declared.waiters.Waiter.{Waiter}
use Rattle.queue_waits.specs.Waitlists.{Waiters}
use Rattle.dispatch_state.specs.LoggedStates.{waiter_in, waiter_of, waiters_of}

-- an entry that doesn't put a ticket into a queue leaves how its row waits
pub same_waiter : (log : List Entry) (e : Entry) (cell : Option Row)
    → ((row : Row) → cell ≡ Some row → (q : Queue) → joins row.key.ticket q e ≡ false) → waiter_of (log ++ e ∷ []) cell ≡ waiter_of log cell
same_waiter log e None other = refl
same_waiter log e (Some row) other = by_phase row.phase
  where
    by_phase : (phase : Phase) → waiter_in (log ++ e ∷ []) row.key phase ≡ waiter_in log row.key phase
    by_phase Loose = refl
    by_phase (Serving server) = refl
    by_phase (Told cause) = refl
    by_phase (Waiting queue since) =
        ap (λ n. Some (record { key = row.key; queue = queue; joined = n })) (joining_of_other row.key.ticket queue log e (other row refl queue))

pub waiters_same : (log : List Entry) (e : Entry) (rows : Rows) → ((t : ℕ) (q : Queue) → joins t q e ≡ false)
    → waiters_of (log ++ e ∷ []) rows ≡ waiters_of log rows
waiters_same log e [] other = refl
waiters_same log e (cell ∷ rows) other =
    ap (λ (w : Option Waiter). w ∷ waiters_of (log ++ e ∷ []) rows) (same_waiter log e cell (λ row is q. other row.key.ticket q))
    ∙ ap (λ (l : Waiters). waiter_of log cell ∷ l) (waiters_same log e rows other)

-- a row is written, and no other ticket is put into a queue
pub waiters_set : (log : List Entry) (e : Entry) (rows : Rows) (p : ℕ) (row : Row) (cell : Option Row) → HaveOwnTickets rows → StandsAt rows p row
    → ((t : ℕ) (q : Queue) → t ≢ row.key.ticket → joins t q e ≡ false)
    → waiters_of (log ++ e ∷ []) (set rows p cell) ≡ set (waiters_of log rows) p (waiter_of (log ++ e ∷ []) cell)
waiters_set log e rows p row cell own stands other =
    map-set (waiter_of (log ++ e ∷ [])) rows p cell
    ∙ set_alike (waiters_of (log ++ e ∷ []) rows) (waiters_of log rows) p (waiter_of (log ++ e ∷ []) cell)
    (length-map rows (waiter_of (log ++ e ∷ [])) ∙ sym (length-map rows (waiter_of log))) alike
  where
    by_cell : (k : ℕ) → k ≢ p → (found : Option (Option Row)) → slice_get rows k ≡ found
        → option_map (waiter_of (log ++ e ∷ [])) found ≡ option_map (waiter_of log) found
    by_cell k differs None at = refl
    by_cell k differs (Some its) at =
        ap Some (same_waiter log e its (λ r is q. other r.key.ticket q (λ same. differs (own.own k p r row (at ∙ ap Some is) stands same))))

    alike : (k : ℕ) → k ≢ p → slice_get (waiters_of (log ++ e ∷ []) rows) k ≡ slice_get (waiters_of log rows) k
    alike k differs =
        slice_get-map (waiter_of (log ++ e ∷ [])) rows k ∙ by_cell k differs (slice_get rows k) refl ∙ sym (slice_get-map (waiter_of log) rows k)

-- a row that doesn't wait isn't among them
pub idle_waiter : (log : List Entry) (row : Row) → is_waiting row.phase ≡ false → waiter_of log (Some row) ≡ None
idle_waiter log row idle = by_phase row.phase idle
  where
    by_phase : (phase : Phase) → is_waiting phase ≡ false → waiter_in log row.key phase ≡ None
    by_phase Loose e = refl
    by_phase (Serving server) e = refl
    by_phase (Told cause) e = refl
    by_phase (Waiting queue since) e = cc

-- the waiter at a place
pub waiter_at : (log : List Entry) (rows : Rows) (p : ℕ) (cell : Option Row) → slice_get rows p ≡ Some cell
    → slice_get (waiters_of log rows) p ≡ Some (waiter_of log cell)
waiter_at log rows p cell at = slice_get-map (waiter_of log) rows p ∙ ap (option_map (waiter_of log)) at

-- entries that put only one ticket into a queue
pub joins_other : (u t : ℕ) (queue q : Queue) → t ≢ u → joins t q (Joined u queue) ≡ false
joins_other u t queue q differs = by_test (u == t) refl
  where
    by_test : (b : Bool) → (u == t) ≡ b → ((u == t) && same_queue q queue) ≡ false
    by_test true e = absurd (differs (sym ((Decides-eqb u t).0 e)))
    by_test false e = ap (λ (b : Bool). b && same_queue q queue) e

pub moves_other : (u t server : ℕ) (q : Queue) → t ≢ u → joins t q (Moved u server) ≡ false
moves_other u t server q differs = joins_other u t Backend q differs

pub none_join : (e : Entry) → joining_in e ≡ None → (t : ℕ) (q : Queue) → joins t q e ≡ false
none_join e none t q = nothing_joins e t q none
