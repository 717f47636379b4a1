-- What a window says of grants, it says whatever places its requests have.
use Rattle.std.proofs.Common.{◌≡◌, ℕ, ◌+◌, ◌||◌, Bool, cond, List, [], ◌∷◌, ◌++◌, Option, None, Some, map, take, length, option_map, refl, ap, sym, ◌∙◌}
use Rattle.std.specs.List.{fold, list_any}
use Rattle.std.specs.Option.{option_map_or, unwrap_or}
use Rattle.std.proofs.lemmas.List.{length-map, map-append, take-map}
use Rattle.due_key.specs.declared.key.Key.{Key}
use Rattle.base_lists.proofs.Never.{none_some}
use Rattle.log_entries.specs.declared.entry.Entry.{Entry}
use Rattle.log_entries.specs.declared.entry.Entry.TheVariants.{Arrive}
use Rattle.log_entries.specs.declared.queue.Queue.{Queue}
use Rattle.log_entries.specs.declared.row.Row.{Row}
use Rattle.log_entries.specs.Determined.{unplaced, HaveSameRows, AreSameHistories}
use Rattle.log_entries.specs.Histories.{History}
use Rattle.log_entries.specs.Legal.{IsLegal}
use Rattle.log_entries.specs.Rows.{Rows, row_of}
use Rattle.log_entries.proofs.Accepted.{row_of_found}
use Rattle.log_entries.proofs.Dispatched.{base_consistent}
use Rattle.log_entries.proofs.RowLemmas.{HaveOwnTickets, row_of_at}
use Rattle.log_entries.proofs.SameRows.{row_of-same}
use Rattle.log_reading.specs.declared.base.BaseRow.{BaseRow}
use Rattle.log_reading.specs.declared.grant.SlotGrant.{SlotGrant}
use Rattle.log_reading.specs.Grants.{Wait, moment_in, grant_in, moment_of, moment_at, newer_key, key_known}
use Rattle.log_reading.specs.Grants.{last_position, joins, joining_of, grant_of, grant_after, grants_after, grants}
use Rattle.log_reading.specs.Windows.{base_rows, base_key, window_in}
use Rattle.log_reading.proofs.Based.{other_rows, known_row}

-- the key of a ticket in a base is that of its row
key_of_row : (rows : Rows) (t : ℕ) → HaveOwnTickets rows → base_key t (base_rows rows) ≡ option_map (λ (row : Row). row.key) (row_of t rows)
key_of_row rows t own = by_row (row_of t rows) refl
  where
    by_row : (o : Option Row) → row_of t rows ≡ o → base_key t (base_rows rows) ≡ option_map (λ (row : Row). row.key) (row_of t rows)
    by_row None e = other_rows t None rows (λ p w at named. none_some (sym e ∙ row_of_at rows t p w own at named))
        ∙ sym (ap (option_map (λ (row : Row). row.key)) e)
    by_row (Some r) e =
        let it = row_of_found rows t r e in
        known_row t None rows it.place r it.stands it.named own ∙ sym (ap (option_map (λ (row : Row). row.key)) e)

key_same : (rows other : Rows) → HaveSameRows rows other → HaveOwnTickets rows → HaveOwnTickets other → (t : ℕ)
    → base_key t (base_rows rows) ≡ base_key t (base_rows other)
key_same rows other same own theirs t =
    key_of_row rows t own ∙ ap (option_map (λ (row : Row). row.key)) (row_of-same rows other same own theirs t) ∙ sym (key_of_row other t theirs)

-- bases that know the same keys
module _ (base other : List BaseRow) (same : (t : ℕ) → base_key t base ≡ base_key t other) where
  known-same : (t : ℕ) (past : List Entry) → key_known base t past ≡ key_known other t past
  known-same t past = ap (λ (o : Option Key). fold (newer_key t) o past) (same t)

  grant-same : (past : List Entry) (e : Entry) → grant_after base past e ≡ grant_after other past e
  grant-same past e = by_wait (grant_in e)
    where
      by_wait : (o : Option Wait) → option_map_or (λ wait. option_map_or (λ key. Some (grant_of past wait key)) (key_known base wait.ticket past) None) o None
          ≡ option_map_or (λ wait. option_map_or (λ key. Some (grant_of past wait key)) (key_known other wait.ticket past) None) o None
      by_wait None = refl
      by_wait (Some wait) = ap (λ (o : Option Key). option_map_or (λ key. Some (grant_of past wait key)) o None) (known-same wait.ticket past)

  grants-same : (past es : List Entry) → grants_after base past es ≡ grants_after other past es
  grants-same past [] = refl
  grants-same past (e ∷ es) =
      ap (λ (o : Option SlotGrant). option_map_or (λ grant. grant ∷ []) o [] ++ grants_after base (past ++ e ∷ []) es) (grant-same past e)
      ∙ ap (λ (l : List SlotGrant). option_map_or (λ grant. grant ∷ []) (grant_after other past e) [] ++ l) (grants-same (past ++ e ∷ []) es)

-- what is read of entries one by one
fold_unplaced : {A : Type 0} (f : A → Entry → A) → ((a : A) (e : Entry) → f a (unplaced e) ≡ f a e) → (a : A) (es : List Entry)
    → fold f a (map unplaced es) ≡ fold f a es
fold_unplaced f same a [] = refl
fold_unplaced f same a (e ∷ es) = fold_unplaced f same (f a (unplaced e)) es ∙ ap (λ b. fold f b es) (same a e)

grant_in_unplaced : (e : Entry) → grant_in (unplaced e) ≡ grant_in e
grant_in_unplaced (Arrive m a) = refl
grant_in_unplaced e = refl

newer_unplaced : (t : ℕ) (before : Option Key) (e : Entry) → newer_key t before (unplaced e) ≡ newer_key t before e
newer_unplaced t before (Arrive m a) = refl
newer_unplaced t before e = refl

joins_unplaced : (t : ℕ) (q : Queue) (e : Entry) → joins t q (unplaced e) ≡ joins t q e
joins_unplaced t q (Arrive m a) = refl
joins_unplaced t q e = refl

moment_of_unplaced : (es : List Entry) → moment_of (map unplaced es) ≡ moment_of es
moment_of_unplaced es = fold_unplaced _ each 0 es
  where
    each : (m : ℕ) (e : Entry) → unwrap_or (moment_in (unplaced e)) m ≡ unwrap_or (moment_in e) m
    each m (Arrive n a) = refl
    each m e = refl

any_unplaced : (t : ℕ) (q : Queue) (es : List Entry) → list_any (joins t q) (map unplaced es) ≡ list_any (joins t q) es
any_unplaced t q [] = refl
any_unplaced t q (e ∷ es) =
    ap (λ (b : Bool). b || list_any (joins t q) (map unplaced es)) (joins_unplaced t q e)
    ∙ ap (λ (b : Bool). joins t q e || b) (any_unplaced t q es)

last_unplaced : (t : ℕ) (q : Queue) (es : List Entry) → last_position (joins t q) (map unplaced es) ≡ last_position (joins t q) es
last_unplaced t q [] = refl
last_unplaced t q (e ∷ es) =
    ap (λ (b : Bool). cond b (last_position (joins t q) (map unplaced es) + 1) 0) (any_unplaced t q (e ∷ es))
    ∙ ap (λ (n : ℕ). cond (list_any (joins t q) (e ∷ es)) (n + 1) 0) (last_unplaced t q es)

grant_of_unplaced : (past : List Entry) (wait : Wait) (key : Key) → grant_of (map unplaced past) wait key ≡ grant_of past wait key
grant_of_unplaced past wait key =
    ap (λ (m : ℕ). record {
      queue = wait.queue;
      class = key.class;
      moment = m;
      stay = record {
        ticket = wait.ticket;
        joined = joining_of wait.ticket wait.queue (map unplaced past);
        slot = length (map unplaced past) + 1;
        due = key.due;
      };
    }) (moment_of_unplaced past)
    ∙ ap (λ (j : ℕ). record {
      queue = wait.queue;
      class = key.class;
      moment = moment_of past;
      stay = record { ticket = wait.ticket; joined = j; slot = length (map unplaced past) + 1; due = key.due };
    }) (last_unplaced wait.ticket wait.queue past)
    ∙ ap (λ (n : ℕ). record {
      queue = wait.queue;
      class = key.class;
      moment = moment_of past;
      stay = record { ticket = wait.ticket; joined = joining_of wait.ticket wait.queue past; slot = n + 1; due = key.due };
    }) (length-map past unplaced)

grant_unplaced : (base : List BaseRow) (past : List Entry) (e : Entry) → grant_after base (map unplaced past) (unplaced e) ≡ grant_after base past e
grant_unplaced base past e =
    ap (λ (o : Option Wait). option_map_or (λ wait.
    option_map_or (λ key. Some (grant_of (map unplaced past) wait key)) (key_known base wait.ticket (map unplaced past)) None) o None) (grant_in_unplaced e)
    ∙ by_wait (grant_in e)
  where
    by_key : (wait : Wait) (o : Option Key) → option_map_or (λ key. Some (grant_of (map unplaced past) wait key)) o None
        ≡ option_map_or (λ key. Some (grant_of past wait key)) o None
    by_key wait None = refl
    by_key wait (Some key) = ap Some (grant_of_unplaced past wait key)

    by_wait : (o : Option Wait) → option_map_or
        (λ wait. option_map_or (λ key. Some (grant_of (map unplaced past) wait key)) (key_known base wait.ticket (map unplaced past)) None) o None
        ≡ option_map_or (λ wait. option_map_or (λ key. Some (grant_of past wait key)) (key_known base wait.ticket past) None) o None
    by_wait None = refl
    by_wait (Some wait) =
        ap (λ (o : Option Key). option_map_or (λ key. Some (grant_of (map unplaced past) wait key)) o None)
        (fold_unplaced (newer_key wait.ticket) (newer_unplaced wait.ticket) (base_key wait.ticket base) past)
        ∙ by_key wait (key_known base wait.ticket past)

grants_unplaced : (base : List BaseRow) (past es : List Entry) → grants_after base (map unplaced past) (map unplaced es) ≡ grants_after base past es
grants_unplaced base past [] = refl
grants_unplaced base past (e ∷ es) =
    ap (λ (o : Option SlotGrant). option_map_or (λ grant. grant ∷ []) o [] ++ grants_after base (map unplaced past ++ unplaced e ∷ []) (map unplaced es))
    (grant_unplaced base past e)
    ∙ ap (λ (l : List SlotGrant). option_map_or (λ grant. grant ∷ []) (grant_after base past e) [] ++ l)
    (ap (λ (l : List Entry). grants_after base l (map unplaced es)) (sym (map-append unplaced past (e ∷ []))) ∙ grants_unplaced base (past ++ e ∷ []) es)

pub same_grants : (h other : History) → IsLegal h → IsLegal other → AreSameHistories h other → grants (window_in other) ≡ grants (window_in h)
same_grants h other legal its same =
    sym (grants_unplaced (base_rows other.base.rows) [] other.log)
    ∙ ap (grants_after (base_rows other.base.rows) []) (sym same.log)
    ∙ grants_unplaced (base_rows other.base.rows) [] h.log
    ∙ sym (grants-same (base_rows h.base.rows) (base_rows other.base.rows)
    (key_same h.base.rows other.base.rows same.base.rows (base_consistent h.setup h.base legal.begins).tickets
    (base_consistent other.setup other.base its.begins).tickets) [] h.log)

pub same_moments : (h other : History) → AreSameHistories h other → (n : ℕ) → moment_at other.log n ≡ moment_at h.log n
same_moments h other same n =
    sym (moment_of_unplaced (take n other.log)) ∙ ap moment_of (sym (take-map unplaced n other.log)) ∙ ap (λ l. moment_of (take n l)) (sym same.log)
    ∙ ap moment_of (take-map unplaced n h.log) ∙ moment_of_unplaced (take n h.log)
