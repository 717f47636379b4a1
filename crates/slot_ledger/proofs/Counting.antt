-- Counts of rows, while one row changes.
use Rattle.std.proofs.Common.{◌≡◌, ℕ, ◌+◌, ◌≤◌, ◌==◌, Bool, true, false, List, Option, None, Some, slice_get, slice_index_or}
use Rattle.std.proofs.Common.{replicate, length, option_map, count_by, refl, ap, sym, ◌∙◌, subst, arith}
use Rattle.std.proofs.Math.ListN.{set, length-set, length-replicate}
use Rattle.std.proofs.lemmas.List.{map-set, length-map}
use Rattle.std.proofs.lemmas.List.Sums.{count_by-le-length}
use Rattle.std.proofs.lemmas.Option.{slice_get-map}
use Rattle.std.proofs.lemmas.Bool.Decides.{Decides-eqb}
use Rattle.log_entries.specs.declared.queue.Queue.{Queue}
use Rattle.log_entries.specs.declared.queue.Queue.TheVariants.{Backend, Server}
use Rattle.log_entries.specs.declared.row.Phase.{Phase}
use Rattle.log_entries.specs.declared.row.Phase.TheVariants.{Loose, Waiting}
use Rattle.log_entries.specs.declared.row.Row.{Row}
use Rattle.log_entries.specs.declared.setup.Setup.{Setup}
use Rattle.log_entries.specs.Rows.{Rows, phase_waits_in, phase_is_served_by, waits_in, is_served_by, served, queued}
use Rattle.log_entries.specs.Setups.{IsSound}
use Rattle.base_lists.proofs.Counts.{count-map}
use Rattle.base_lists.proofs.Places.{tally, count-set}
use Rattle.base_lists.proofs.Replicated.{count-replicate, index-replicate}
use Rattle.slot_ledger.specs.declared.places.Cell.{Cell}
use Rattle.slot_ledger.specs.Counts.{Counted, AreCounts, one_if, queued_at, HasChangedPhase, Includes, AreAtMost}
use Rattle.slot_ledger.specs.Ledgers.{IsLedger}
use Rattle.slot_ledger.specs.Cells.{rows_in, StandsIn, with_cell}
use Rattle.slot_ledger.proofs.Standing.{with_cell_at}

-- a cell's row is in a phase; an empty cell counts as loose
abbrev pub phase_in : Option Row → Phase
phase_in None = Loose
phase_in (Some row) = row.phase

served_cell : (cell : Option Row) (server : ℕ) → tally (is_served_by server cell) ≡ one_if (phase_is_served_by server (phase_in cell))
served_cell None server = refl
served_cell (Some row) server = refl

waits_cell : (cell : Option Row) (queue : Queue) → tally (waits_in queue cell) ≡ one_if (phase_waits_in queue (phase_in cell))
waits_cell None queue = refl
waits_cell (Some row) queue = refl

-- counts after one row changed
pub counts_passed : (counts now : Counted) (rows : Rows) (p : ℕ) (old new : Option Row) → AreCounts counts rows → slice_get rows p ≡ Some old
    → HasChangedPhase (phase_in old) (phase_in new) counts now → AreCounts now (set rows p new)
counts_passed counts now rows p old new are stood passed = record {
  serving = λ server.
      let count : served server (set rows p new) + tally (is_served_by server old) ≡ served server rows + tally (is_served_by server new) =
      count-set (is_served_by server) rows p old new stood in
      let a = served_cell old server in
      let b = served_cell new server in
      let c = are.serving server in
      let d = passed.serving server in
      omega arith;
  waiting = λ queue.
      let count : queued queue (set rows p new) + tally (waits_in queue old) ≡ queued queue rows + tally (waits_in queue new) =
      count-set (waits_in queue) rows p old new stood in
      let a = waits_cell old queue in
      let b = waits_cell new queue in
      let c = are.waiting queue in
      let d = passed.waiting queue in
      omega arith;
}

-- a row that stands somewhere is counted
pub counts_include : (counts : Counted) (rows : Rows) (p : ℕ) (row : Row) → AreCounts counts rows → slice_get rows p ≡ Some (Some row)
    → Includes row.phase counts
counts_include counts rows p row are stood = record {
  serving = λ server.
      let count : served server (set rows p None) + tally (is_served_by server (Some row)) ≡ served server rows + 0 =
      count-set (is_served_by server) rows p (Some row) None stood in
      let a = served_cell (Some row) server in
      let c = are.serving server in
      omega arith;
  waiting = λ queue.
      let count : queued queue (set rows p None) + tally (waits_in queue (Some row)) ≡ queued queue rows + 0 =
      count-set (waits_in queue) rows p (Some row) None stood in
      let a = waits_cell (Some row) queue in
      let c = are.waiting queue in
      omega arith;
}

pub counts_few : (counts : Counted) (rows : Rows) (most : ℕ) → AreCounts counts rows → length rows ≤ most → AreAtMost most counts
counts_few counts rows most are few = record {
  serving = λ server. let a = are.serving server in let b : served server rows ≤ length rows = count_by-le-length (is_served_by server) rows in omega arith;
  waiting = λ queue. let a = are.waiting queue in let b : queued queue rows ≤ length rows = count_by-le-length (waits_in queue) rows in omega arith;
}

-- a request that waits is counted in its queue
pub queue_included : (inside counts : Counted) (phase : Phase) (queue : Queue) (since : ℕ) → inside ≡ counts → Includes phase counts
    → phase ≡ Waiting queue since → one_if (phase_waits_in queue (Waiting queue since)) ≤ queued_at inside queue
queue_included inside counts phase queue since same is waits =
    subst (λ (c : Counted). one_if (phase_waits_in queue (Waiting queue since)) ≤ queued_at c queue) (sym same)
    (subst (λ (p : Phase). one_if (phase_waits_in queue p) ≤ queued_at counts queue) waits (is.waiting queue))

pub backend_included : (inside counts : Counted) (phase : Phase) (queue : Queue) (since : ℕ) → inside ≡ counts → Includes phase counts
    → phase ≡ Waiting queue since → queue ≡ Backend → 1 ≤ inside.backend
backend_included inside counts phase queue since same is waits one = queue_included inside counts phase Backend since same is (waits
    ∙ ap (λ (q : Queue). Waiting q since) one)

pub own_included : (inside counts : Counted) (phase : Phase) (queue : Queue) (since server : ℕ) → inside ≡ counts → Includes phase counts
    → phase ≡ Waiting queue since → queue ≡ Server server → 1 ≤ slice_index_or inside.own server 0
own_included inside counts phase queue since server same is waits one =
    let own : (server == server) ≡ true = (Decides-eqb server server).1 refl in
    subst (λ b. one_if b ≤ slice_index_or inside.own server 0) own
    (queue_included inside counts phase (Server server) since same is (waits ∙ ap (λ (q : Queue). Waiting q since) one))

none_counted : (H : Type 0) (test : Option Row → Bool) (n : ℕ) → test None ≡ false → count_by test (rows_in {H = H} (replicate n None)) ≡ 0
none_counted H test n none =
    let row : Option (Cell H) → Option Row = option_map (λ cell. cell.row) in
    count-map test row (replicate n None) ∙ count-replicate (λ cell. test (row cell)) n None none

module _ {H : Type 0} where
  -- a ledger without a request
  pub ledger_new : (setup : Setup) (n : ℕ) (counts : Counted) (cells : List (Option (Cell H))) → IsSound setup → cells ≡ replicate setup.places None
      → counts ≡ record { served = replicate n 0; own = replicate n 0; backend = 0 } → n ≡ length setup.servers → IsLedger setup cells counts
  ledger_new setup n counts cells sound empty none many =
      subst (λ (l : List (Option (Cell H))). IsLedger {H = H} setup l counts) (sym empty)
      (subst (λ (c : Counted). IsLedger {H = H} setup (replicate setup.places None) c)
      (sym (none ∙ ap (λ k. record { served = replicate k 0; own = replicate k 0; backend = 0 }) many)) (record {
        sound = sound;
        places = length-replicate setup.places None;
        counted = record {
          serving = λ server. index-replicate (length setup.servers) server 0 ∙ sym (none_counted H (is_served_by server) setup.places refl);
          waiting = by_queue;
        };
        served = length-replicate (length setup.servers) 0;
        own = length-replicate (length setup.servers) 0;
      }))
    where
      by_queue : (queue : Queue) → queued_at (record {
        served = replicate (length setup.servers) 0;
        own = replicate (length setup.servers) 0;
        backend = 0;
      }) queue ≡ queued queue (rows_in {H = H} (replicate setup.places None))
      by_queue Backend = sym (none_counted H (waits_in Backend) setup.places refl)
      by_queue (Server server) = index-replicate (length setup.servers) server 0 ∙ sym (none_counted H (waits_in (Server server)) setup.places refl)

  -- the row of a cell
  abbrev pub row_in : Option (Cell H) → Option Row
  row_in cell = option_map (λ cell. cell.row) cell

  -- a ledger after one cell changed
  pub ledger_passed : (setup : Setup) (cells next : List (Option (Cell H))) (counts now : Counted) (p : ℕ) (old new : Option (Cell H)) (before after : Phase)
      → IsLedger setup cells counts → slice_get cells p ≡ Some old
      → phase_in (row_in old) ≡ before → phase_in (row_in new) ≡ after
      → next ≡ set cells p new → HasChangedPhase before after counts now → length now.served ≡ length counts.served → length now.own ≡ length counts.own
      → IsLedger setup next now
  ledger_passed setup cells next counts now p old new before after is stood was becomes written passed served_kept own_kept =
      subst (λ (l : List (Option (Cell H))). IsLedger setup l now) (sym written) (record {
        sound = is.sound;
        places = length-set cells p new ∙ is.places;
        counted =
            subst (AreCounts now) (sym (map-set row_in cells p new))
            (counts_passed counts now (rows_in cells) p (row_in old) (row_in new) is.counted (slice_get-map row_in cells p ∙ ap (option_map row_in) stood)
            (subst (λ (x : Phase). HasChangedPhase x (phase_in (row_in new)) counts now) (sym was)
            (subst (λ (x : Phase). HasChangedPhase before x counts now) (sym becomes) passed)));
        served = served_kept ∙ is.served;
        own = own_kept ∙ is.own;
      })

  pub ledger_few : (setup : Setup) (cells : List (Option (Cell H))) (counts : Counted) → IsLedger setup cells counts → AreAtMost 4096 counts
  ledger_few setup cells counts is = counts_few counts (rows_in cells) 4096 is.counted (let l = length-map cells row_in in let p = is.places in
      let m = is.sound.places in omega arith)

  pub ledger_includes : (setup : Setup) (cells : List (Option (Cell H))) (counts : Counted) (p : ℕ) (row : Row) → IsLedger setup cells counts
      → (s : Cell H) × StandsIn cells p s × (s.row ≡ row) → Includes row.phase counts
  ledger_includes setup cells counts p row is there =
      counts_include counts (rows_in cells) p row is.counted (slice_get-map row_in cells p ∙ ap (option_map row_in) there.1
      ∙ ap (λ (r : Row). Some (Some r)) there.2)

  -- a ledger after a request changed and stayed in its phase
  pub ledger_same : (change : Cell H → Cell H) (setup : Setup) (cells next : List (Option (Cell H))) (counts : Counted) (p : ℕ) → IsLedger setup cells counts
      → (s : Cell H) × StandsIn cells p s
      → ((s : Cell H) → (change s).row.phase ≡ s.row.phase) → next ≡ with_cell change cells p → IsLedger setup next counts
  ledger_same change setup cells next counts p is there stays written =
      ledger_passed setup cells next counts counts p (Some there.0) (Some (change there.0)) there.0.row.phase there.0.row.phase is there.1 refl (stays there.0)
      (written ∙ with_cell_at change cells p there.0 there.1)
      (record { serving = λ server. refl; waiting = λ queue. refl }) refl refl

  -- a ledger after a request went into another phase
  pub ledger_changed : (change : Cell H → Cell H) (after : Phase) (setup : Setup) (cells next : List (Option (Cell H))) (counts now : Counted) (p : ℕ)
      (row : Row) → IsLedger setup cells counts → (s : Cell H) × StandsIn cells p s × (s.row ≡ row)
      → ((s : Cell H) → (change s).row.phase ≡ after) → next ≡ with_cell change cells p → HasChangedPhase row.phase after counts now
      → length now.served ≡ length counts.served → length now.own ≡ length counts.own → IsLedger setup next now
  ledger_changed change after setup cells next counts now p row is there goes written passed served_kept own_kept =
      ledger_passed setup cells next counts now p (Some there.0) (Some (change there.0)) row.phase after is there.1 (ap (λ (r : Row). r.phase) there.2)
      (goes there.0) (written ∙ with_cell_at change cells p there.0 there.1) passed served_kept own_kept
