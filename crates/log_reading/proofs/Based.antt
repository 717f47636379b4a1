-- What a base tells of its live requests: their keys, and where they wait.
use Rattle.std.proofs.Common.{◌≡◌, ◌≢◌, ℕ, zero, suc, ◌==◌, ◌&&◌, ◌||◌, nat_lt, Bool, true, false, cond}
use Rattle.std.proofs.Common.{[], ◌∷◌, Option, None, Some, IsTrue, refl, ap, sym, ◌∙◌, subst, arith}
use Rattle.std.specs.List.{fold}
use Rattle.std.specs.Option.{option_map_or, IsSomeAnd}
use Rattle.std.proofs.lemmas.Bool.{and_from, or_left, or_right}
use Rattle.std.proofs.lemmas.Bool.Decides.{Decides-eqb}
use Rattle.std.proofs.lemmas.Option.{same_Some}
use Rattle.base_lists.proofs.Never.{false_true}
use Rattle.due_key.specs.declared.key.Key.{Key}
use Rattle.log_entries.specs.declared.queue.Queue.{Queue}
use Rattle.log_entries.specs.declared.row.Phase.{Phase}
use Rattle.log_entries.specs.declared.row.Phase.TheVariants.{Loose, Waiting, Serving, Told}
use Rattle.log_entries.specs.declared.row.Row.{Row}
use Rattle.log_entries.specs.declared.setup.Setup.{Setup}
use Rattle.log_entries.specs.Legal.{IsBase}
use Rattle.log_entries.specs.Rows.{Rows, StandsAt, phase_waits_in, same_queue, queue_in}
use Rattle.log_entries.specs.States.{State}
use Rattle.log_entries.proofs.Dispatched.{base_consistent}
use Rattle.log_entries.proofs.RowLemmas.{HaveOwnTickets, own_later}
use Rattle.log_reading.specs.Ordered.{HaveArrived, HaveJoined}
use Rattle.log_reading.specs.Windows.{base_row, base_rows, newer_base_key, waited_in}

-- the key of a ticket by the places, where another was known before
abbrev key_by : ℕ → Option Key → Rows → Option Key
key_by t before rows = fold (newer_base_key t) before (base_rows rows)

other_step : (t : ℕ) (before : Option Key) (w : Row) → w.key.ticket ≢ t → newer_base_key t before (base_row w) ≡ before
other_step t before w differs = by_test (w.key.ticket == t) refl
  where
    by_test : (b : Bool) → (w.key.ticket == t) ≡ b → cond b (Some w.key) before ≡ before
    by_test true e = absurd (differs ((Decides-eqb w.key.ticket t).0 e))
    by_test false e = refl

pub other_rows : (t : ℕ) (before : Option Key) (rows : Rows) → ((p : ℕ) (w : Row) → StandsAt rows p w → w.key.ticket ≢ t) → key_by t before rows ≡ before
other_rows t before [] others = refl
other_rows t before (None ∷ rows) others = other_rows t before rows (λ p w at. others (suc p) w at)
other_rows t before (Some w ∷ rows) others =
    ap (λ o. key_by t o rows) (other_step t before w (others zero w refl)) ∙ other_rows t before rows (λ p x at. others (suc p) x at)

pub known_row : (t : ℕ) (before : Option Key) (rows : Rows) (p : ℕ) (r : Row) → StandsAt rows p r → r.key.ticket ≡ t → HaveOwnTickets rows
    → key_by t before rows ≡ Some r.key
known_row t before [] p r at named own = cc
known_row t before (None ∷ rows) zero r at named own = cc
known_row t before (None ∷ rows) (suc p) r at named own = known_row t before rows p r at named (own_later None rows own)
known_row t before (Some w ∷ rows) zero r at named own =
    let it : w ≡ r = same_Some w r (same_Some (Some w) (Some r) at) in
    let test : (w.key.ticket == t) ≡ true = (Decides-eqb w.key.ticket t).1 (ap (λ (x : Row). x.key.ticket) it ∙ named) in
    ap (λ b. key_by t (cond b (Some w.key) before) rows) test
    ∙ other_rows t (Some w.key) rows (λ p x there same. none_at p (own.own (suc p) 0 x r there at (same ∙ sym named)))
    ∙ ap (λ (x : Row). Some x.key) it
  where
    none_at : (p : ℕ) → suc p ≡ 0 → ⊥
    none_at p e = absurd (omega arith)
known_row t before (Some w ∷ rows) (suc p) r at named own = known_row t (newer_base_key t before (base_row w)) rows p r at named (own_later (Some w) rows own)

waits_there : (q : Queue) (phase : Phase) → IsTrue (phase_waits_in q phase) → option_map_or (same_queue q) (queue_in phase) false ≡ true
waits_there q (Waiting other m) waits = waits
waits_there q Loose waits = false_true waits
waits_there q (Serving v) waits = false_true waits
waits_there q (Told c) waits = false_true waits

waited_row : (rows : Rows) (p : ℕ) (r : Row) (q : Queue) → StandsAt rows p r → IsTrue (phase_waits_in q r.phase) → waited_in r.key.ticket q (base_rows rows) ≡ true
waited_row [] p r q at waits = cc
waited_row (None ∷ rows) zero r q at waits = cc
waited_row (None ∷ rows) (suc p) r q at waits = waited_row rows p r q at waits
waited_row (Some w ∷ rows) zero r q at waits =
    let it : r ≡ w = sym (same_Some w r (same_Some (Some w) (Some r) at)) in
    let own : (w.key.ticket == r.key.ticket) ≡ true = (Decides-eqb w.key.ticket r.key.ticket).1 (ap (λ (x : Row). x.key.ticket) (sym it)) in
    let there : option_map_or (same_queue q) (queue_in w.phase) false ≡ true =
    waits_there q w.phase (subst (λ (x : Row). IsTrue (phase_waits_in q x.phase)) it waits) in
    or_left _ (waited_in r.key.ticket q (base_rows rows)) (and_from _ _ own there)
waited_row (Some w ∷ rows) (suc p) r q at waits =
    or_right ((w.key.ticket == r.key.ticket) && option_map_or (same_queue q) (queue_in w.phase) false) _ (waited_row rows p r q at waits)

pub base_arrived : (setup : Setup) (base : State) → IsBase setup base → HaveArrived (base_rows base.rows) [] base.rows
base_arrived setup base is row live =
    subst (λ (o : Option Key). IsSomeAnd o (λ it. (it.class ≡ row.key.class) × (it.due ≡ row.key.due)))
    (sym (known_row row.key.ticket None base.rows live.0 row live.1 refl (base_consistent setup base is).tickets)) (refl, refl)

pub base_joined : (setup : Setup) (base : State) → IsBase setup base → HaveJoined (base_rows base.rows) [] base.rows
base_joined setup base is row q live waits = ap (λ b. b || nat_lt 0 0) (waited_row base.rows live.0 row q live.1 waits)
