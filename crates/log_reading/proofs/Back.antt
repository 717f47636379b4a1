-- Where rows come from: what an entry makes of them, looked at backwards.
use Rattle.std.proofs.Common.{◌≡◌, ◌≢◌, ℕ, ◌==◌, ◌&&◌, Bool, true, false, cond, List, [], ◌∷◌, ◌++◌, Option}
use Rattle.std.proofs.Common.{None, Some, slice_get, option_map, IsTrue, refl, ap, sym, ◌∙◌, subst, ◌⊎◌, inl, inr}
use Rattle.std.specs.List.{AllByRecursion}
use Rattle.std.specs.Option.{option_map_or, IfSome, IsSomeAnd}
use Rattle.std.proofs.lemmas.Bool.{false≢true, and_from}
use Rattle.std.proofs.lemmas.Bool.Decides.{Decides-eqb}
use Rattle.std.proofs.lemmas.List.Sums.{fold_push}
use Rattle.std.proofs.lemmas.Option.{same_Some, slice_get-map}
use Rattle.base_lists.proofs.Places.{get-set}
use Rattle.due_key.specs.declared.key.Key.{Key}
use Rattle.log_entries.specs.declared.entry.Arrival.{Arrival}
use Rattle.log_entries.specs.declared.entry.Entry.{Entry}
use Rattle.log_entries.specs.declared.entry.Entry.TheVariants.{Left, Arrive, Done, Fail, Abort, Tick, Check, Limit}
use Rattle.log_entries.specs.declared.entry.Entry.TheVariants.{Direct, Joined, Granted, Moved, Freed, Retried, Health, Ended}
use Rattle.log_entries.specs.declared.queue.Queue.{Queue}
use Rattle.log_entries.specs.declared.queue.Queue.TheVariants.{Backend}
use Rattle.log_entries.specs.declared.row.Phase.{Phase}
use Rattle.log_entries.specs.declared.row.Phase.TheVariants.{Loose, Waiting, Serving, Told}
use Rattle.base_verdict.specs.declared.cause.Cause.{Cause}
use Rattle.log_entries.specs.declared.row.Row.{Row}
use Rattle.log_entries.specs.declared.setup.Setup.{Setup}
use Rattle.log_entries.specs.Retries.{failed}
use Rattle.log_entries.specs.Rows.{Rows, StandsAt, IsRow, phase_waits_in, same_queue, with_change, changed, in_phase, in_backend_since, gone}
use Rattle.log_entries.specs.States.{State, after, after_all, arrived, key_of}
use Rattle.log_reading.specs.Grants.{arrival_in, joins, newer_key, key_known}
use Rattle.log_reading.specs.Windows.{base_key}
use Rattle.log_reading.specs.declared.base.BaseRow.{BaseRow}
use Rattle.log_reading.specs.Readable.{HasArrived}
use Rattle.log_reading.specs.Ordered.{KeepsOrder, TicketIsFresh, HaveArrived}

-- a row comes with an arrival
pub record IsArrival (e : Entry) (r : Row) : Type 0 where
  pub arrival : Arrival
  pub is : arrival_in e ≡ Some arrival
  pub row : r ≡ arrived arrival

-- a place had a row before an entry, with the same key, and it waited where the row waits, unless the entry put it there
pub record WasThere (rows : Rows) (e : Entry) (p : ℕ) (r : Row) : Type 0 where
  pub row : Row
  pub stands : StandsAt rows p row
  pub key : row.key ≡ r.key
  pub waited : (q : Queue) → IsTrue (phase_waits_in q r.phase) → joins r.key.ticket q e ≡ false → IsTrue (phase_waits_in q row.phase)

-- a change of a ticket's row keeps what it leaves in the row: its key, and where it waits, unless the entry put it there
abbrev Keeps : Entry → ℕ → (Row → Option Row) → Type 0
Keeps e t f = (b r : Row) → b.key.ticket ≡ t → f b ≡ Some r
    → (b.key ≡ r.key) × ((q : Queue) → IsTrue (phase_waits_in q r.phase) → joins r.key.ticket q e ≡ false → IsTrue (phase_waits_in q b.phase))

unchanged : (rows : Rows) (e : Entry) (p : ℕ) (r : Row) → StandsAt rows p r → WasThere rows e p r
unchanged rows e p r stands = record { row = r; stands = stands; key = refl; waited = λ q waits none. waits }

change_back : (rows : Rows) (e : Entry) (t p : ℕ) (f : Row → Option Row) (r : Row) → Keeps e t f → StandsAt (changed t f rows) p r → WasThere rows e p r
change_back rows e t p f r keeps at = by_cell (slice_get rows p) refl (sym (slice_get-map (with_change t f) rows p) ∙ at)
  where
    by_name : (b : Row) → slice_get rows p ≡ Some (Some b) → (named : Bool) → (b.key.ticket == t) ≡ named → cond named (f b) (Some b) ≡ Some r
        → WasThere rows e p r
    by_name b stood true same made = let k = keeps b r ((Decides-eqb b.key.ticket t).0 same) made in record { row = b; stands = stood; key = k.0; waited = k.1 }
    by_name b stood false same made = unchanged rows e p r (stood ∙ ap Some made)

    by_cell : (cell : Option (Option Row)) → slice_get rows p ≡ cell → option_map (with_change t f) cell ≡ Some (Some r) → WasThere rows e p r
    by_cell None stood made = cc
    by_cell (Some None) stood made = cc
    by_cell (Some (Some b)) stood made = by_name b stood (b.key.ticket == t) refl (same_Some _ _ made)

-- a phase in which no row waits
abbrev WaitsNowhere : Phase → Type 0
WaitsNowhere phase = (q : Queue) → IsTrue (phase_waits_in q phase) → ⊥

keeps_phase : (e : Entry) (t : ℕ) (phase : Phase) → WaitsNowhere phase → Keeps e t (in_phase phase)
keeps_phase e t phase nowhere b r named made =
    let it : record b { phase = phase } ≡ r = same_Some (record b { phase = phase }) r made in
    (ap (λ (x : Row). x.key) it, λ q waits none. absurd (nowhere q (subst (λ (x : Row). IsTrue (phase_waits_in q x.phase)) (sym it) waits)))

-- a ticket's row that waits in a queue into which the entry put it
puts_there : (e : Entry) (t : ℕ) (queue : Queue) (since : ℕ) (change : Row → Option Row) (pin : Row → Option ℕ)
    → ((k : ℕ) (q : Queue) → joins k q e ≡ (t == k) && same_queue q queue)
    → ((b : Row) → change b ≡ Some (record b { pin = pin b; phase = Waiting queue since })) → Keeps e t change
puts_there e t queue since change pin puts changes b r named made =
    let it : record b { pin = pin b; phase = Waiting queue since } ≡ r = same_Some (record b { pin = pin b; phase = Waiting queue since }) r (sym (changes b)
    ∙ made) in (
      ap (λ (x : Row). x.key) it,
      λ q waits none.
          let own : (t == r.key.ticket) ≡ true = (Decides-eqb t r.key.ticket).1 (sym named ∙ ap (λ (x : Row). x.key.ticket) it) in
          let into : same_queue q queue ≡ true = subst (λ (x : Row). IsTrue (phase_waits_in q x.phase)) (sym it) waits in
          absurd (false≢true (sym none ∙ puts r.key.ticket q ∙ and_from _ _ own into)),
    )

-- a change of a row that leaves its key and its phase
keeps_stay : (e : Entry) (t : ℕ) (setup : Setup) → Keeps e t (failed setup)
keeps_stay e t setup b r named made = go (failed setup b) refl made
  where
    go : (o : Option Row) → failed setup b ≡ o → o ≡ Some r
        → (b.key ≡ r.key) × ((q : Queue) → IsTrue (phase_waits_in q r.phase) → joins r.key.ticket q e ≡ false → IsTrue (phase_waits_in q b.phase))
    go None is it = cc
    go (Some w) is it =
        let same : w ≡ r = same_Some w r it in (
          ap (λ (x : Row). x.key) (same_Some _ w is ∙ same),
          λ q waits none. subst (λ (x : Row). IsTrue (phase_waits_in q x.phase)) (sym (same_Some _ w is ∙ same)) waits,
        )

serving_nowhere : (v : ℕ) → WaitsNowhere (Serving v)
serving_nowhere v q e = false≢true e

told_nowhere : (c : Cause) → WaitsNowhere (Told c)
told_nowhere c q e = false≢true e

pub loose_nowhere : WaitsNowhere Loose
loose_nowhere q e = false≢true e

keeps_gone : (e : Entry) (t : ℕ) → Keeps e t gone
keeps_gone e t b r named made = let none : None ≡ Some r = made in cc

-- where each row comes from that an entry leaves
pub origin : (setup : Setup) (s : State) (e : Entry) (p : ℕ) (r : Row) → StandsAt (after setup s e).rows p r → IsArrival e r ⊎ WasThere s.rows e p r
origin setup s (Arrive m a) p r at =
    elim (get-set s.rows a.place p (Some (arrived a)) (Some r) at) [
      | inl here ↦ inl (record { arrival = a; is = refl; row = sym (same_Some (arrived a) r here) })
      | inr there ↦ inr (unchanged s.rows (Arrive m a) p r there)
    ]
origin setup s (Done m u) p r at = inr (unchanged s.rows (Done m u) p r at)
origin setup s (Fail m u) p r at = inr (change_back s.rows (Fail m u) u p (failed setup) r (keeps_stay (Fail m u) u setup) at)
origin setup s (Abort m u) p r at = inr (unchanged s.rows (Abort m u) p r at)
origin setup s (Tick m) p r at = inr (unchanged s.rows (Tick m) p r at)
origin setup s (Check m v ok) p r at = inr (unchanged s.rows (Check m v ok) p r at)
origin setup s (Limit m v k) p r at = inr (unchanged s.rows (Limit m v k) p r at)
origin setup s (Retried u v k) p r at = inr (unchanged s.rows (Retried u v k) p r at)
origin setup s (Health v up) p r at = inr (unchanged s.rows (Health v up) p r at)
origin setup s (Moved u v) p r at = inr (change_back s.rows (Moved u v) u p (in_backend_since s.moment) r
    (puts_there (Moved u v) u Backend s.moment (in_backend_since s.moment) (λ b. None) (λ k q. refl) (λ b. refl)) at)
origin setup s (Direct u v) p r at = inr (change_back s.rows (Direct u v) u p (in_phase (Serving v)) r
    (keeps_phase (Direct u v) u (Serving v) (serving_nowhere v)) at)
origin setup s (Joined u q) p r at = inr (change_back s.rows (Joined u q) u p (in_phase (Waiting q s.moment)) r
    (puts_there (Joined u q) u q s.moment (in_phase (Waiting q s.moment)) (λ b. b.pin) (λ k w. refl) (λ b. refl)) at)
origin setup s (Granted u q v) p r at = inr
    (change_back s.rows (Granted u q v) u p (in_phase (Serving v)) r (keeps_phase (Granted u q v) u (Serving v) (serving_nowhere v)) at)
origin setup s (Freed u v) p r at = inr (change_back s.rows (Freed u v) u p (in_phase Loose) r (keeps_phase (Freed u v) u Loose loose_nowhere) at)
origin setup s (Left u c) p r at = inr (change_back s.rows (Left u c) u p (in_phase (Told c)) r (keeps_phase (Left u c) u (Told c) (told_nowhere c)) at)
origin setup s (Ended u) p r at = inr (change_back s.rows (Ended u) u p gone r (keeps_gone (Ended u) u) at)

-- a row that waited before, with the same key
pub record Waited (rows : Rows) (q : Queue) (key : Key) : Type 0 where
  pub row : Row
  pub live : IsRow rows row
  pub same : row.key ≡ key
  pub waits : IsTrue (phase_waits_in q row.phase)

-- a row that waits waited before entries that don't put its ticket there
pub step_back : (setup : Setup) (s : State) (e : Entry) (q : Queue) (key : Key) → Waited (after setup s e).rows q key → joins key.ticket q e ≡ false
    → Waited s.rows q key
step_back setup s e q key w none =
    elim (origin setup s e w.live.0 w.row w.live.1) [
      | inl came ↦ absurd (loose_nowhere q (subst (λ (x : Row). IsTrue (phase_waits_in q x.phase)) came.row w.waits))
      | inr was ↦ record {
        row = was.row;
        live = (w.live.0, was.stands);
        same = was.key ∙ w.same;
        waits = was.waited q w.waits (subst (λ (k : Key). joins k.ticket q e ≡ false) (sym w.same) none);
      }
    ]

pub steps_back : (setup : Setup) (s : State) (es : List Entry) (q : Queue) (key : Key) → Waited (after_all setup s es).rows q key
    → AllByRecursion (λ e. joins key.ticket q e ≡ false) es → Waited s.rows q key
steps_back setup s [] q key w none = w
steps_back setup s (e ∷ es) q key w none = step_back setup s e q key (steps_back setup (after setup s e) es q key w none.1) none.0

pub known-push : (base : List BaseRow) (t : ℕ) (past : List Entry) (e : Entry) → key_known base t (past ++ e ∷ []) ≡ newer_key t (key_known base t past) e
known-push base t past e = fold_push (newer_key t) (base_key t base) past e

-- an arrival is the last one of its ticket; that of another ticket changes nothing
newest : (t : ℕ) (before : Option Key) (e : Entry) (a : Arrival) → arrival_in e ≡ Some a → a.ticket ≡ t → newer_key t before e ≡ Some (key_of a)
newest t before e a is named =
    ap (λ (o : Option Arrival). option_map_or (λ it. cond (it.ticket == t) (Some (key_of it)) before) o before) is
    ∙ ap (λ b. cond b (Some (key_of a)) before) ((Decides-eqb a.ticket t).1 named)

other_newest : (t : ℕ) (before : Option Key) (e : Entry) → IfSome (arrival_in e) (λ a. a.ticket ≢ t) → newer_key t before e ≡ before
other_newest t before e others = go (arrival_in e) others
  where
    differs : (a : Arrival) → a.ticket ≢ t → (b : Bool) → (a.ticket == t) ≡ b → cond b (Some (key_of a)) before ≡ before
    differs a other true same = absurd (other ((Decides-eqb a.ticket t).0 same))
    differs a other false same = refl

    go : (o : Option Arrival) → IfSome o (λ a. a.ticket ≢ t) → option_map_or (λ it. cond (it.ticket == t) (Some (key_of it)) before) o before ≡ before
    go None h = refl
    go (Some a) h = differs a h (a.ticket == t) refl

pub have_arrived_after : (base : List BaseRow) (setup : Setup) (past : List Entry) (s : State) (e : Entry) → HaveArrived base past s.rows → KeepsOrder s.rows e
    → HaveArrived base (past ++ e ∷ []) (after setup s e).rows
have_arrived_after base setup past s e have keeps r live =
    elim (origin setup s e live.0 r live.1) [
      | inl came ↦
          let a = came.arrival in
          let last : key_known base a.ticket (past ++ e ∷ []) ≡ Some (key_of a) = known-push base a.ticket past e
          ∙ newest a.ticket (key_known base a.ticket past) e a came.is refl in
          subst (λ (x : Row). HasArrived base (past ++ e ∷ []) x.key.ticket x.key.class x.key.due) (sym came.row)
          (subst (λ (o : Option Key). IsSomeAnd o (λ it. (it.class ≡ a.class) × (it.due ≡ a.due))) (sym last) (refl, refl))
      | inr was ↦
          let b = was.row in
          let last : key_known base b.key.ticket (past ++ e ∷ []) ≡ key_known base b.key.ticket past = known-push base b.key.ticket past e
          ∙ other_newest b.key.ticket (key_known base b.key.ticket past) e (others (arrival_in e) b (live.0, was.stands) keeps.fresh) in
          subst (λ (k : Key). HasArrived base (past ++ e ∷ []) k.ticket k.class k.due) was.key
          (subst (λ (o : Option Key). IsSomeAnd o (λ it. (it.class ≡ b.key.class) × (it.due ≡ b.key.due))) (sym last) (have b (live.0, was.stands)))
    ]
  where
    others : (o : Option Arrival) (b : Row) → IsRow s.rows b → IfSome o (λ a. TicketIsFresh s.rows a.ticket) → IfSome o (λ a. a.ticket ≢ b.key.ticket)
    others None b live fresh = tt
    others (Some a) b live fresh = λ same. fresh b live (sym same)
