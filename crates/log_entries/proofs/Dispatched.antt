-- The dispatch theorem's first three parts, for every legal log.
use Rattle.std.proofs.Common.{◌≡◌, ℕ, zero, suc, ◌+◌, ◌<◌, IfSome, ◌≤◌, max, ◌==◌, nat_lt, ◌||◌, Bool, true, false, not, cond, ◌⊎◌}
use Rattle.std.proofs.Common.{inl, inr, List, [], ◌∷◌, Option, None, Some, count_by, slice_get, refl, ap, sym, ◌∙◌, subst, arith}
use Rattle.std.proofs.Math.ListN.{set}
use Rattle.std.specs.Option.{option_map_or}
use Rattle.std.proofs.lemmas.Bool.Decides.{Decides-eqb, nat_tests}
use Rattle.std.proofs.lemmas.List.Sums.{sum_by-cons}
use Rattle.log_entries.specs.declared.allowance.Allowance.{Allowance}
use Rattle.log_entries.specs.declared.allowance.Intake.{Intake}
use Rattle.log_entries.specs.declared.allowance.Intake.TheVariants.{Open, Closed}
use Rattle.log_entries.specs.declared.entry.Entry.{Entry}
use Rattle.log_entries.specs.declared.entry.Entry.TheVariants.{Arrive, Done, Fail, Abort, Tick, Check, Limit, Direct}
use Rattle.log_entries.specs.declared.entry.Entry.TheVariants.{Joined, Granted, Moved, Freed, Retried, Left, Health, Ended}
use Rattle.log_entries.specs.declared.row.Phase.{Phase}
use Rattle.log_entries.specs.declared.row.Phase.TheVariants.{Loose, Waiting, Serving, Told}
use Rattle.base_verdict.specs.declared.cause.Cause.TheVariants.{Aborted, Timeout, Retries, NoServer}
use Rattle.log_entries.specs.declared.row.Row.{Row}
use Rattle.log_entries.specs.declared.setup.ServerSet.{ServerSet}
use Rattle.log_entries.specs.declared.setup.Setup.{Setup}
use Rattle.log_entries.specs.Dispatch.{bound_from, bound_by, bound_of, KeepsLimits, is_arrival_of, is_end_of, arrivals_of, ends_of, is_placed, IsDispatched}
use Rattle.log_entries.specs.Histories.{History, state_of, start_of}
use Rattle.log_entries.specs.Legal.{IsBase, IsLegal}
use Rattle.log_entries.specs.Judgement.{Stage, placing, returning, ending, failing, freed_by_failure, aborting, telling}
use Rattle.log_entries.specs.Judgement.{checking, emptying, granting, IsPut, MayCome, next_stage, stage_after, AllMayCome}
use Rattle.log_entries.specs.Refusals.{has_a_slot}
use Rattle.log_entries.specs.Retries.{failed}
use Rattle.log_entries.specs.Rows.{Rows, StandsAt, IsRow, changed, in_phase, in_backend_since, gone, pin_of, has_ticket, is_served_by, served, rows_of}
use Rattle.log_entries.specs.States.{State, scene, after, after_all, arrived, Point, point_of, next_point}
use Rattle.log_entries.specs.Scenes.{Scene, serves_beside, is_free}
use Rattle.log_entries.proofs.Accepted.{row_of_accepted}
use Rattle.log_entries.proofs.Consistency.{IsConsistent, loose_ticket}
use Rattle.log_entries.proofs.Given.{given_between, one, one_given, at_most_one, at_most_given}
use Rattle.log_entries.proofs.Judged.{consistent_after, consistent_all, over_none}
use Rattle.base_lists.proofs.Counts.{some_at, one_at}
use Rattle.base_lists.proofs.Places.{tally, count-set}
use Rattle.base_lists.proofs.Never.{false_true, none_some}
use Rattle.log_entries.proofs.RowLemmas.{HaveOwnTickets, changed_at}

-- the scene of a decision about slots, to which health is nothing
abbrev pub slots : Setup → State → Scene
slots setup s = record { servers = setup.servers; limits = s.limits; ups = []; rows = s.rows }

-- what an entry does to the rows: it writes one place, where a slot that is taken was free or the row's already, and
-- where rows, arrivals and ends of each ticket balance
pub record Writes (setup : Setup) (s next : State) (entry : Entry) : Type 0 where
  pub place : ℕ
  pub old : Option Row
  pub cell : Option Row
  pub stood : slice_get s.rows place ≡ Some old
  pub written : next.rows ≡ set s.rows place cell
  pub same_limits : next.limits ≡ s.limits
  pub takes : (server : ℕ) → is_served_by server cell ≡ true → (is_free (slots setup s) server ≡ true) ⊎ (is_served_by server old ≡ true)
  pub balanced : (ticket : ℕ) → tally (has_ticket ticket old) + tally (is_arrival_of ticket entry)
      ≡ tally (has_ticket ticket cell) + tally (is_end_of ticket entry)

-- or it leaves them and keeps their limits, and is no arrival and no end
pub record Leaves (s next : State) (entry : Entry) : Type 0 where
  pub same : next.rows ≡ s.rows
  pub keeps : KeepsLimits s → KeepsLimits next
  pub no_arrival : (ticket : ℕ) → is_arrival_of ticket entry ≡ false
  pub no_end : (ticket : ℕ) → is_end_of ticket entry ≡ false

abbrev pub Does : Setup → State → Entry → Type 0
Does setup s e = Writes setup s (after setup s e) e ⊎ Leaves s (after setup s e) e

-- a limit that is set, and what its server serves: the bound is no less, and another server's is as before
abbrev IsWithin : ℕ → Option ℕ → Type 0
IsWithin m bound = IfSome bound (λ most. m ≤ most)

abbrev bound_in : List Allowance → ℕ → Option ℕ
bound_in limits server = option_map_or bound_by (slice_get limits server) None

within_bound : (limit : Intake) (count m : ℕ) → m ≤ count → IsWithin m (bound_from limit count)
within_bound (Open limit) count m few = by_test (limit == 0)
  where
    by_test : (b : Bool) → IsWithin m (cond b None (Some (max limit count)))
    by_test true = tt
    by_test false = omega arith
within_bound Closed count m few = few

limit_kept : (limits : List Allowance) (v server : ℕ) (limit : Intake) (count m : ℕ) → (v ≡ server → m ≤ count) → IsWithin m (bound_in limits server)
    → IsWithin m (bound_in (set limits v (record { limit = limit; served = count })) server)
limit_kept [] v server limit count m own keeps = keeps
limit_kept (it ∷ limits) zero zero limit count m own keeps = within_bound limit count m (own refl)
limit_kept (it ∷ limits) zero (suc server) limit count m own keeps = keeps
limit_kept (it ∷ limits) (suc v) zero limit count m own keeps = keeps
limit_kept (it ∷ limits) (suc v) (suc server) limit count m own keeps = limit_kept limits v server limit count m (λ same. own (ap suc same)) keeps

-- the entry names a row, and changes it
named : (setup : Setup) (s : State) (e : Entry) (u p : ℕ) (r : Row) (f : Row → Option Row) → HaveOwnTickets s.rows → StandsAt s.rows p r → r.key.ticket ≡ u
    → (after setup s e).rows ≡ changed u f s.rows → (after setup s e).limits ≡ s.limits
    → ((server : ℕ) → is_served_by server (f r) ≡ true → (is_free (slots setup s) server ≡ true) ⊎ (is_served_by server (Some r) ≡ true))
    → ((ticket : ℕ) → tally (has_ticket ticket (Some r)) + tally (is_arrival_of ticket e) ≡ tally (has_ticket ticket (f r)) + tally (is_end_of ticket e))
    → Does setup s e
named setup s e u p r f own stands is_named changes limits takes balanced = inl (record {
  place = p;
  old = Some r;
  cell = f r;
  stood = stands;
  written = changes ∙ changed_at s.rows u p r f own stands is_named;
  same_limits = limits;
  takes = takes;
  balanced = balanced;
})

left : (setup : Setup) (s : State) (e : Entry) → (after setup s e).rows ≡ s.rows → (KeepsLimits s → KeepsLimits (after setup s e))
    → ((ticket : ℕ) → is_arrival_of ticket e ≡ false) → ((ticket : ℕ) → is_end_of ticket e ≡ false) → Does setup s e
left setup s e same keeps no_arrival no_end = inr (record { same = same; keeps = keeps; no_arrival = no_arrival; no_end = no_end })

slot_was_free : (setup : Setup) (s : State) (v w : ℕ) → is_free (slots setup s) v ≡ true → (v == w) ≡ true → is_free (slots setup s) w ≡ true
slot_was_free setup s v w free same = subst (λ x. is_free (slots setup s) x ≡ true) ((Decides-eqb v w).0 same) free

ended : (ticket own u : ℕ) → own ≡ u → tally (own == ticket) + 0 ≡ 0 + tally (u == ticket)
ended ticket own u e = subst (λ x. tally (own == ticket) + 0 ≡ 0 + tally (x == ticket)) e (omega arith)

-- the placement of the row that is in no place writes it
put_writes : (setup : Setup) (s : State) (t : ℕ) (old : Stage) (e : Entry) (cursor : ℕ) (ups : List Bool) (pin avoid : Option ℕ)
    → IsConsistent s.rows s.ticket old → loose_ticket old ≡ Some t
    → IsPut (record { servers = setup.servers; limits = s.limits; ups = ups; rows = s.rows }) cursor pin avoid t e → Does setup s e
put_writes setup s t old (Direct u v) cursor ups pin avoid is one put =
    let it = is.owed t one in
    named setup s (Direct u v) u it.place it.row (in_phase (Serving v)) is.tickets it.stands (it.named ∙ sym put.0) refl refl
    (λ server same. inl (slot_was_free setup s v server put.1.1 same)) (λ ticket. refl)
put_writes setup s t old (Joined u q) cursor ups pin avoid is one put =
    let it = is.owed t one in
    named setup s (Joined u q) u it.place it.row (in_phase (Waiting q s.moment)) is.tickets it.stands (it.named ∙ sym put.0) refl refl
    (λ server e. false_true e) (λ ticket. refl)
put_writes setup s t old (Left u NoServer) cursor ups pin avoid is one put =
    let it = is.owed t one in
    named setup s (Left u NoServer) u it.place it.row (in_phase (Told NoServer)) is.tickets it.stands (it.named ∙ sym put.0) refl refl
    (λ server e. false_true e) (λ ticket. refl)
put_writes setup s t old e cursor ups pin avoid is one put = absurd put

-- what every entry does that is judged
pub writes_of : (here : Point) (t : Stage) (e : Entry) → IsConsistent here.state.rows here.state.ticket t → MayCome here t e → Does here.setup here.state e
writes_of here t (Arrive m a) is may = inl (record {
  place = a.place;
  old = None;
  cell = Some (arrived a);
  stood = may.1.vacant;
  written = refl;
  same_limits = refl;
  takes = λ server e. false_true e;
  balanced = λ ticket. omega arith;
})
writes_of here t (Done m u) is may = left here.setup here.state (Done m u) refl (λ keeps. keeps) (λ ticket. refl) (λ ticket. refl)
writes_of here t (Fail m u) is may =
    let it = row_of_accepted (λ phase. not (has_a_slot phase)) here.setup here.state here.used u may.accepted in
    named here.setup here.state (Fail m u) u it.place it.row (failed here.setup) is.tickets it.stands it.named refl refl
    (λ server same. inr same) (λ ticket. refl)
writes_of here t (Abort m u) is may = left here.setup here.state (Abort m u) refl (λ keeps. keeps) (λ ticket. refl) (λ ticket. refl)
writes_of here t (Tick m) is may = left here.setup here.state (Tick m) refl (λ keeps. keeps) (λ ticket. refl) (λ ticket. refl)
writes_of here t (Check m v ok) is may = left here.setup here.state (Check m v ok) refl (λ keeps. keeps) (λ ticket. refl) (λ ticket. refl)
writes_of here t (Limit m v k) is may =
    left here.setup here.state (Limit m v k) refl
    (λ keeps server. limit_kept here.state.limits v server k (served v here.state.rows) (served server here.state.rows)
    (λ same. subst (λ w. served server here.state.rows ≤ served w here.state.rows) (sym same) (omega arith)) (keeps server))
    (λ ticket. refl) (λ ticket. refl)
writes_of here t (Granted u q v) is may =
    let it = may.1 in
    named here.setup here.state (Granted u q v) u it.live.0 it.row (in_phase (Serving v)) is.tickets it.live.1 it.named refl refl
    (λ server same. inl (slot_was_free here.setup here.state v server it.next.takes.0 same)) (λ ticket. refl)
writes_of here (placing t) e is may =
    put_writes here.setup here.state t (placing t) e here.state.cursor (scene here.setup here.state).ups (pin_of t here.state.rows) None is refl may
writes_of here (freed_by_failure t w) (Left u Retries) is may =
    let it = is.owed t refl in
    named here.setup here.state (Left u Retries) u it.place it.row (in_phase (Told Retries)) is.tickets it.stands (it.named ∙ sym may.0) refl refl
    (λ server e. false_true e) (λ ticket. refl)
writes_of here (freed_by_failure t w) (Direct u v) is may =
    put_writes here.setup here.state t (freed_by_failure t w) (Direct u v) here.state.cursor (scene here.setup here.state).ups None (Some w) is refl may.put
writes_of here (freed_by_failure t w) (Joined u q) is may =
    put_writes here.setup here.state t (freed_by_failure t w) (Joined u q) here.state.cursor (scene here.setup here.state).ups None (Some w) is refl may.put
writes_of here (freed_by_failure t w) (Left u NoServer) is may =
    put_writes here.setup here.state t (freed_by_failure t w) (Left u NoServer)
    here.state.cursor (scene here.setup here.state).ups None (Some w) is refl may.put
writes_of here (freed_by_failure t w) e is may = absurd may.put
writes_of here (returning t) (Freed u v) is may =
    let slot = may.1 in
    named here.setup here.state (Freed u v) u slot.live.0 slot.row (in_phase Loose) is.tickets slot.live.1 slot.named refl refl
    (λ server e. false_true e) (λ ticket. refl)
writes_of here (failing t) (Freed u v) is may =
    let slot = may.1 in
    named here.setup here.state (Freed u v) u slot.live.0 slot.row (in_phase Loose) is.tickets slot.live.1 slot.named refl refl
    (λ server e. false_true e) (λ ticket. refl)
writes_of here (failing t) (Retried u v k) is may = left here.setup here.state (Retried u v k) refl (λ keeps. keeps) (λ ticket. refl) (λ ticket. refl)
writes_of here (ending t) (Ended u) is may =
    let it = is.owed t refl in
    named here.setup here.state (Ended u) u it.place it.row gone is.tickets it.stands (it.named ∙ sym may) refl refl
    (λ server e. false_true e) (λ ticket. ended ticket it.row.key.ticket u (it.named ∙ sym may))
writes_of here (returning t) (Ended u) is may =
    let told = may.1 in
    named here.setup here.state (Ended u) u told.live.0 told.row gone is.tickets told.live.1 told.named refl refl
    (λ server e. false_true e) (λ ticket. ended ticket told.row.key.ticket u told.named)
writes_of here (aborting t) (Left u Aborted) is may =
    let it = may.1 in
    named here.setup here.state (Left u Aborted) u it.live.0 it.row (in_phase (Told Aborted)) is.tickets it.live.1 it.named refl refl
    (λ server e. false_true e) (λ ticket. refl)
writes_of here telling (Left u Timeout) is may =
    named here.setup here.state (Left u Timeout) u may.expired.0.0 may.row (in_phase (Told Timeout)) is.tickets may.expired.0.1 may.named refl refl
    (λ server e. false_true e) (λ ticket. refl)
writes_of here (checking w) (Health v up) is may = left here.setup here.state (Health v up) refl (λ keeps. keeps) (λ ticket. refl) (λ ticket. refl)
writes_of here (emptying w) (Moved u v) is may =
    let it = may.2 in
    named here.setup here.state (Moved u v) u it.live.0 it.row (in_backend_since here.state.moment) is.tickets it.live.1 it.named refl refl
    (λ server e. false_true e) (λ ticket. refl)
writes_of here t e is may = absurd may

-- a free server serves fewer than its bound
free_below : (setup : Setup) (s : State) (server : ℕ) → is_free (slots setup s) server ≡ true → IsWithin (served server s.rows + 1) (bound_of s server)
free_below setup s server free = by_server (slice_get setup.servers server) (slice_get s.limits server) free
  where
    by_limit : (limit : Intake) (count : ℕ) → serves_beside limit (served server s.rows) ≡ true → IsWithin (served server s.rows + 1) (bound_from limit count)
    by_limit (Open limit) count free = by_test (limit == 0) free
      where
        by_test : (b : Bool) → b || nat_lt (served server s.rows) limit ≡ true → IsWithin (served server s.rows + 1) (cond b None (Some (max limit count)))
        by_test true free = tt
        by_test false free = let less : served server s.rows < limit = grind (arith, nat_tests) in omega arith
    by_limit Closed count free = false_true free

    by_server : (it : Option ServerSet) (a : Option Allowance)
        → option_map_or (λ (x : ServerSet). serves_beside (option_map_or (λ (y : Allowance). y.limit) a Closed) (served server s.rows)) it false ≡ true
        → IsWithin (served server s.rows + 1) (option_map_or bound_by a None)
    by_server None a free = false_true free
    by_server (Some x) None free = tt
    by_server (Some x) (Some y) free = by_limit y.limit y.served free

-- a server that serves none keeps its bound
pub none_within : (bound : Option ℕ) (m : ℕ) → m ≡ 0 → IsWithin m bound
none_within None m none = tt
none_within (Some most) m none = omega (arith, none)

-- fewer keep a bound that more keep
fewer_within : (bound : Option ℕ) (m n : ℕ) → m ≤ n → IsWithin n bound → IsWithin m bound
fewer_within None m n fewer is = tt
fewer_within (Some most) m n fewer is = omega arith

-- limits are kept by a write whose slots were free, or the row's already
limits_written : (setup : Setup) (s next : State) (e : Entry) → Writes setup s next e → KeepsLimits s → KeepsLimits next
limits_written setup s next e w keeps server = subst (IsWithin (served server next.rows)) (sym bound) (by_test (is_served_by server w.cell) refl)
  where
    bound : bound_of next server ≡ bound_of s server
    bound = ap (λ l. option_map_or bound_by (slice_get l server) None) w.same_limits

    count : served server next.rows + tally (is_served_by server w.old) ≡ served server s.rows + tally (is_served_by server w.cell)
    count = ap (λ rows. served server rows + tally (is_served_by server w.old)) w.written ∙ count-set (is_served_by server) s.rows w.place w.old w.cell w.stood

    by_test : (b : Bool) → is_served_by server w.cell ≡ b → IsWithin (served server next.rows) (bound_of s server)
    by_test true e =
        let one : tally (is_served_by server w.cell) ≡ 1 = ap tally e in
        elim (w.takes server e) [
          | inl test ↦ fewer_within (bound_of s server) (served server next.rows) (served server s.rows + 1) (omega (arith, count)) (free_below setup s server test)
          | inr had ↦
              let before : tally (is_served_by server w.old) ≡ 1 = ap tally had in
              fewer_within (bound_of s server) (served server next.rows) (served server s.rows) (omega (arith, count)) (keeps server)
        ]
    by_test false e =
        let none : tally (is_served_by server w.cell) ≡ 0 = ap tally e in
        fewer_within (bound_of s server) (served server next.rows) (served server s.rows) (omega (arith, count)) (keeps server)

-- limits are kept by every entry
limits_after : (here : Point) (t : Stage) (e : Entry) → IsConsistent here.state.rows here.state.ticket t → MayCome here t e → KeepsLimits here.state
    → KeepsLimits (after here.setup here.state e)
limits_after here t e is may keeps =
    elim (writes_of here t e is may) [ inl w ↦ limits_written here.setup here.state (after here.setup here.state e) e w keeps | inr w ↦ w.keeps keeps ]

pub limits_all : (here : Point) (t : Stage) (es : List Entry) → IsConsistent here.state.rows here.state.ticket t → AllMayCome here t es → KeepsLimits here.state
    → KeepsLimits (after_all here.setup here.state es)
limits_all here t [] is all keeps = keeps
limits_all here t (e ∷ es) is all keeps =
    limits_all (next_point here e) (next_stage t e) es (consistent_after here t e is all.0) all.1 (limits_after here t e is all.0 keeps)

-- the rows of a ticket and its ends after an entry are those before and its arrivals
balance_after : (here : Point) (t : Stage) (e : Entry) (ticket : ℕ) → IsConsistent here.state.rows here.state.ticket t → MayCome here t e
    → rows_of ticket (after here.setup here.state e).rows + tally (is_end_of ticket e) ≡ rows_of ticket here.state.rows + tally (is_arrival_of ticket e)
balance_after here t e ticket is may =
    elim (writes_of here t e is may) [
      | inl w ↦
          let count : rows_of ticket (set here.state.rows w.place w.cell) + tally (has_ticket ticket w.old)
          ≡ rows_of ticket here.state.rows + tally (has_ticket ticket w.cell) =
          count-set (has_ticket ticket) here.state.rows w.place w.old w.cell w.stood in
          let even : tally (has_ticket ticket w.old) + tally (is_arrival_of ticket e) ≡ tally (has_ticket ticket w.cell) + tally (is_end_of ticket e) =
          w.balanced ticket in
          subst (λ rows. rows_of ticket rows + tally (is_end_of ticket e) ≡ rows_of ticket here.state.rows + tally (is_arrival_of ticket e)) (sym w.written)
          (omega arith)
      | inr w ↦
          let arrival : tally (is_arrival_of ticket e) ≡ 0 = ap tally (w.no_arrival ticket) in
          let end : tally (is_end_of ticket e) ≡ 0 = ap tally (w.no_end ticket) in
          let same : rows_of ticket (after here.setup here.state e).rows ≡ rows_of ticket here.state.rows = ap (rows_of ticket) w.same in
          omega arith
    ]

balance_all : (here : Point) (t : Stage) (es : List Entry) (ticket : ℕ) → IsConsistent here.state.rows here.state.ticket t → AllMayCome here t es
    → rows_of ticket (after_all here.setup here.state es).rows + ends_of ticket es ≡ rows_of ticket here.state.rows + arrivals_of ticket es
balance_all here t [] ticket is all = refl
balance_all here t (e ∷ es) ticket is all =
    let one = balance_after here t e ticket is all.0 in
    let rest : rows_of ticket (after_all here.setup (after here.setup here.state e) es).rows + ends_of ticket es
    ≡ rows_of ticket (after here.setup here.state e).rows + arrivals_of ticket es =
    balance_all (next_point here e) (next_stage t e) es ticket (consistent_after here t e is all.0) all.1 in
    let ends : ends_of ticket (e ∷ es) ≡ tally (is_end_of ticket e) + ends_of ticket es = sum_by-cons (λ x. tally (is_end_of ticket x)) e es in
    let arrivals : arrivals_of ticket (e ∷ es) ≡ tally (is_arrival_of ticket e) + arrivals_of ticket es =
    sum_by-cons (λ x. tally (is_arrival_of ticket x)) e es in
    omega arith

-- tickets rise
pub last_after : (here : Point) (t : Stage) (e : Entry) → MayCome here t e → here.state.ticket ≤ (after here.setup here.state e).ticket
last_after here t (Arrive m a) may = let next : a.ticket ≡ here.state.ticket + 1 = may.1.numbered in omega arith
last_after here t (Done m u) may = omega arith
last_after here t (Fail m u) may = omega arith
last_after here t (Abort m u) may = omega arith
last_after here t (Tick m) may = omega arith
last_after here t (Check m v ok) may = omega arith
last_after here t (Limit m v k) may = omega arith
last_after here t (Direct u v) may = omega arith
last_after here t (Joined u q) may = omega arith
last_after here t (Granted u q v) may = omega arith
last_after here t (Moved u v) may = omega arith
last_after here t (Freed u v) may = omega arith
last_after here t (Retried u v k) may = omega arith
last_after here t (Left u c) may = omega arith
last_after here t (Health v up) may = omega arith
last_after here t (Ended u) may = omega arith

last_all : (here : Point) (t : Stage) (es : List Entry) → AllMayCome here t es → here.state.ticket ≤ (after_all here.setup here.state es).ticket
last_all here t [] all = omega arith
last_all here t (e ∷ es) all =
    let one : here.state.ticket ≤ (after here.setup here.state e).ticket = last_after here t e all.0 in
    let rest : (after here.setup here.state e).ticket ≤ (after_all here.setup (after here.setup here.state e) es).ticket =
    last_all (next_point here e) (next_stage t e) es all.1 in
    omega arith

-- a ticket arrives as it is given
given_after : (here : Point) (first : ℕ) (t : Stage) (e : Entry) (ticket : ℕ) → first ≤ here.state.ticket → MayCome here t e
    → given_between first here.state.ticket ticket + tally (is_arrival_of ticket e) ≡ given_between first (after here.setup here.state e).ticket ticket
given_after here first t (Arrive m a) ticket past may = let next : a.ticket ≡ here.state.ticket + 1 = may.1.numbered in grind (arith, nat_tests)
given_after here first t (Done m u) ticket past may = omega arith
given_after here first t (Fail m u) ticket past may = omega arith
given_after here first t (Abort m u) ticket past may = omega arith
given_after here first t (Tick m) ticket past may = omega arith
given_after here first t (Check m v ok) ticket past may = omega arith
given_after here first t (Limit m v k) ticket past may = omega arith
given_after here first t (Direct u v) ticket past may = omega arith
given_after here first t (Joined u q) ticket past may = omega arith
given_after here first t (Granted u q v) ticket past may = omega arith
given_after here first t (Moved u v) ticket past may = omega arith
given_after here first t (Freed u v) ticket past may = omega arith
given_after here first t (Retried u v k) ticket past may = omega arith
given_after here first t (Left u c) ticket past may = omega arith
given_after here first t (Health v up) ticket past may = omega arith
given_after here first t (Ended u) ticket past may = omega arith

given_all : (here : Point) (first : ℕ) (t : Stage) (es : List Entry) (ticket : ℕ) → first ≤ here.state.ticket → AllMayCome here t es
    → given_between first here.state.ticket ticket + arrivals_of ticket es ≡ given_between first (after_all here.setup here.state es).ticket ticket
given_all here first t [] ticket past all = omega arith
given_all here first t (e ∷ es) ticket past all =
    let one = given_after here first t e ticket past all.0 in
    let later : here.state.ticket ≤ (after here.setup here.state e).ticket = last_after here t e all.0 in
    let rest = given_all (next_point here e) first (next_stage t e) es ticket (omega arith) all.1 in
    let arrivals : arrivals_of ticket (e ∷ es) ≡ tally (is_arrival_of ticket e) + arrivals_of ticket es =
    sum_by-cons (λ x. tally (is_arrival_of ticket x)) e es in
    omega arith

-- a row that is in no place isn't there between events
placed_row : (rows : Rows) (last : ℕ) (t : Stage) (r : Row) → IsConsistent rows last t → loose_ticket t ≡ None → IsRow rows r → (phase : Phase)
    → r.phase ≡ phase → is_placed phase ≡ true
placed_row rows last t r is none live Loose e = let h : loose_ticket t ≡ Some r.key.ticket = is.loose live.0 r live.1 e in cc
placed_row rows last t r is none live (Waiting q m) e = refl
placed_row rows last t r is none live (Serving v) e = refl
placed_row rows last t r is none live (Told c) e = refl

-- what a base has of rows and tickets
pub base_consistent : (setup : Setup) (base : State) → IsBase setup base → IsConsistent base.rows base.ticket granting
base_consistent setup base is = record {
  tickets = record {
    own = λ p q r u a b e.
        one_at (has_ticket r.key.ticket) base.rows p q (Some r) (Some u) (few r.key.ticket) a ((Decides-eqb _ _).1 refl) b ((Decides-eqb _ _).1 (sym e));
  };
  below = λ p r a.
      ((is.dispatched.one_place r.key.ticket).row_given (some_at (has_ticket r.key.ticket) base.rows p (Some r) a ((Decides-eqb _ _).1 refl))).up_to;
  loose = λ p r a e. let no : false ≡ true = subst (λ phase. is_placed phase ≡ true) e (is.dispatched.placed r (p, a)) in cc;
  owed = λ t e. none_some e;
}
  where
    few : (ticket : ℕ) → count_by (has_ticket ticket) base.rows ≤ 1
    few ticket = (is.dispatched.one_place ticket).one_row

pub legal_consistent : (h : History) → IsLegal h → IsConsistent (state_of h).rows (state_of h).ticket (stage_after granting h.log)
legal_consistent h legal = consistent_all (start_of h) granting h.log (base_consistent h.setup h.base legal.begins) legal.lawful.judged

-- the rows that a ticket has at a window's end
one_row : (first last ticket rows now ends arrivals : ℕ) → first ≤ last → rows ≤ given_between 0 first ticket → arrivals ≡ given_between first last ticket
    → now + ends ≡ rows + arrivals → now ≤ given_between 0 last ticket
one_row first last ticket rows now ends arrivals rises had came even = grind (arith, nat_tests)

-- the dispatch theorem's first three parts
pub dispatched : (h : History) → IsLegal h → IsDispatched h
dispatched h legal =
    let base = h.base in
    let judged = legal.lawful.judged in
    let opened = base_consistent h.setup base legal.begins in
    let end = legal_consistent h legal in
    let stage = stage_after granting h.log in
    record {
      limits = limits_all (point_of h.setup base 0) granting h.log opened judged legal.begins.dispatched.limits;
      one_place = λ ticket.
          let last = (state_of h).ticket in
          let none : given_between base.ticket base.ticket ticket ≡ 0 = grind (arith, nat_tests) in
          let all : given_between base.ticket base.ticket ticket + arrivals_of ticket h.log ≡ given_between base.ticket last ticket =
          given_all (point_of h.setup base 0) base.ticket granting h.log ticket (omega arith) judged in
          let came : arrivals_of ticket h.log ≡ given_between base.ticket last ticket = omega arith in
          let before = legal.begins.dispatched.one_place ticket in
          let even = balance_all (point_of h.setup base 0) granting h.log ticket opened judged in
          let rows : rows_of ticket (state_of h).rows ≤ given_between 0 last ticket =
          one_row base.ticket last ticket (rows_of ticket base.rows) (rows_of ticket (state_of h).rows) (ends_of ticket h.log) (arrivals_of ticket h.log)
          (last_all (point_of h.setup base 0) granting h.log judged)
          (at_most_given 0 base.ticket ticket (rows_of ticket base.rows) before.one_row before.row_given) came even in
          record {
            arrives_once = one base.ticket last ticket (arrivals_of ticket h.log) came;
            arrives_given = one_given base.ticket last ticket (arrivals_of ticket h.log) (omega arith);
            until_its_end = even;
            one_row = at_most_one 0 last ticket (rows_of ticket (state_of h).rows) rows;
            row_given = one_given 0 last ticket (rows_of ticket (state_of h).rows) rows;
          };
      placed = λ row live. placed_row (state_of h).rows (state_of h).ticket stage row end
          (over_none h.setup (state_of h) stage legal.lawful.whole) live row.phase refl;
      settled = legal.lawful.settled;
    }
