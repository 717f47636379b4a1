-- Logs that are judged entry by entry: what one entry more is, and what each state on the way has.
use Rattle.std.proofs.Common.{◌≡◌, ◌≢◌, ℕ, ◌+◌, true, false, not, IsTrue, List, [], ◌∷◌, ◌++◌, Option}
use Rattle.std.proofs.Common.{None, Some, length, refl, ap, sym, ◌∙◌, subst, arith, ◌⊎◌, inl, inr}
use Rattle.std.proofs.Math.ListN.{set, length-set}
use Rattle.std.proofs.lemmas.List.{length-map}
use Rattle.log_entries.specs.declared.allowance.Intake.TheVariants.{Open, Closed}
use Rattle.log_entries.specs.declared.entry.Entry.{Entry}
use Rattle.log_entries.specs.declared.entry.Entry.TheVariants.{Arrive, Done, Fail, Abort, Tick, Check, Limit, Direct}
use Rattle.log_entries.specs.declared.entry.Entry.TheVariants.{Joined, Granted, Moved, Freed, Retried, Left, Health, Ended}
use Rattle.log_entries.specs.declared.row.Phase.{Phase}
use Rattle.log_entries.specs.declared.row.Phase.TheVariants.{Loose, Waiting, Serving, Told}
use Rattle.base_verdict.specs.declared.cause.Cause.{Cause}
use Rattle.base_verdict.specs.declared.cause.Cause.TheVariants.{Aborted, Timeout, Retries, NoServer}
use Rattle.log_entries.specs.declared.row.Row.{Row}
use Rattle.log_entries.specs.declared.setup.Setup.{Setup}
use Rattle.log_entries.specs.declared.queue.Queue.{Queue}
use Rattle.log_entries.specs.declared.queue.Queue.TheVariants.{Backend, Server}
use Rattle.log_entries.specs.Judgement.{IsInPhase, HasSlot, IsTold, Stage, placing, returning, ending, failing, freed_by_failure, aborting, telling, checking}
use Rattle.log_entries.specs.Judgement.{emptying, granting, EventIsOver, MayGrant, IsPut, MayCome, IsFirstIn, HasExpired, next_stage, stage_after, AllMayCome}
use Rattle.log_entries.specs.Health.{results_of}
use Rattle.log_entries.specs.Refusals.{is_waiting, has_a_slot, failure_refusal}
use Rattle.log_entries.specs.Retries.{failed}
use Rattle.log_entries.specs.Rows.{Rows, StandsAt, with_change, changed, in_phase, in_backend_since, gone, phase_waits_in, pin_of, served}
use Rattle.log_entries.specs.States.{State, scene, after, after_all, arrived, Point, point_of, next_point, point_after}
use Rattle.log_entries.specs.Scenes.{Scene}
use Rattle.log_entries.proofs.Accepted.{row_of_accepted}
use Rattle.log_entries.proofs.Consistency.{IsConsistent, IsLoose, loose_ticket, at_stage, placed, moved, loosened, removed, dismissed, admitted}
use Rattle.log_entries.proofs.RowLemmas.{changed_at}

-- what one entry more leaves
pub after_all-push : (setup : Setup) (s : State) (es : List Entry) (e : Entry) → after_all setup s (es ++ e ∷ []) ≡ after setup (after_all setup s es) e
after_all-push setup s [] e = refl
after_all-push setup s (x ∷ es) e = after_all-push setup (after setup s x) es e

pub stage_after-push : (t : Stage) (es : List Entry) (e : Entry) → stage_after t (es ++ e ∷ []) ≡ next_stage (stage_after t es) e
stage_after-push t [] e = refl
stage_after-push t (x ∷ es) e = stage_after-push (next_stage t x) es e

-- an entry that may come at the end
pub judged_push : (here : Point) (t : Stage) (es : List Entry) (e : Entry) → AllMayCome here t es
    → MayCome (point_after here es) (stage_after t es) e → AllMayCome here t (es ++ e ∷ [])
judged_push here t [] e all may = (subst (λ k. MayCome (point_of here.setup here.state k) t e) (omega arith) may, tt)
judged_push here t (x ∷ es) e all may = (
  all.0,
  judged_push (next_point here x) (next_stage t x) es e all.1
      (let longer : here.used + length (x ∷ es) ≡ (here.used + 1) + length es = omega arith in
      subst (λ k. MayCome (point_of here.setup (after_all here.setup here.state (x ∷ es)) k) (stage_after t (x ∷ es)) e) longer may),
)

-- an event begins where no row is in no place
pub over_none : (setup : Setup) (s : State) (t : Stage) → EventIsOver setup s t → loose_ticket t ≡ None
over_none setup s granting over = refl
over_none setup s telling over = refl
over_none setup s (checking v) over = refl
over_none setup s (emptying v) over = refl
over_none setup s t over = absurd over

-- the row that is in no place, or none, stays so over a grant
pub grant_keeps : (setup : Setup) (s : State) (t : Stage) (u v : ℕ) (q : Queue) → MayGrant setup s t
    → loose_ticket t ≡ loose_ticket (next_stage t (Granted u q v))
grant_keeps setup s (freed_by_failure t w) u v q may = refl
grant_keeps setup s granting u v q may = refl
grant_keeps setup s telling u v q may = refl
grant_keeps setup s (checking w) u v q may = refl
grant_keeps setup s (emptying w) u v q may = refl
grant_keeps setup s t u v q may = absurd may

-- a row that waits, has a slot or is told is in a place
waits_firm : (q : Queue) (phase : Phase) → IsTrue (phase_waits_in q phase) → phase ≢ Loose
waits_firm q Loose waits e = let no : false ≡ true = waits in cc
waits_firm q (Waiting other m) waits e = cc
waits_firm q (Serving v) waits e = cc
waits_firm q (Told c) waits e = cc

waiting_firm : (phase : Phase) → IsTrue (is_waiting phase) → phase ≢ Loose
waiting_firm Loose waits e = let no : false ≡ true = waits in cc
waiting_firm (Waiting other m) waits e = cc
waiting_firm (Serving v) waits e = cc
waiting_firm (Told c) waits e = cc

pub slot_firm : (phase : Phase) → not (has_a_slot phase) ≡ false → phase ≢ Loose
slot_firm Loose slot e = let no : true ≡ false = slot in cc
slot_firm (Waiting other m) slot e = cc
slot_firm (Serving v) slot e = cc
slot_firm (Told c) slot e = cc

expired_firm : (setup : Setup) (now : ℕ) (phase : Phase) → HasExpired setup now phase → phase ≢ Loose
expired_firm setup now Loose expired e = absurd expired
expired_firm setup now (Waiting other m) expired e = cc
expired_firm setup now (Serving v) expired e = cc
expired_firm setup now (Told c) expired e = cc

-- a change of the row that is in no place, which gets one
settled_in : (s : State) (t u : ℕ) (old new : Stage) (phase : Phase) → IsConsistent s.rows s.ticket old → loose_ticket old ≡ Some t → loose_ticket new ≡ None
    → u ≡ t → phase ≢ Loose → IsConsistent (changed u (in_phase phase) s.rows) s.ticket new
settled_in s t u old new phase is one none same firm =
    let it = is.owed t one in
    subst (λ rows. IsConsistent rows s.ticket new) (sym (changed_at s.rows u it.place it.row (in_phase phase) is.tickets it.stands (it.named ∙ sym same)))
    (placed s.rows s.ticket t it.place old new it.row (record it.row { phase = phase }) is one none it.stands it.named refl firm)

-- a change of a row that stays in a place
moves_on : (rows : Rows) (last u p : ℕ) (old new : Stage) (r w : Row) (change : Row → Option Row) → IsConsistent rows last old
    → loose_ticket old ≡ loose_ticket new → StandsAt rows p r → r.key.ticket ≡ u → change r ≡ Some w → w.key.ticket ≡ r.key.ticket → r.phase ≢ Loose
    → w.phase ≢ Loose → IsConsistent (changed u change rows) last new
moves_on rows last u p old new r w change is stay stands named to same was firm =
    subst (λ now. IsConsistent now last new) (sym (changed_at rows u p r change is.tickets stands named ∙ ap (set rows p) to))
    (moved rows last p old new r w is stay stands same was firm)

-- a slot that is given back
gives_back : (s : State) (t u v : ℕ) (old new : Stage) → IsConsistent s.rows s.ticket old → loose_ticket old ≡ None → loose_ticket new ≡ Some t → u ≡ t
    → HasSlot s.rows u v → IsConsistent (changed u (in_phase Loose) s.rows) s.ticket new
gives_back s t u v old new is none one same slot =
    subst (λ rows. IsConsistent rows s.ticket new) (sym (changed_at s.rows u slot.live.0 slot.row (in_phase Loose) is.tickets slot.live.1 slot.named))
    (loosened s.rows s.ticket t slot.live.0 old new slot.row (record slot.row { phase = Loose }) is none one slot.live.1 (slot.named ∙ same) refl refl)

-- the placement of the row that is in no place
put_after : (setup : Setup) (s : State) (t : ℕ) (old : Stage) (e : Entry) (at : Scene) (cursor : ℕ) (pin avoid : Option ℕ) → IsConsistent s.rows s.ticket old
    → loose_ticket old ≡ Some t → loose_ticket (next_stage old e) ≡ None → IsPut at cursor pin avoid t e
    → IsConsistent (after setup s e).rows (after setup s e).ticket (next_stage old e)
put_after setup s t old (Direct u v) at cursor pin avoid is one none put =
    settled_in s t u old (next_stage old (Direct u v)) (Serving v) is one none put.0 (λ e. cc)
put_after setup s t old (Joined u q) at cursor pin avoid is one none put =
    settled_in s t u old (next_stage old (Joined u q)) (Waiting q s.moment) is one none put.0 (λ e. cc)
put_after setup s t old (Left u NoServer) at cursor pin avoid is one none put =
    settled_in s t u old (next_stage old (Left u NoServer)) (Told NoServer) is one none put.0 (λ e. cc)
put_after setup s t old e at cursor pin avoid is one none put = absurd put

-- a failure is counted in the row of its ticket, which keeps its slot
failed_after : (setup : Setup) (s : State) (n m u : ℕ) (t new : Stage) → IsConsistent s.rows s.ticket t → loose_ticket t ≡ loose_ticket new
    → failure_refusal setup s n u ≡ None → IsConsistent (changed u (failed setup) s.rows) s.ticket new
failed_after setup s n m u t new is stay accepted =
    let it = row_of_accepted (λ phase. not (has_a_slot phase)) setup s n u accepted in
    moves_on s.rows s.ticket u it.place t new it.row _ (failed setup) is stay it.stands it.named refl refl (slot_firm it.row.phase it.right)
    (slot_firm it.row.phase it.right)

-- a judged entry keeps states consistent
pub consistent_after : (here : Point) (t : Stage) (e : Entry) → IsConsistent here.state.rows here.state.ticket t → MayCome here t e
    → IsConsistent (after here.setup here.state e).rows (after here.setup here.state e).ticket (next_stage t e)
consistent_after here t (Arrive m a) is may =
    admitted here.state.rows here.state.ticket a.place t (arrived a) is (over_none here.setup here.state t may.0.over) may.1.vacant may.1.numbered refl
consistent_after here t (Done m u) is may = at_stage here.state.rows here.state.ticket t (returning u) is (over_none here.setup here.state t may.over)
consistent_after here t (Fail m u) is may =
    failed_after here.setup here.state here.used m u t (failing u) is (over_none here.setup here.state t may.over) may.accepted
consistent_after here t (Abort m u) is may = at_stage here.state.rows here.state.ticket t (aborting u) is (over_none here.setup here.state t may.over)
consistent_after here t (Tick m) is may = at_stage here.state.rows here.state.ticket t telling is (over_none here.setup here.state t may.over)
consistent_after here t (Check m v ok) is may = at_stage here.state.rows here.state.ticket t (checking v) is (over_none here.setup here.state t may.over)
consistent_after here t (Limit m v (Open k)) is may = at_stage here.state.rows here.state.ticket t granting is (over_none here.setup here.state t may.over)
consistent_after here t (Limit m v Closed) is may = at_stage here.state.rows here.state.ticket t (emptying v) is (over_none here.setup here.state t may.over)
consistent_after here t (Granted u q v) is may =
    let it = may.1 in
    moves_on here.state.rows here.state.ticket u it.live.0 t (next_stage t (Granted u q v)) it.row (record it.row { phase = Serving v })
    (in_phase (Serving v)) is
    (grant_keeps here.setup here.state t u v q may.0)
    it.live.1 it.named refl refl (waits_firm q it.row.phase it.waits) (λ e. cc)
consistent_after here (placing t) (Direct u v) is may =
    put_after here.setup here.state t (placing t) (Direct u v) (scene here.setup here.state) here.state.cursor (pin_of t here.state.rows) None is refl refl may
consistent_after here (placing t) (Joined u q) is may =
    put_after here.setup here.state t (placing t) (Joined u q) (scene here.setup here.state) here.state.cursor (pin_of t here.state.rows) None is refl refl may
consistent_after here (placing t) (Left u NoServer) is may =
    put_after here.setup here.state t (placing t) (Left u NoServer) (scene here.setup here.state) here.state.cursor
    (pin_of t here.state.rows) None is refl refl may
consistent_after here (freed_by_failure t w) (Direct u v) is may =
    put_after here.setup here.state t (freed_by_failure t w) (Direct u v) (scene here.setup here.state) here.state.cursor None (Some w) is refl refl may.put
consistent_after here (freed_by_failure t w) (Joined u q) is may =
    put_after here.setup here.state t (freed_by_failure t w) (Joined u q) (scene here.setup here.state) here.state.cursor None (Some w) is refl refl may.put
consistent_after here (freed_by_failure t w) (Left u NoServer) is may =
    put_after here.setup here.state t (freed_by_failure t w) (Left u NoServer) (scene here.setup here.state) here.state.cursor
    None (Some w) is refl refl may.put
consistent_after here (freed_by_failure t w) (Left u Retries) is may =
    settled_in here.state t u (freed_by_failure t w) granting (Told Retries) is refl refl may.0 (λ e. cc)
consistent_after here (freed_by_failure t w) e is may = absurd may.put
consistent_after here (returning t) (Freed u v) is may = gives_back here.state u u v (returning t) (ending u) is refl refl refl may.1
consistent_after here (failing t) (Freed u v) is may = gives_back here.state u u v (failing t) (freed_by_failure u v) is refl refl refl may.1
consistent_after here (failing t) (Retried u v k) is may = at_stage here.state.rows here.state.ticket (failing t) granting is refl
consistent_after here (ending t) (Ended u) is may =
    let it = is.owed t refl in
    subst (λ rows. IsConsistent rows here.state.ticket granting)
    (sym (changed_at here.state.rows u it.place it.row gone is.tickets it.stands (it.named ∙ sym may)))
    (removed here.state.rows here.state.ticket t it.place (ending t) granting it.row is refl refl it.stands it.named)
consistent_after here (returning t) (Ended u) is may =
    let told = may.1 in
    subst (λ rows. IsConsistent rows here.state.ticket granting)
    (sym (changed_at here.state.rows u told.live.0 told.row gone is.tickets told.live.1 told.named))
    (dismissed here.state.rows here.state.ticket told.live.0 (returning t) granting told.row is refl refl told.live.1)
consistent_after here (aborting t) (Left u Aborted) is may =
    let it = may.1 in
    moves_on here.state.rows here.state.ticket u it.live.0 (aborting t) granting it.row (record it.row { phase = Told Aborted })
    (in_phase (Told Aborted)) is refl it.live.1 it.named refl refl (waiting_firm it.row.phase it.phase) (λ e. cc)
consistent_after here telling (Left u Timeout) is may =
    moves_on here.state.rows here.state.ticket u may.expired.0.0 telling telling may.row (record may.row { phase = Told Timeout })
    (in_phase (Told Timeout)) is refl may.expired.0.1 may.named refl refl (expired_firm here.setup here.state.moment may.row.phase may.expired.1) (λ e. cc)
consistent_after here (checking w) (Health v true) is may = at_stage here.state.rows here.state.ticket (checking w) granting is refl
consistent_after here (checking w) (Health v false) is may = at_stage here.state.rows here.state.ticket (checking w) (emptying v) is refl
consistent_after here (emptying w) (Moved u v) is may =
    let it = may.2 in
    moves_on here.state.rows here.state.ticket u it.live.0 (emptying w) (emptying v) it.row
    (record it.row { pin = None; phase = Waiting Backend here.state.moment })
    (in_backend_since here.state.moment) is refl it.live.1 it.named refl refl (waits_firm (Server v) it.row.phase it.waits) (λ e. cc)
consistent_after here t e is may = absurd may

pub consistent_all : (here : Point) (t : Stage) (es : List Entry) → IsConsistent here.state.rows here.state.ticket t → AllMayCome here t es
    → IsConsistent (after_all here.setup here.state es).rows (after_all here.setup here.state es).ticket (stage_after t es)
consistent_all here t [] is all = is
consistent_all here t (e ∷ es) is all = consistent_all (next_point here e) (next_stage t e) es (consistent_after here t e is all.0) all.1

-- the same row under an equal ticket
renamed : (rows : Rows) (t u : ℕ) → IsLoose rows t → u ≡ t → IsLoose rows u
renamed rows t u is same = record { row = is.row; place = is.place; stands = is.stands; named = is.named ∙ sym same; loose = is.loose }

-- no entry changes how many places there are
pub places_after : (setup : Setup) (s : State) (e : Entry) → length (after setup s e).rows ≡ length s.rows
places_after setup s (Arrive m a) = length-set s.rows a.place (Some (arrived a))
places_after setup s (Done m u) = refl
places_after setup s (Fail m u) = length-map s.rows (with_change u (failed setup))
places_after setup s (Abort m u) = refl
places_after setup s (Tick m) = refl
places_after setup s (Check m v ok) = refl
places_after setup s (Limit m v k) = refl
places_after setup s (Direct u v) = length-map s.rows (with_change u (in_phase (Serving v)))
places_after setup s (Joined u q) = length-map s.rows (with_change u (in_phase (Waiting q s.moment)))
places_after setup s (Granted u q v) = length-map s.rows (with_change u (in_phase (Serving v)))
places_after setup s (Moved u v) = length-map s.rows (with_change u (in_backend_since s.moment))
places_after setup s (Freed u v) = length-map s.rows (with_change u (in_phase Loose))
places_after setup s (Retried u v k) = refl
places_after setup s (Left u c) = length-map s.rows (with_change u (in_phase (Told c)))
places_after setup s (Health v up) = refl
places_after setup s (Ended u) = length-map s.rows (with_change u gone)

pub places_all : (setup : Setup) (s : State) (es : List Entry) → length (after_all setup s es).rows ≡ length s.rows
places_all setup s [] = refl
places_all setup s (e ∷ es) = places_all setup (after setup s e) es ∙ places_after setup s e

-- a change of a server's results leaves how many servers there are
pub results_after : (setup : Setup) (s : State) (e : Entry) → length (after setup s e).results ≡ length s.results
results_after setup s (Check m v ok) = length-set s.results v (results_of s.results v ++ ok ∷ [])
results_after setup s (Arrive m a) = refl
results_after setup s (Done m u) = refl
results_after setup s (Fail m u) = refl
results_after setup s (Abort m u) = refl
results_after setup s (Tick m) = refl
results_after setup s (Limit m v k) = refl
results_after setup s (Direct u v) = refl
results_after setup s (Joined u q) = refl
results_after setup s (Granted u q v) = refl
results_after setup s (Moved u v) = refl
results_after setup s (Freed u v) = refl
results_after setup s (Retried u v k) = refl
results_after setup s (Left u c) = refl
results_after setup s (Health v up) = refl
results_after setup s (Ended u) = refl

pub results_all : (setup : Setup) (s : State) (es : List Entry) → length (after_all setup s es).results ≡ length s.results
results_all setup s [] = refl
results_all setup s (e ∷ es) = results_all setup (after setup s e) es ∙ results_after setup s e

-- and so does a change of a server's limit
limits_after : (setup : Setup) (s : State) (e : Entry) → length (after setup s e).limits ≡ length s.limits
limits_after setup s (Limit m v k) = length-set s.limits v (record { limit = k; served = served v s.rows })
limits_after setup s (Check m v ok) = refl
limits_after setup s (Arrive m a) = refl
limits_after setup s (Done m u) = refl
limits_after setup s (Fail m u) = refl
limits_after setup s (Abort m u) = refl
limits_after setup s (Tick m) = refl
limits_after setup s (Direct u v) = refl
limits_after setup s (Joined u q) = refl
limits_after setup s (Granted u q v) = refl
limits_after setup s (Moved u v) = refl
limits_after setup s (Freed u v) = refl
limits_after setup s (Retried u v k) = refl
limits_after setup s (Left u c) = refl
limits_after setup s (Health v up) = refl
limits_after setup s (Ended u) = refl

pub limits_all : (setup : Setup) (s : State) (es : List Entry) → length (after_all setup s es).limits ≡ length s.limits
limits_all setup s [] = refl
limits_all setup s (e ∷ es) = limits_all setup (after setup s e) es ∙ limits_after setup s e

-- the row that a placement names is in no place yet
pub direct_row : (here : Point) (t : Stage) (u v : ℕ) → IsConsistent here.state.rows here.state.ticket t → MayCome here t (Direct u v)
    → IsLoose here.state.rows u
direct_row here (placing t) u v is may = renamed here.state.rows t u (is.owed t refl) may.0
direct_row here (freed_by_failure t w) u v is may = renamed here.state.rows t u (is.owed t refl) may.put.0
direct_row here t u v is may = absurd may

pub joined_row : (here : Point) (t : Stage) (u : ℕ) (q : Queue) → IsConsistent here.state.rows here.state.ticket t → MayCome here t (Joined u q)
    → IsLoose here.state.rows u
joined_row here (placing t) u q is may = renamed here.state.rows t u (is.owed t refl) may.0
joined_row here (freed_by_failure t w) u q is may = renamed here.state.rows t u (is.owed t refl) may.put.0
joined_row here t u q is may = absurd may

-- the row that is told is in no place yet, or waits
pub left_row : (here : Point) (t : Stage) (u : ℕ) (c : Cause) → IsConsistent here.state.rows here.state.ticket t → MayCome here t (Left u c)
    → IsLoose here.state.rows u ⊎ IsInPhase is_waiting here.state.rows u
left_row here (placing t) u NoServer is may = inl (renamed here.state.rows t u (is.owed t refl) may.0)
left_row here (freed_by_failure t w) u NoServer is may = inl (renamed here.state.rows t u (is.owed t refl) may.put.0)
left_row here (freed_by_failure t w) u Retries is may = inl (renamed here.state.rows t u (is.owed t refl) may.0)
left_row here (freed_by_failure t w) u c is may = absurd may.put
left_row here (aborting t) u Aborted is may = inr may.1
left_row here telling u Timeout is may = inr (record { row = may.row; live = may.expired.0; named = may.named; phase = waits may.row.phase may.expired.1 })
  where
    waits : (phase : Phase) → HasExpired here.setup here.state.moment phase → IsTrue (is_waiting phase)
    waits (Waiting q m) expired = refl
    waits Loose expired = absurd expired
    waits (Serving v) expired = absurd expired
    waits (Told c) expired = absurd expired
left_row here t u c is may = absurd may

-- where neither an abort nor a timeout is told, it is in no place
pub loose_left : (here : Point) (t : Stage) (u : ℕ) (c : Cause) → IsConsistent here.state.rows here.state.ticket t → c ≢ Aborted → c ≢ Timeout
    → MayCome here t (Left u c) → IsLoose here.state.rows u
loose_left here (placing t) u NoServer is first second may = renamed here.state.rows t u (is.owed t refl) may.0
loose_left here (freed_by_failure t w) u NoServer is first second may = renamed here.state.rows t u (is.owed t refl) may.put.0
loose_left here (freed_by_failure t w) u Retries is first second may = renamed here.state.rows t u (is.owed t refl) may.0
loose_left here (freed_by_failure t w) u c is first second may = absurd may.put
loose_left here (aborting t) u Aborted is first second may = absurd (first refl)
loose_left here telling u Timeout is first second may = absurd (second refl)
loose_left here t u c is first second may = absurd may

-- the row that ends is in no place, or told
pub ended_row : (here : Point) (t : Stage) (u : ℕ) → IsConsistent here.state.rows here.state.ticket t → MayCome here t (Ended u)
    → IsLoose here.state.rows u ⊎ IsTold here.state.rows u
ended_row here (ending t) u is may = inl (renamed here.state.rows t u (is.owed t refl) may)
ended_row here (returning t) u is may = inr may.1
ended_row here (freed_by_failure t w) u is may = absurd may.put
ended_row here t u is may = absurd may

-- a slot that is given back was the ticket's
pub freed_slot : (here : Point) (t : Stage) (u v : ℕ) → MayCome here t (Freed u v) → HasSlot here.state.rows u v
freed_slot here (returning t) u v may = may.1
freed_slot here (failing t) u v may = may.1
freed_slot here (freed_by_failure t w) u v may = absurd may.put
freed_slot here t u v may = absurd may

-- a stay that is moved is the first of its server's queue
pub moved_row : (here : Point) (t : Stage) (u v : ℕ) → MayCome here t (Moved u v) → IsFirstIn (Server v) here.state.rows u
moved_row here (emptying w) u v may = may.2
moved_row here (freed_by_failure t w) u v may = absurd may.put
moved_row here t u v may = absurd may
