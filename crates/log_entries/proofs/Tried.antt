-- How often connections failed for a request: no more often than it is tried again, but for one that is told so.
use Rattle.std.proofs.Common.{◌≡◌, ◌≢◌, ℕ, ◌==◌, ◌≤◌, true, false, Bool, not, ◌||◌, IsTrue, List}
use Rattle.std.proofs.Common.{[], ◌∷◌, Option, None, Some, refl, ap, sym, ◌∙◌, subst, arith, inl, inr}
use Rattle.std.proofs.Math.ListN.{set}
use Rattle.std.specs.Option.{option_map_or}
use Rattle.std.proofs.lemmas.Option.{same_Some}
use Rattle.std.proofs.lemmas.Bool.{and_parts}
use Rattle.std.proofs.lemmas.Bool.Decides.{Decides-eqb, nat_tests}
use Rattle.log_entries.specs.declared.entry.Arrival.{Arrival}
use Rattle.log_entries.specs.declared.allowance.Intake.TheVariants.{Open, Closed}
use Rattle.log_entries.specs.declared.entry.Entry.{Entry}
use Rattle.log_entries.specs.declared.entry.Entry.TheVariants.{Arrive, Done, Fail, Abort, Tick, Check, Limit, Direct}
use Rattle.log_entries.specs.declared.entry.Entry.TheVariants.{Joined, Granted, Moved, Freed, Retried, Left, Health, Ended}
use Rattle.log_entries.specs.declared.row.Phase.{Phase}
use Rattle.log_entries.specs.declared.row.Phase.TheVariants.{Loose, Waiting, Serving, Told}
use Rattle.base_verdict.specs.declared.cause.Cause.TheVariants.{Aborted, Timeout, Retries, NoServer}
use Rattle.log_entries.specs.declared.row.Row.{Row}
use Rattle.log_entries.specs.declared.setup.Setup.{Setup}
use Rattle.log_entries.specs.declared.queue.Queue.{Queue}
use Rattle.log_entries.specs.declared.queue.Queue.TheVariants.{Backend, Server}
use Rattle.log_entries.specs.Judgement.{HasSlot, Stage, placing, returning, ending, failing, freed_by_failure, aborting, telling, checking}
use Rattle.log_entries.specs.Judgement.{emptying, granting, EventIsOver, MayGrant, IsPut, MayCome, next_stage, stage_after, AllMayCome}
use Rattle.log_entries.specs.Refusals.{is_waiting, has_a_slot}
use Rattle.log_entries.specs.Retries.{are_redispatched, are_retried, are_spent, failed}
use Rattle.log_entries.specs.Rows.{Rows, StandsAt, IsRow, IsVacant, changed, in_phase, in_backend_since}
use Rattle.log_entries.specs.Rows.{gone, pin_of, phase_is_told, phase_is_served_by, phase_waits_in, failures_of}
use Rattle.log_entries.specs.States.{State, scene, after, after_all, arrived, Point, point_of, next_point}
use Rattle.log_entries.specs.Scenes.{Scene}
use Rattle.log_entries.proofs.Accepted.{row_of_accepted}
use Rattle.log_entries.proofs.Consistency.{IsConsistent, IsLoose}
use Rattle.log_entries.proofs.Judged.{consistent_after}
use Rattle.log_entries.proofs.RowLemmas.{HaveOwnTickets, changed_at, row_of_at}
use Rattle.base_lists.proofs.Never.{false_true, none_some}
use Rattle.base_lists.proofs.Places.{get-set_cases}

-- the ticket whose failure a stage deals with
abbrev pub failing_ticket : Stage → Option ℕ
failing_ticket (failing ticket) = Some ticket
failing_ticket (freed_by_failure ticket server) = Some ticket
failing_ticket stage = None

-- but for that one, each request that isn't told has failed no more often than it is tried again
abbrev pub AreTried : Setup → Stage → Rows → Type 0
AreTried setup stage rows = (row : Row) → IsRow rows row → phase_is_told row.phase ≡ false → failing_ticket stage ≢ Some row.key.ticket
    → row.failures ≤ setup.retries

-- at most that one is excused before
abbrev Excuses : Stage → Stage → Type 0
Excuses old new = (ticket : ℕ) → failing_ticket new ≢ Some ticket → failing_ticket old ≢ Some ticket

none_excused : (old : Stage) → failing_ticket old ≡ None → (ticket : ℕ) → failing_ticket old ≢ Some ticket
none_excused old none ticket e = none_some (sym none ∙ e)

over_excuses_none : (setup : Setup) (s : State) (t : Stage) → EventIsOver setup s t → failing_ticket t ≡ None
over_excuses_none setup s granting over = refl
over_excuses_none setup s telling over = refl
over_excuses_none setup s (checking v) over = refl
over_excuses_none setup s (emptying v) over = refl
over_excuses_none setup s t over = absurd over

-- rows that stay
stay : (setup : Setup) (old new : Stage) (rows : Rows) → AreTried setup old rows → Excuses old new → AreTried setup new rows
stay setup old new rows tried excuses row live untold other = tried row live untold (excuses row.key.ticket other)

-- a row that changes
change_one : (setup : Setup) (old new : Stage) (rows : Rows) (u p : ℕ) (r : Row) (f : Row → Option Row) → AreTried setup old rows → HaveOwnTickets rows
    → StandsAt rows p r → r.key.ticket ≡ u
    → ((w : Row) → f r ≡ Some w → phase_is_told w.phase ≡ false → failing_ticket new ≢ Some w.key.ticket → w.failures ≤ setup.retries)
    → ((ticket : ℕ) → ticket ≢ u → failing_ticket new ≢ Some ticket → failing_ticket old ≢ Some ticket)
    → AreTried setup new (changed u f rows)
change_one setup old new rows u p r f tried own stands named one others row live untold other =
    elim (get-set_cases rows p live.0 (Some r) (f r) (Some row) stands (subst (λ x. StandsAt x live.0 row) (changed_at rows u p r f own stands named) live.1)) [
      | inl e ↦ one row e.1 untold other
      | inr e ↦ tried row (live.0, e.1) untold (others row.key.ticket (λ same. e.0 (own.own live.0 p row r e.1 stands (same ∙ sym named))) other)
    ]

-- the same where the row keeps its failures, and was no more excused than then
keeps_failures : (setup : Setup) (old new : Stage) (rows : Rows) (u p : ℕ) (r : Row) (f : Row → Option Row) → AreTried setup old rows → HaveOwnTickets rows
    → StandsAt rows p r → r.key.ticket ≡ u
    → phase_is_told r.phase ≡ false → failing_ticket old ≢ Some u → ((w : Row) → f r ≡ Some w → w.failures ≡ r.failures) → Excuses old new
    → AreTried setup new (changed u f rows)
keeps_failures setup old new rows u p r f tried own stands named untold_before other_before same excuses =
    change_one setup old new rows u p r f tried own stands named
    (λ w e untold other. subst (λ n. n ≤ setup.retries) (sym (same w e)) (tried r (p, stands) untold_before (λ it. other_before (it ∙ ap Some named))))
    (λ ticket differs other. excuses ticket other)

phase_failures : (r : Row) (phase : Phase) (w : Row) → in_phase phase r ≡ Some w → w.failures ≡ r.failures
phase_failures r phase w e = ap (λ (x : Row). x.failures) (sym (same_Some (record r { phase = phase }) w e))

-- a row that is told, or gone
told_now : (setup : Setup) (old new : Stage) (rows : Rows) (u p : ℕ) (r : Row) (f : Row → Option Row) → AreTried setup old rows → HaveOwnTickets rows
    → StandsAt rows p r → r.key.ticket ≡ u
    → ((w : Row) → f r ≡ Some w → phase_is_told w.phase ≡ true)
    → ((ticket : ℕ) → ticket ≢ u → failing_ticket new ≢ Some ticket → failing_ticket old ≢ Some ticket)
    → AreTried setup new (changed u f rows)
told_now setup old new rows u p r f tried own stands named told others =
    change_one setup old new rows u p r f tried own stands named (λ w e untold other. false_true (sym untold ∙ told w e)) others

in_told : (r : Row) (phase : Phase) → phase_is_told phase ≡ true → (w : Row) → in_phase phase r ≡ Some w → phase_is_told w.phase ≡ true
in_told r phase told w e = subst (λ (x : Row). phase_is_told x.phase ≡ true) (same_Some (record r { phase = phase }) w e) told

loose_untold : (phase : Phase) → phase ≡ Loose → phase_is_told phase ≡ false
loose_untold phase e = ap phase_is_told e

waiting_untold : (phase : Phase) → IsTrue (is_waiting phase) → phase_is_told phase ≡ false
waiting_untold (Waiting q m) waits = refl
waiting_untold Loose waits = false_true waits
waiting_untold (Serving v) waits = false_true waits
waiting_untold (Told c) waits = false_true waits

in_queue_waits : (q : Queue) (phase : Phase) → IsTrue (phase_waits_in q phase) → IsTrue (is_waiting phase)
in_queue_waits q (Waiting other m) waits = refl
in_queue_waits q Loose waits = false_true waits
in_queue_waits q (Serving v) waits = false_true waits
in_queue_waits q (Told c) waits = false_true waits

slot_untold : (v : ℕ) (phase : Phase) → IsTrue (phase_is_served_by v phase) → phase_is_told phase ≡ false
slot_untold v (Serving w) slot = refl
slot_untold v Loose slot = false_true slot
slot_untold v (Waiting q m) slot = false_true slot
slot_untold v (Told c) slot = false_true slot

-- a row that waits isn't the one whose failure the stage deals with, which has a slot or is in no place
grant_excused : (setup : Setup) (s : State) (t : Stage) (u p : ℕ) (r : Row) → IsConsistent s.rows s.ticket t → MayGrant setup s t → StandsAt s.rows p r
    → r.key.ticket ≡ u → IsTrue (is_waiting r.phase) → failing_ticket t ≢ Some u
grant_excused setup s (freed_by_failure t w) u p r is may stands named waits e =
    let it = is.owed t refl in
    let at : it.place ≡ p = is.tickets.own it.place p it.row r it.stands stands (it.named ∙ same_Some t u e ∙ sym named) in
    let same : it.row ≡ r = same_Some it.row r (same_Some (Some it.row) (Some r) (sym it.stands ∙ subst (λ k. StandsAt s.rows k r) (sym at) stands)) in
    false_true (subst (λ phase. is_waiting phase ≡ true) (ap (λ (x : Row). x.phase) (sym same) ∙ it.loose) waits)
grant_excused setup s granting u p r is may stands named waits e = none_some e
grant_excused setup s telling u p r is may stands named waits e = none_some e
grant_excused setup s (checking v) u p r is may stands named waits e = none_some e
grant_excused setup s (emptying v) u p r is may stands named waits e = none_some e
grant_excused setup s t u p r is may stands named waits e = absurd may

grant_excuses : (setup : Setup) (s : State) (t : Stage) (u v : ℕ) (q : Queue) → MayGrant setup s t → Excuses t (next_stage t (Granted u q v))
grant_excuses setup s (freed_by_failure t w) u v q may ticket other e = other e
grant_excuses setup s granting u v q may ticket other e = none_some e
grant_excuses setup s telling u v q may ticket other e = none_some e
grant_excuses setup s (checking w) u v q may ticket other e = none_some e
grant_excuses setup s (emptying w) u v q may ticket other e = none_some e
grant_excuses setup s t u v q may ticket other e = absurd may

-- the failures of a ticket, by its row
failures_at : (rows : Rows) (u p : ℕ) (r : Row) → HaveOwnTickets rows → StandsAt rows p r → r.key.ticket ≡ u → failures_of u rows ≡ r.failures
failures_at rows u p r own stands named = ap (λ (x : Option Row). option_map_or (λ (row : Row). row.failures) x 0) (row_of_at rows u p r own stands named)

retried_few : (setup : Setup) (n : ℕ) → IsTrue (are_retried setup n) → n ≤ setup.retries
retried_few setup n retried = by_spent (are_spent setup n) refl retried
  where
    by_spent : (b : Bool) → are_spent setup n ≡ b → not (b || are_redispatched setup n) ≡ true → n ≤ setup.retries
    by_spent true e it = false_true it
    by_spent false e it = grind (arith, nat_tests)

redispatched_few : (setup : Setup) (n : ℕ) → IsTrue (are_redispatched setup n) → n ≤ setup.retries
redispatched_few setup n redispatched = let same : n ≡ setup.retries =
    (Decides-eqb n setup.retries).0 (and_parts setup.redispatch (n == setup.retries) redispatched).1 in subst (λ k. n ≤ k) same (omega arith)

module _ (setup : Setup) (s : State) where
  -- the placement of a row in no place that was tried no more often than it may be
  put_tried : (t u : ℕ) (old new : Stage) (phase : Phase) → IsConsistent s.rows s.ticket old → AreTried setup old s.rows → (it : IsLoose s.rows t) → u ≡ t
      → it.row.failures ≤ setup.retries
      → ((ticket : ℕ) → ticket ≢ u → failing_ticket new ≢ Some ticket → failing_ticket old ≢ Some ticket)
      → AreTried setup new (changed u (in_phase phase) s.rows)
  put_tried t u old new phase is tried it same few others =
      change_one setup old new s.rows u it.place it.row (in_phase phase) tried is.tickets it.stands (it.named ∙ sym same)
      (λ w e untold other. subst (λ n. n ≤ setup.retries) (sym (phase_failures it.row phase w e)) few) others

  placed_tried : (t : ℕ) (cursor : ℕ) (at : Scene) (pin avoid : Option ℕ) (old : Stage) (e : Entry) → IsConsistent s.rows s.ticket old
      → AreTried setup old s.rows → (it : IsLoose s.rows t) → it.row.failures ≤ setup.retries
      → ((ticket : ℕ) → ticket ≢ t → failing_ticket old ≢ Some ticket) → failing_ticket (next_stage old e) ≡ None → IsPut at cursor pin avoid t e
      → AreTried setup (next_stage old e) (after setup s e).rows
  placed_tried t cursor at pin avoid old (Direct u v) is tried it few others none put =
      put_tried t u old (next_stage old (Direct u v)) (Serving v) is tried it put.0 few (λ ticket differs other. others ticket (λ e. differs (e ∙ sym put.0)))
  placed_tried t cursor at pin avoid old (Joined u q) is tried it few others none put =
      put_tried t u old (next_stage old (Joined u q)) (Waiting q s.moment) is tried it put.0 few
      (λ ticket differs other. others ticket (λ e. differs (e ∙ sym put.0)))
  placed_tried t cursor at pin avoid old (Left u NoServer) is tried it few others none put =
      put_tried t u old (next_stage old (Left u NoServer)) (Told NoServer) is tried it put.0 few
      (λ ticket differs other. others ticket (λ e. differs (e ∙ sym put.0)))
  placed_tried t cursor at pin avoid old e is tried it few others none put = absurd put

  anew_tried : (t w : ℕ) (e : Entry) (n : ℕ) → IsConsistent s.rows s.ticket (freed_by_failure t w) → AreTried setup (freed_by_failure t w) s.rows
      → failing_ticket (next_stage (freed_by_failure t w) e) ≡ None
      → IsTrue (are_redispatched setup (failures_of t s.rows)) → IsPut (scene setup s) s.cursor None (Some w) t e
      → AreTried setup (next_stage (freed_by_failure t w) e) (after setup s e).rows
  anew_tried t w e n is tried none redispatched put =
      let it = is.owed t refl in
      placed_tried t s.cursor (scene setup s) None (Some w) (freed_by_failure t w) e is tried it
      (subst (λ k. k ≤ setup.retries) (failures_at s.rows t it.place it.row is.tickets it.stands it.named) (redispatched_few setup _ redispatched))
      (λ ticket differs same. differs (sym (same_Some t ticket same))) none put

  -- a slot that is given back
  freed_tried : (old new : Stage) (u v : ℕ) → IsConsistent s.rows s.ticket old → AreTried setup old s.rows → HasSlot s.rows u v
      → ((w : Row) → failing_ticket new ≢ Some u → failing_ticket old ≢ Some u) → Excuses old new
      → AreTried setup new (changed u (in_phase Loose) s.rows)
  freed_tried old new u v is tried slot own excuses =
      change_one setup old new s.rows u slot.live.0 slot.row (in_phase Loose) tried is.tickets slot.live.1 slot.named
      (λ w e untold other.
      let ticket : w.key.ticket ≡ u = ap (λ (x : Row). x.key.ticket) (sym (same_Some (record slot.row { phase = Loose }) w e)) ∙ slot.named in
      subst (λ k. k ≤ setup.retries) (sym (phase_failures slot.row Loose w e))
      (tried slot.row slot.live (slot_untold v slot.row.phase slot.phase) (λ it. own w (λ it2. other (it2 ∙ ap Some (sym ticket))) (it ∙ ap Some slot.named))))
      (λ ticket differs other. excuses ticket other)

  -- a row that comes has not failed
  arrived_tried : (t : Stage) (a : Arrival) → IsVacant s.rows a.place → AreTried setup t s.rows → failing_ticket t ≡ None
      → AreTried setup (placing a.ticket) (set s.rows a.place (Some (arrived a)))
  arrived_tried t a vacant tried none row live untold other =
      elim (get-set_cases s.rows a.place live.0 None (Some (arrived a)) (Some row) vacant live.1) [
        | inl e ↦ subst (λ (x : Row). x.failures ≤ setup.retries) (same_Some (arrived a) row e.1) (omega arith)
        | inr e ↦ tried row (live.0, e.1) untold (none_excused t none row.key.ticket)
      ]

  -- a row that is tried again has failed no more often than it may
  retried_tried : (t u k : ℕ) → IsConsistent s.rows s.ticket (failing t) → AreTried setup (failing t) s.rows → u ≡ t → failures_of u s.rows ≡ k
      → IsTrue (are_retried setup k) → AreTried setup granting s.rows
  retried_tried t u k is tried same count retried row live untold other = by_ticket (row.key.ticket == t) refl
    where
      by_ticket : (b : Bool) → (row.key.ticket == t) ≡ b → row.failures ≤ setup.retries
      by_ticket true e =
          let named : row.key.ticket ≡ u = (Decides-eqb row.key.ticket t).0 e ∙ sym same in
          let its : row.failures ≡ k = sym (failures_at s.rows u live.0 row is.tickets live.1 named) ∙ count in
          let few : k ≤ setup.retries = retried_few setup k retried in
          omega (arith, its, few)
      by_ticket false e = tried row live untold
          (λ at. let it : (row.key.ticket == t) ≡ true = (Decides-eqb row.key.ticket t).1 (sym (same_Some t row.key.ticket at)) in cc)

  tried_after : (n : ℕ) (t : Stage) (e : Entry) → IsConsistent s.rows s.ticket t → MayCome (point_of setup s n) t e → AreTried setup t s.rows
      → AreTried setup (next_stage t e) (after setup s e).rows
  tried_after n t (Arrive m a) is may tried = arrived_tried t a may.1.vacant tried (over_excuses_none setup s t may.0.over)
  tried_after n t (Done m u) is may tried =
      stay setup t (returning u) s.rows tried (λ ticket other. none_excused t (over_excuses_none setup s t may.over) ticket)
  tried_after n t (Abort m u) is may tried =
      stay setup t (aborting u) s.rows tried (λ ticket other. none_excused t (over_excuses_none setup s t may.over) ticket)
  tried_after n t (Tick m) is may tried = stay setup t telling s.rows tried (λ ticket other. none_excused t (over_excuses_none setup s t may.over) ticket)
  tried_after n t (Check m v ok) is may tried =
      stay setup t (checking v) s.rows tried (λ ticket other. none_excused t (over_excuses_none setup s t may.over) ticket)
  tried_after n t (Limit m v (Open k)) is may tried =
      stay setup t granting s.rows tried (λ ticket other. none_excused t (over_excuses_none setup s t may.over) ticket)
  tried_after n t (Limit m v Closed) is may tried =
      stay setup t (emptying v) s.rows tried (λ ticket other. none_excused t (over_excuses_none setup s t may.over) ticket)
  tried_after n t (Fail m u) is may tried =
      let it = row_of_accepted (λ phase. not (has_a_slot phase)) setup s n u may.accepted in
      change_one setup t (failing u) s.rows u it.place it.row (failed setup) tried is.tickets it.stands it.named
      (λ w e untold other. absurd (other (ap Some (sym it.named ∙ ap (λ (x : Row). x.key.ticket) (same_Some _ w e)))))
      (λ ticket differs other. none_excused t (over_excuses_none setup s t may.over) ticket)
  tried_after n t (Granted u q v) is may tried =
      let it = may.1 in
      let waits = in_queue_waits q it.row.phase it.waits in
      keeps_failures setup t (next_stage t (Granted u q v)) s.rows u it.live.0 it.row (in_phase (Serving v)) tried is.tickets it.live.1 it.named
      (waiting_untold it.row.phase waits) (grant_excused setup s t u it.live.0 it.row is may.0 it.live.1 it.named waits) (phase_failures it.row (Serving v))
      (grant_excuses setup s t u v q may.0)
  tried_after n (placing t) e is may tried =
      let it = is.owed t refl in
      placed_tried t s.cursor (scene setup s) (pin_of t s.rows) None (placing t) e is tried it
      (tried it.row (it.place, it.stands) (loose_untold it.row.phase it.loose) (λ x. none_some x))
      (λ ticket differs x. none_some x) (placing_none t e may) may
    where
      placing_none : (t : ℕ) (e : Entry) → IsPut (scene setup s) s.cursor (pin_of t s.rows) None t e → failing_ticket (next_stage (placing t) e) ≡ None
      placing_none t (Direct u v) put = refl
      placing_none t (Joined u q) put = refl
      placing_none t (Left u NoServer) put = refl
      placing_none t e put = absurd put
  tried_after n (freed_by_failure t w) (Left u Retries) is may tried =
      let it = is.owed t refl in
      told_now setup (freed_by_failure t w) granting s.rows u it.place it.row (in_phase (Told Retries)) tried is.tickets it.stands (it.named
      ∙ sym may.0) (in_told it.row (Told Retries) refl)
      (λ ticket differs other same. differs (sym (same_Some t ticket same) ∙ sym may.0))
  tried_after n (freed_by_failure t w) (Direct u v) is may tried = anew_tried t w (Direct u v) n is tried refl may.redispatched may.put
  tried_after n (freed_by_failure t w) (Joined u q) is may tried = anew_tried t w (Joined u q) n is tried refl may.redispatched may.put
  tried_after n (freed_by_failure t w) (Left u NoServer) is may tried = anew_tried t w (Left u NoServer) n is tried refl may.redispatched may.put
  tried_after n (freed_by_failure t w) e is may tried = absurd may.put
  tried_after n (returning t) (Freed u v) is may tried =
      freed_tried (returning t) (ending u) u v is tried may.1 (λ w other e. none_some e) (λ ticket other e. none_some e)
  tried_after n (failing t) (Freed u v) is may tried =
      freed_tried (failing t) (freed_by_failure u v) u v is tried may.1 (λ w other e. other refl)
      (λ ticket other e. other (ap Some (may.0 ∙ same_Some t ticket e)))
  tried_after n (failing t) (Retried u v k) is may tried = retried_tried t u k is tried may.0 may.2 may.3
  tried_after n (ending t) (Ended u) is may tried =
      let it = is.owed t refl in
      told_now setup (ending t) granting s.rows u it.place it.row gone tried is.tickets it.stands (it.named
      ∙ sym may) (λ w e. none_some e) (λ ticket differs other e. none_some e)
  tried_after n (returning t) (Ended u) is may tried =
      let told = may.1 in
      told_now setup (returning t) granting s.rows u told.live.0 told.row gone tried is.tickets told.live.1 told.named (λ w e. none_some e)
      (λ ticket differs other e. none_some e)
  tried_after n (aborting t) (Left u Aborted) is may tried =
      let it = may.1 in
      told_now setup (aborting t) granting s.rows u it.live.0 it.row (in_phase (Told Aborted)) tried is.tickets it.live.1 it.named
      (in_told it.row (Told Aborted) refl) (λ ticket differs other e. none_some e)
  tried_after n telling (Left u Timeout) is may tried =
      told_now setup telling telling s.rows u may.expired.0.0 may.row (in_phase (Told Timeout)) tried is.tickets may.expired.0.1 may.named
      (in_told may.row (Told Timeout) refl) (λ ticket differs other e. none_some e)
  tried_after n (checking w) (Health v true) is may tried = stay setup (checking w) granting s.rows tried (λ ticket other e. none_some e)
  tried_after n (checking w) (Health v false) is may tried = stay setup (checking w) (emptying v) s.rows tried (λ ticket other e. none_some e)
  tried_after n (emptying w) (Moved u v) is may tried =
      let it = may.2 in
      keeps_failures setup (emptying w) (emptying v) s.rows u it.live.0 it.row (in_backend_since s.moment) tried is.tickets it.live.1 it.named
      (waiting_untold it.row.phase (in_queue_waits (Server v) it.row.phase it.waits)) (λ e. none_some e)
      (λ x e. ap (λ (y : Row). y.failures) (sym (same_Some (record it.row { pin = None; phase = Waiting Backend s.moment }) x e)))
      (λ ticket other e. none_some e)
  tried_after n t e is may tried = absurd may

pub tried_all : (here : Point) (t : Stage) (es : List Entry) → IsConsistent here.state.rows here.state.ticket t → AllMayCome here t es
    → AreTried here.setup t here.state.rows → AreTried here.setup (stage_after t es) (after_all here.setup here.state es).rows
tried_all here t [] is all tried = tried
tried_all here t (e ∷ es) is all tried =
    tried_all (next_point here e) (next_stage t e) es (consistent_after here t e is all.0) all.1
    (tried_after here.setup here.state here.used t e is all.0 tried)

-- where an event may begin nothing is excused
pub tried_over : (setup : Setup) (s : State) (t : Stage) → AreTried setup t s.rows → EventIsOver setup s t → (row : Row) → IsRow s.rows row
    → phase_is_told row.phase ≡ false → row.failures ≤ setup.retries
tried_over setup s t tried over row live untold = tried row live untold (none_excused t (over_excuses_none setup s t over) row.key.ticket)
