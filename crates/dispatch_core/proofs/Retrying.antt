-- The calls of a failure as compositions of entries.
use Rattle.std.proofs.Common.{◌≡◌, ℕ, ◌+◌, ◌<◌, ◌≤◌, not, cond, Bool, true, [], ◌∷◌, ◌++◌, Option, None, Some}
use Rattle.std.proofs.Common.{option_map, IsTrue, length, refl, ap, sym, ◌∙◌, subst, arith, length-append, inl, inr}
use Rattle.std.specs.Option.{option_map_or, option_and_then}
use Rattle.std.proofs.Math.ListN.{set}
use Rattle.std.proofs.lemmas.Bool.Decides.{Decides-eqb}
use Rattle.base_verdict.specs.declared.cause.Cause.TheVariants.{Retries, NoServer}
use Rattle.log_entries.specs.declared.entry.Entry.{Entry}
use Rattle.log_entries.specs.declared.entry.Entry.TheVariants.{Fail, Direct, Joined, Freed, Retried, Left}
use Rattle.log_entries.specs.declared.row.Phase.{Phase}
use Rattle.log_entries.specs.declared.row.Phase.TheVariants.{Loose, Waiting, Serving, Told}
use Rattle.log_entries.specs.declared.row.Row.{Row}
use Rattle.log_entries.specs.declared.setup.Setup.{Setup}
use Rattle.log_entries.specs.Histories.{History, state_of, refuses_failure, end_of}
use Rattle.log_entries.specs.Legal.{IsLegal}
use Rattle.log_entries.specs.Judgement.{IsPut, Stage, failing, freed_by_failure, granting, MayGrant, MayCome, next_stage, HasSlot}
use Rattle.log_entries.specs.Refusals.{has_a_slot}
use Rattle.log_entries.specs.Retries.{are_spent, are_redispatched, failed_row, failed}
use Rattle.log_entries.specs.Rows.{Rows, StandsAt, changed, in_phase, row_of, server_in, phase_is_served_by, pin_of, failures_of}
use Rattle.log_entries.specs.States.{State}
use Rattle.std.proofs.lemmas.Option.{same_Some}
use Rattle.log_entries.proofs.Accepted.{Accepted, row_of_accepted}
use Rattle.log_entries.proofs.Judged.{after_all-push, stage_after-push}
use Rattle.base_lists.proofs.Places.{get-set_same, get-set_cases}
use Rattle.log_entries.proofs.RowLemmas.{HaveOwnTickets, changed_at, row_of_at}
use Rattle.dispatch_core.specs.Steps.{GoesOn, CarriesOn, PlacesRequest, Settles, HasEventRoom}
use Rattle.dispatch_state.specs.Histories.{scene_of, with_entry, stage_of, waiting_of, MayComeNext, MayGrantNext, MayPut, IsFound}
use Rattle.dispatch_core.proofs.Calls.{legal_consistent, legal_places}
use Rattle.dispatch_core.proofs.Dismissals.{ticket_room}
use Rattle.dispatch_core.proofs.Going.{goes_entry, goes_then, goes_more, goes_places, goes_long, room_left, begun_room, carries}
use Rattle.dispatch_state.proofs.Placing.{same_setup, places_next, few_wait}
use Rattle.dispatch_state.specs.declared.position.Ticketed.{Ticketed}
use Rattle.dispatch_core.proofs.Phases.{failures_stay, pins_stay}

pub carries_retry : (h one : History) (t server k : ℕ) → stage_of h ≡ failing t → one ≡ with_entry h (Retried t server k) → HasEventRoom h
    → CarriesOn h one
carries_retry h one t server k stage goes room =
    carries h one (goes_entry h one (Retried t server k) goes refl) 1
    (ap stage_of goes ∙ stage_after-push granting h.log (Retried t server k) ∙ ap (λ (x : Stage). next_stage x (Retried t server k)) stage)
    (omega arith) (omega arith) room.places

module _ (one two : History) (t server : ℕ) (stage : stage_of one ≡ failing t) (freed : two ≡ with_entry one (Freed t server)) where
  pub freed_stage : stage_of two ≡ freed_by_failure t server
  freed_stage = ap stage_of freed ∙ stage_after-push granting one.log (Freed t server) ∙ ap (λ (x : Stage). next_stage x (Freed t server)) stage

  freed_rows : (state_of two).rows ≡ changed t (in_phase Loose) (state_of one).rows
  freed_rows =
      ap (λ (x : History). (state_of x).rows) freed
      ∙ ap (λ (s : State). s.rows) (after_all-push one.setup one.base one.log (Freed t server))

  pub freed_failures : failures_of t (state_of two).rows ≡ failures_of t (state_of one).rows
  freed_failures = ap (failures_of t) freed_rows ∙ failures_stay t t Loose (state_of one).rows

  pub freed_pin : pin_of t (state_of two).rows ≡ pin_of t (state_of one).rows
  freed_pin = ap (pin_of t) freed_rows ∙ pins_stay t t Loose (state_of one).rows

  freed_setup : two.setup ≡ one.setup
  freed_setup = same_setup one two (Freed t server) freed

  -- its retries are spent
  pub may_tell_spent : are_spent one.setup (failures_of t (state_of one).rows) ≡ true → MayComeNext two (Left t Retries)
  may_tell_spent spent =
      subst (λ (x : Stage). MayCome (end_of two) x (Left t Retries)) (sym freed_stage) (
        refl,
        subst (λ (s : Setup). are_spent s (failures_of t (state_of two).rows) ≡ true) (sym freed_setup)
            (subst (λ n. are_spent one.setup n ≡ true) (sym freed_failures) spent),
      )

  pub carries_spent : (three : History) → three ≡ with_entry two (Left t Retries) → HasEventRoom one → CarriesOn one three
  carries_spent three told room =
      carries one three (goes_more one two three (Left t Retries) (goes_entry one two (Freed t server) freed refl) told refl) 2
      (ap stage_of told ∙ stage_after-push granting two.log (Left t Retries) ∙ ap (λ (x : Stage). next_stage x (Left t Retries)) freed_stage)
      (omega arith) (omega arith) room.places

  -- it is redispatched: others may take its slot first
  pub may_grant_redispatched : are_redispatched one.setup (failures_of t (state_of one).rows) ≡ true → MayGrantNext two
  may_grant_redispatched goes =
      subst (λ (x : Stage). MayGrant two.setup (state_of two) x) (sym freed_stage)
      (subst (λ (s : Setup). are_redispatched s (failures_of t (state_of two).rows) ≡ true) (sym freed_setup)
      (subst (λ n. are_redispatched one.setup n ≡ true) (sym freed_failures) goes))

  pub redispatch_room : HasEventRoom one → length two.log + waiting_of two ≤ two.setup.log
  redispatch_room room = room_left one two (goes_entry one two (Freed t server) freed refl) 1 (omega arith) (omega arith) room.places

  module _ (three : History) (settled : Settles two three) where
    settled_stage : stage_of three ≡ freed_by_failure t server
    settled_stage = settled.freed_by_failure t server freed_stage

    again : IsTrue (are_redispatched three.setup (failures_of t (state_of three).rows))
    again = subst (λ (x : Stage). MayGrant three.setup (state_of three) x) settled_stage settled.may_grant

    -- and once all is settled it may be put anew
    pub redispatch_put : MayPut three None (Some server) t
    redispatch_put e put =
        subst (λ (x : Stage). MayCome (end_of three) x e × (next_stage x e ≡ granting)) (sym settled_stage)
        (placed e put)
      where
        placed : (e : Entry) → IsPut (scene_of three) (state_of three).cursor None (Some server) t e
            → MayCome (end_of three) (freed_by_failure t server) e × (next_stage (freed_by_failure t server) e ≡ granting)
        placed (Direct u v) put = (record { redispatched = again; settled = settled.settled; put = put }, refl)
        placed (Joined u q) put = (record { redispatched = again; settled = settled.settled; put = put }, refl)
        placed (Left u NoServer) put = (record { redispatched = again; settled = settled.settled; put = put }, refl)
        placed e put = absurd put

    pub redispatch_pin : pin_of t (state_of one).rows ≡ None → pin_of t (state_of three).rows ≡ None
    redispatch_pin none = settled.pins t ∙ freed_pin ∙ none

    abbrev settled_goes : GoesOn one three
    settled_goes = goes_then one two three (goes_entry one two (Freed t server) freed refl) settled.goes

    settled_few : HasEventRoom one → length settled_goes.entries ≤ one.setup.places + 1
    settled_few room =
        let long : length (Freed t server ∷ [] ++ settled.goes.entries) ≡ length settled.goes.entries + 1 = omega arith in
        let few = settled.few in
        let waiting = few_wait two (places_next one two (Freed t server) freed room.places) in
        let places : two.setup.places ≡ one.setup.places = ap (λ (s : Setup). s.places) freed_setup in
        omega arith

    pub place_room : HasEventRoom one → length three.log < three.setup.log
    place_room room =
        let long = goes_long one three settled_goes in
        let few = settled_few room in
        let most : three.setup.log ≡ one.setup.log = ap (λ (s : Setup). s.log) settled_goes.setup in
        omega arith

    pub carries_redispatch : (four : History) → PlacesRequest three four → HasEventRoom one → CarriesOn one four
    carries_redispatch four placed room =
        let few = settled_few room in
        let long : length (settled_goes.entries ++ placed.placement ∷ []) ≡ length settled_goes.entries + 1 =
        length-append settled_goes.entries (placed.placement ∷ []) in
        carries one four (goes_then one three four settled_goes (goes_places three four placed)) (one.setup.places + 2) placed.over (omega arith)
        (omega arith) room.places

-- a row under the same ticket
pub own_kept : (rows : Rows) (p : ℕ) (r s : Row) → HaveOwnTickets rows → StandsAt rows p r → s.key.ticket ≡ r.key.ticket
    → HaveOwnTickets (set rows p (Some s))
own_kept rows p r s own stands same =
    record { own = λ k l u v a b e. let x = before k u a in let y = before l v b in own.own k l x.0 y.0 x.1 y.1 (x.2 ∙ e ∙ sym y.2) }
  where
    before : (k : ℕ) (u : Row) → StandsAt (set rows p (Some s)) k u → (w : Row) × StandsAt rows k w × (w.key.ticket ≡ u.key.ticket)
    before k u there =
        elim (get-set_cases rows p k (Some r) (Some s) (Some u) stands there) [
          | inl e ↦ (r, subst (λ n. StandsAt rows n r) (sym e.0) stands, sym same ∙ ap (λ (x : Row). x.key.ticket) (same_Some s u e.1))
          | inr e ↦ (u, e.1, refl)
        ]

-- ---- the event itself

served_server : (phase : Phase) (server : ℕ) → server_in phase ≡ Some server → phase ≡ Serving server
served_server (Serving v) server e = ap Serving (same_Some v server e)
served_server Loose server e = cc
served_server (Waiting q m) server e = cc
served_server (Told c) server e = cc

module _ (h one : History) (m ticket : ℕ) (it : Ticketed) (legal : IsLegal h) (found : IsFound (state_of h).rows ticket it)
    (given : refuses_failure h ticket ≡ None) (begun : one ≡ with_entry h (Fail m it.ticket)) where
  abbrev t : ℕ
  t = it.ticket

  accepted : refuses_failure h t ≡ None
  accepted = subst (λ n. refuses_failure h n ≡ None) (sym found.named) given

  its : Accepted (λ phase. not (has_a_slot phase)) (state_of h).rows t
  its = row_of_accepted (λ phase. not (has_a_slot phase)) h.setup (state_of h) (length h.log) t accepted

  own : HaveOwnTickets (state_of h).rows
  own = (legal_consistent h legal).tickets

  begun_rows : (state_of one).rows ≡ set (state_of h).rows its.place (Some (failed_row h.setup its.row))
  begun_rows =
      ap (λ (x : History). (state_of x).rows) begun ∙ ap (λ (s : State). s.rows) (after_all-push h.setup h.base h.log (Fail m t))
      ∙ changed_at (state_of h).rows t its.place its.row (failed h.setup) own its.stands its.named

  begun_stands : StandsAt (state_of one).rows its.place (failed_row h.setup its.row)
  begun_stands =
      subst (λ (r : Rows). StandsAt r its.place (failed_row h.setup its.row)) (sym begun_rows)
      (get-set_same (state_of h).rows its.place (Some its.row) (Some (failed_row h.setup its.row)) its.stands)

  begun_own : HaveOwnTickets (state_of one).rows
  begun_own = subst HaveOwnTickets (sym begun_rows) (own_kept (state_of h).rows its.place its.row (failed_row h.setup its.row) own its.stands refl)

  begun_row : row_of t (state_of one).rows ≡ Some (failed_row h.setup its.row)
  begun_row = row_of_at (state_of one).rows t its.place (failed_row h.setup its.row) begun_own begun_stands its.named

  pub failure_stage : stage_of one ≡ failing t
  failure_stage = ap stage_of begun ∙ stage_after-push granting h.log (Fail m t)

  begun_setup : one.setup ≡ h.setup
  begun_setup = same_setup h one (Fail m t) begun

  -- it has its slot
  pub failure_slot : (server : ℕ) → option_and_then server_in (option_map (λ row. row.phase) (row_of t (state_of h).rows)) ≡ Some server
      → HasSlot (state_of one).rows t server
  failure_slot server at =
      let phase : its.row.phase ≡ Serving server =
      served_server its.row.phase server (sym (ap (λ (o : Option Row). option_and_then server_in (option_map (λ (r : Row). r.phase) o)) its.found)
      ∙ at) in
      record {
        row =
            failed_row h.setup its.row;
        live = (its.place, begun_stands);
        named = its.named;
        phase = ap (phase_is_served_by server) phase
            ∙ (Decides-eqb server server).1 refl;
      }

  -- no server is its own any more where it is redispatched
  pub failure_pin : (k : ℕ) → failures_of t (state_of one).rows ≡ k → are_redispatched one.setup k ≡ true → pin_of t (state_of one).rows ≡ None
  failure_pin k count goes =
      let counted : its.row.failures + 1 ≡ k = sym (ap (λ (o : Option Row). option_map_or (λ (r : Row). r.failures) o 0) begun_row) ∙ count in
      let again : are_redispatched h.setup (its.row.failures + 1) ≡ true = subst (λ n. are_redispatched h.setup n ≡ true) (sym counted)
      (subst (λ (s : Setup). are_redispatched s k ≡ true) begun_setup goes) in
      ap (option_and_then (λ (r : Row). r.pin)) begun_row ∙ ap (λ (b : Bool). cond {A = Option ℕ} b None its.row.pin) again

  pub failure_room : HasEventRoom one
  failure_room = begun_room h one (Fail m t) (ticket_room (λ phase. not (has_a_slot phase)) h t accepted) (legal_places h legal) begun
