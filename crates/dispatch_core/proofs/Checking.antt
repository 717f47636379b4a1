-- Checks on a state, and what they change.
use Rattle.std.proofs.Common.{◌≡◌, ℕ, ◌<◌, nat_le, not, Bool, false, List, [], ◌∷◌, ◌++◌, Option, None, Some, is_some, slice_get}
use Rattle.std.proofs.Common.{slice_index_or, All, length, replicate, refl, ap, sym, ◌∙◌, subst, arith}
use Rattle.std.specs.Option.{option_map_or}
use Rattle.std.proofs.lemmas.List.Elements.{All-head, All-tail}
use Rattle.std.proofs.lemmas.Option.{slice_get_within, slice_get-get_or}
use Rattle.check_state.specs.declared.health.Change.{Change}
use Rattle.check_state.specs.Standing.{Standing, change_between}
use Rattle.log_entries.specs.declared.entry.Entry.{Entry}
use Rattle.log_entries.specs.declared.entry.Entry.TheVariants.{Arrive, Done, Fail, Abort, Tick, Check, Limit}
use Rattle.log_entries.specs.declared.entry.Entry.TheVariants.{Direct, Joined, Granted, Moved, Freed, Retried, Left}
use Rattle.log_entries.specs.declared.entry.Entry.TheVariants.{Health, Ended}
use Rattle.log_entries.specs.declared.refusal.Refusal.TheVariants.{LogFull, NoSuchServer, WrongPhase}
use Rattle.log_entries.specs.declared.setup.ServerSet.{ServerSet}
use Rattle.log_entries.specs.declared.setup.Setup.{Setup}
use Rattle.log_entries.specs.Health.{is_up_by, results_of, with_result, without_last}
use Rattle.log_entries.proofs.Runs.{adds_legally, after_on}
use Rattle.log_entries.proofs.Windows.{opening_base}
use Rattle.log_entries.specs.Histories.{History, first_window, state_of, begins_event, refuses_check}
use Rattle.log_entries.specs.Legal.{IsBase, IsLegal, AddsEvent}
use Rattle.log_entries.specs.Judgement.{checking, granting, was_up}
use Rattle.log_entries.specs.Refusals.{lacks_room, is_checked}
use Rattle.log_entries.specs.States.{State, after, after_all, opening_state}
use Rattle.log_entries.specs.Scenes.{is_up}
use Rattle.log_entries.proofs.Accepted.{none_refuses}
use Rattle.log_entries.proofs.Judged.{after_all-push, stage_after-push}
use Rattle.pend_queue.specs.Held.{Held}
use Rattle.dispatch_core.specs.Checks.{AreHealths, IsHealthBy, IsCore, IsSpare}
use Rattle.dispatch_core.specs.Steps.{HasEventRoom}
use Rattle.dispatch_state.specs.LoggedStates.{is_up_at}
use Rattle.dispatch_state.specs.Histories.{with_entry, stage_of, scene_of}
use Rattle.dispatch_core.proofs.Calls.{new_legal, legal_places}
use Rattle.dispatch_core.proofs.Going.{begun_room}
use Rattle.dispatch_state.proofs.Placing.{has_room}
use Rattle.dispatch_state.proofs.Placing.{same_setup}
use Rattle.dispatch_core.proofs.Healthy.{up_at, results_set}
use Rattle.dispatch_state.proofs.Healthy.{many_results}

-- inside an event no result comes
no_result : (setup : Setup) (s : State) (e : Entry) → begins_event e ≡ false → (after setup s e).results ≡ s.results
no_result setup s (Arrive m a) inside = cc
no_result setup s (Done m u) inside = cc
no_result setup s (Fail m u) inside = cc
no_result setup s (Abort m u) inside = cc
no_result setup s (Tick m) inside = cc
no_result setup s (Check m v ok) inside = cc
no_result setup s (Limit m v k) inside = cc
no_result setup s (Direct u v) inside = refl
no_result setup s (Joined u q) inside = refl
no_result setup s (Granted u q v) inside = refl
no_result setup s (Moved u v) inside = refl
no_result setup s (Freed u v) inside = refl
no_result setup s (Retried u v k) inside = refl
no_result setup s (Left u c) inside = refl
no_result setup s (Health v up) inside = refl
no_result setup s (Ended u) inside = refl

no_results : (setup : Setup) (s : State) (es : List Entry) → All (λ entry. begins_event entry ≡ false) es → (after_all setup s es).results ≡ s.results
no_results setup s [] inside = refl
no_results setup s (e ∷ es) inside =
    no_results setup (after setup s e) es (All-tail (λ (entry : Entry). begins_event entry ≡ false) e es inside)
    ∙ no_result setup s e (All-head (λ (entry : Entry). begins_event entry ≡ false) e es inside)

-- the results after an event are those that its first entry left
results_added : (h now : History) (event : Entry) → AddsEvent h now event → (state_of now).results ≡ (after h.setup (state_of h) event).results
results_added h now event added =
    ap (λ (s : Setup). (after_all s now.base now.log).results) added.setup
    ∙ ap (λ (s : State). (after_all h.setup s now.log).results) added.base
    ∙ ap (λ (l : List Entry). (after_all h.setup h.base l).results) added.log
    ∙ ap (λ (s : State). s.results) (after_on h.setup h.base h.log (event ∷ added.brought))
    ∙ no_results h.setup (after h.setup (state_of h) event) added.brought added.one_event

-- a base of a setup is as long as one
pub spare_base : (setup : Setup) (base : State) → IsBase setup base → IsSpare setup base
spare_base setup base is = record { rows = is.places; results = is.checked; limits = is.limited }

-- a core after an event
pub core_goes : (h now : History) (event : Entry) (healths next : List (Option Standing)) (expiring ready : Held ℕ ℕ) {spare : State}
    → IsCore h healths expiring spare
    → AddsEvent h now event
    → AreHealths h.setup.servers (after h.setup (state_of h) event).results next → ready.pairs ≡ [] → ready.room ≡ expiring.room
    → IsCore now next ready spare
core_goes h now event healths next expiring ready {spare} is added healthy none kept = record {
  legal = adds_legally h now event is.legal added;
  healthy =
      subst (λ (l : List (List Bool)). AreHealths now.setup.servers l next) (sym (results_added h now event added))
      (subst (λ (s : Setup). AreHealths s.servers (after h.setup (state_of h) event).results next) (sym added.setup) healthy);
  none = none;
  places =
      let places : now.setup.places ≡ h.setup.places = ap (λ (s : Setup). s.places) added.setup in
      let enough = is.places in
      omega arith;
  spared = subst (λ (s : Setup). IsSpare s spare) (sym added.setup) is.spared;
}

-- where the event is no check, the healths stay
pub core_kept : (h now : History) (event : Entry) (healths : List (Option Standing)) (expiring ready : Held ℕ ℕ) {spare : State}
    → IsCore h healths expiring spare
    → AddsEvent h now event
    → (after h.setup (state_of h) event).results ≡ (state_of h).results → ready.pairs ≡ [] → ready.room ≡ expiring.room → IsCore now healths ready spare
core_kept h now event healths expiring ready {spare} is added same none kept =
    core_goes h now event healths healths expiring ready is added
    (subst (λ (l : List (List Bool)). AreHealths h.setup.servers l healths) (sym same) is.healthy) none kept

-- a core without an entry
pub core_new : (h : History) (setup : Setup) (healths : List (Option Standing)) (expiring : Held ℕ ℕ) (spare : State) → h ≡ first_window setup []
    → AreHealths setup.servers (replicate (length setup.servers) []) healths → expiring.pairs ≡ [] → expiring.room ≡ setup.places
    → spare ≡ opening_state setup → IsCore h healths expiring spare
core_new h setup healths expiring spare new are none places spared = record {
  legal = new_legal h setup new;
  healthy = subst (λ (x : History). AreHealths x.setup.servers (state_of x).results healths) (sym new) are;
  none = none;
  places =
      let made : h.setup.places ≡ setup.places = ap (λ (x : History). x.setup.places) new in
      omega arith;
  spared = subst (λ (x : History). IsSpare x.setup spare) (sym new)
      (subst (IsSpare setup) (sym spared) (spare_base setup (opening_state setup) (opening_base setup)));
}

-- what a check that nothing refuses may count on
pub record Checked (h : History) (server : ℕ) : Type 0 where
  pub room : lacks_room h.setup (length h.log) ≡ false
  pub it : ServerSet
  pub stands : slice_get h.setup.servers server ≡ Some it
  pub rise_fall : ℕ × ℕ
  pub checked : it.rise_fall ≡ Some rise_fall

pub check_accepted : (h : History) (server : ℕ) → refuses_check h server ≡ None → Checked h server
check_accepted h server e =
    let first = none_refuses (lacks_room h.setup (length h.log)) LogFull
    ((nat_le (length h.setup.servers) server, NoSuchServer) ∷ (not (is_checked h.setup server), WrongPhase) ∷ []) e in
    let second = none_refuses (nat_le (length h.setup.servers) server) NoSuchServer ((not (is_checked h.setup server), WrongPhase) ∷ []) first.1 in
    let third = none_refuses (not (is_checked h.setup server)) WrongPhase [] second.1 in
    by_server first.0 (slice_get h.setup.servers server) refl third.0
  where
    by_rise : lacks_room h.setup (length h.log) ≡ false → (it : ServerSet) → slice_get h.setup.servers server ≡ Some it → (r : Option (ℕ × ℕ))
        → it.rise_fall ≡ r → not (is_some r) ≡ false → Checked h server
    by_rise room it stands None is none = cc
    by_rise room it stands (Some both) is some = record { room = room; it = it; stands = stands; rise_fall = both; checked = is }

    by_server : lacks_room h.setup (length h.log) ≡ false → (it : Option ServerSet) → slice_get h.setup.servers server ≡ it
        → not (option_map_or (λ (x : ServerSet). is_some x.rise_fall) it false) ≡ false → Checked h server
    by_server room None stands none = cc
    by_server room (Some it) stands some = by_rise room it stands it.rise_fall refl some

pub checked_within : (h : History) (server : ℕ) → refuses_check h server ≡ None → server < length h.setup.servers
checked_within h server accepted = let it = check_accepted h server accepted in slice_get_within h.setup.servers server it.it it.stands

-- a server that is checked has a health
pub has_health : (h : History) (server : ℕ) (results : List (List Bool)) (healths : List (Option Standing)) → refuses_check h server ≡ None
    → AreHealths h.setup.servers results healths → (standing : Standing) × (slice_get healths server ≡ Some (Some standing))
has_health h server results healths accepted are =
    let it = check_accepted h server accepted in
    let is = subst (λ (r : Option (ℕ × ℕ)). IsHealthBy r (results_of results server) (slice_index_or healths server None)) it.checked
    (are.each server it.it it.stands) in
    let within : server < length healths = (let a = checked_within h server accepted in let b = are.each_one in omega arith) in
    (is.0, slice_get-get_or healths server None within ∙ ap Some is.1)

-- whether a server was up before its last result
without_push : (l : List Bool) (b : Bool) → without_last (l ++ b ∷ []) ≡ l
without_push [] b = refl
without_push (x ∷ []) b = refl
without_push (x ∷ y ∷ l) b = ap (λ (r : List Bool). x ∷ r) (without_push (y ∷ l) b)

module _ (h one : History) (m server : ℕ) (ok : Bool) (legal : IsLegal h) (accepted : refuses_check h server ≡ None)
    (begun : one ≡ with_entry h (Check m server ok)) where
  checked_setup : one.setup ≡ h.setup
  checked_setup = same_setup h one (Check m server ok) begun

  checked_results : (state_of one).results ≡ with_result server ok (state_of h).results
  checked_results =
      ap (λ (x : History). (state_of x).results) begun
      ∙ ap (λ (s : State). s.results) (after_all-push h.setup h.base h.log (Check m server ok))

  pub check_stage : stage_of one ≡ checking server
  check_stage = ap stage_of begun ∙ stage_after-push granting h.log (Check m server ok)

  pub was_up_is : was_up one.setup (state_of one) server ≡ is_up_at h.setup.servers (state_of h).results server
  was_up_is =
      let it = check_accepted h server accepted in
      let long : server < length (state_of h).results = (let a = checked_within h server accepted in let b = many_results h legal.begins in omega arith) in
      ap (λ (s : Setup). was_up s (state_of one) server) checked_setup
      ∙ ap (λ (x : Option ServerSet). option_map_or (λ (y : ServerSet). is_up_by y.rise_fall (without_last (results_of (state_of one).results server))) x
      false) it.stands
      ∙ ap (λ (l : List (List Bool)). is_up_by it.it.rise_fall (without_last (results_of l server))) checked_results
      ∙ ap (λ (l : List Bool). is_up_by it.it.rise_fall (without_last l)) (results_set (state_of h).results server ok long)
      ∙ ap (λ (l : List Bool). is_up_by it.it.rise_fall l) (without_push (results_of (state_of h).results server) ok)
      ∙ sym (up_at h.setup.servers (state_of h).results server it.it it.stands)

  pub is_up_is : is_up (scene_of one) server ≡ is_up_at h.setup.servers (with_result server ok (state_of h).results) server
  is_up_is =
      ap (λ (s : Setup). is_up_at s.servers (state_of one).results server) checked_setup
      ∙ ap (λ (l : List (List Bool)). is_up_at h.setup.servers l server) checked_results

  pub check_change : (change : Change)
      → change ≡ change_between (is_up_at h.setup.servers (state_of h).results server)
      (is_up_at h.setup.servers (with_result server ok (state_of h).results) server)
      → change ≡ change_between (was_up one.setup (state_of one) server) (is_up (scene_of one) server)
  check_change change is =
      is ∙ ap (λ b. change_between b (is_up_at h.setup.servers (with_result server ok (state_of h).results) server)) (sym was_up_is)
      ∙ ap (change_between (was_up one.setup (state_of one) server)) (sym is_up_is)

  pub check_within : server < length one.setup.servers
  check_within = subst (λ (s : Setup). server < length s.servers) (sym checked_setup) (checked_within h server accepted)

  pub check_room : HasEventRoom one
  check_room = begun_room h one (Check m server ok) (has_room h (check_accepted h server accepted).room) (legal_places h legal) begun
