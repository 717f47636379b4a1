-- The calls of a core as compositions of entries.
use Rattle.std.proofs.Common.{◌≡◌, ℕ, ◌+◌, ◌≤◌, true, false, [], ◌∷◌, ◌++◌, Option, None, Some, is_none, option_map}
use Rattle.std.proofs.Common.{length, refl, ap, sym, ◌∙◌, subst, arith}
use Rattle.std.specs.Option.{option_map_or, option_and_then}
use Rattle.std.proofs.lemmas.Bool.Decides.{Decides-eqb}
use Rattle.log_entries.specs.declared.entry.Entry.{Entry}
use Rattle.log_entries.specs.declared.entry.Entry.TheVariants.{Done, Freed, Ended}
use Rattle.server_pick.specs.declared.placement.Placement.{Placement}
use Rattle.server_pick.specs.declared.placement.Placement.TheVariants.{Slot, OwnQueue, BackendQueue, Nowhere}
use Rattle.server_pick.specs.Picked.{IsPlacement}
use Rattle.log_entries.specs.declared.row.Phase.{Phase}
use Rattle.log_entries.specs.declared.row.Phase.TheVariants.{Loose, Waiting, Serving, Told}
use Rattle.log_entries.specs.declared.row.Row.{Row}
use Rattle.log_entries.specs.declared.setup.Setup.{Setup}
use Rattle.log_entries.specs.Dispatch.{IsDispatched}
use Rattle.log_entries.specs.Histories.{History, first_window, state_of, begins_event, refuses_done, start_of, end_of}
use Rattle.log_entries.specs.Legal.{IsLegal, AddsEvent}
use Rattle.log_entries.specs.Judgement.{Stage, returning, ending, granting, MayCome, next_stage, HasSlot, IsTold}
use Rattle.log_entries.specs.Refusals.{is_waiting, lacks_room}
use Rattle.log_entries.specs.Rows.{StandsAt, row_of, server_in, phase_is_served_by, phase_is_told}
use Rattle.log_entries.specs.States.{State, after, point_of}
use Rattle.log_entries.proofs.Accepted.{row_of_found, ticket_tests}
use Rattle.log_entries.proofs.Consistency.{IsConsistent}
use Rattle.log_entries.proofs.Dispatched.{dispatched, base_consistent}
use Rattle.log_entries.proofs.Runs.{first_legal, adds_legally}
use Rattle.log_entries.proofs.Judged.{after_all-push, stage_after-push, over_none, consistent_all, places_all}
use Rattle.dispatch_core.specs.Steps.{IsReturn, PlacesRequest, Leaves, Settles}
use Rattle.dispatch_state.specs.Histories.{with_entry, stage_of, scene_of, waiting_of, HasPlaces, MayComeNext, MayPut, IsFound}
use Rattle.dispatch_state.proofs.Placing.{entry_of, placed_stage}
use Rattle.dispatch_core.proofs.Going.{goes_entry, goes_more, room_left, begun_room, adds}
use Rattle.dispatch_state.proofs.Placing.{has_room, over_granting}
use Rattle.dispatch_core.proofs.Standing.{of_ticket}
use Rattle.dispatch_state.specs.declared.position.Ticketed.{Ticketed}

-- an entry may come after another
pub may_next : (h : History) (e next : Entry) (t : Stage) → next_stage (stage_of h) e ≡ t
    → MayCome (point_of h.setup (after h.setup (state_of h) e) (length (h.log ++ e ∷ []))) t next → MayComeNext (with_entry h e) next
may_next h e next t stage may =
    subst (λ (s : State). MayCome (point_of h.setup s (length (h.log ++ e ∷ []))) (stage_of (with_entry h e)) next)
    (sym (after_all-push h.setup h.base h.log e))
    (subst (λ (x : Stage). MayCome (point_of h.setup (after h.setup (state_of h) e) (length (h.log ++ e ∷ []))) x next)
    (sym (stage_after-push granting h.log e ∙ stage)) may)

-- the states of a legal log are consistent
pub legal_consistent : (h : History) → IsLegal h → IsConsistent (state_of h).rows (state_of h).ticket (stage_of h)
legal_consistent h legal = consistent_all (start_of h) granting h.log (base_consistent h.setup h.base legal.begins) legal.lawful.judged

-- no row of a legal log is in no place
pub none_loose : (h : History) (row : Row) (p : ℕ) → IsLegal h → StandsAt (state_of h).rows p row → row.phase ≡ Loose → ⊥
none_loose h row p legal stands loose =
    let no : None ≡ Some row.key.ticket = sym (over_none h.setup (state_of h) (stage_of h) legal.lawful.whole)
    ∙ (legal_consistent h legal).loose p row stands loose in
    cc

-- a ticket that may be done has a slot, or was told that it isn't served
return_of : (h : History) (t : ℕ) (row : Row) → IsLegal h → row_of t (state_of h).rows ≡ Some row → is_waiting row.phase ≡ false → (phase : Phase)
    → row.phase ≡ phase → IsReturn (state_of h).rows t (server_in phase)
return_of h t row legal at rests Loose e =
    let s = row_of_found (state_of h).rows t row at in
    absurd (none_loose h row s.place legal s.stands e)
return_of h t row legal at rests (Waiting queue since) e = let no : true ≡ false = ap is_waiting (sym e) ∙ rests in cc
return_of h t row legal at rests (Serving server) e =
    let s = row_of_found (state_of h).rows t row at in
    record { row = row; live = (s.place, s.stands); named = s.named; phase = ap (phase_is_served_by server) e ∙ (Decides-eqb server server).1 refl }
return_of h t row legal at rests (Told cause) e =
    let s = row_of_found (state_of h).rows t row at in
    record { row = row; live = (s.place, s.stands); named = s.named; phase = ap phase_is_told e }

pub done_returns : (h : History) (t : ℕ) → IsLegal h → refuses_done h t ≡ None
    → IsReturn (state_of h).rows t (option_and_then server_in (option_map (λ row. row.phase) (row_of t (state_of h).rows)))
done_returns h t legal accepted = by_row (row_of t (state_of h).rows) refl (ticket_tests _ _ _ accepted)
  where
    by_row : (r : Option Row) → row_of t (state_of h).rows ≡ r → (lacks_room h.setup (length h.log) ≡ false) × (is_none r ≡ false)
        × (option_map_or (λ it. is_waiting it.phase) r false ≡ false)
        → IsReturn (state_of h).rows t (option_and_then server_in (option_map (λ row. row.phase) r))
    by_row None at tests = cc
    by_row (Some row) at tests = return_of h t row legal at tests.2 row.phase refl

-- the same once the return has begun
pub begun_returns : (h one : History) (m t : ℕ) (server : Option ℕ) → one ≡ with_entry h (Done m t) → IsReturn (state_of h).rows t server
    → IsReturn (state_of one).rows t server
begun_returns h one m t server begun is =
    subst (λ (x : History). IsReturn (state_of x).rows t server) (sym begun)
    (subst (λ (s : State). IsReturn s.rows t server) (sym (after_all-push h.setup h.base h.log (Done m t))) is)

pub begun_stage : (h one : History) (m t : ℕ) → one ≡ with_entry h (Done m t) → stage_of one ≡ returning t
begun_stage h one m t begun = ap stage_of begun ∙ stage_after-push granting h.log (Done m t)

-- a slot may be given back, and then its request ends
pub may_free : (h : History) (t server : ℕ) → stage_of h ≡ returning t → HasSlot (state_of h).rows t server → MayComeNext h (Freed t server)
may_free h t server stage has = subst (λ (x : Stage). MayCome (end_of h) x (Freed t server)) (sym stage) (refl, has)

pub may_end_told : (h : History) (t : ℕ) → stage_of h ≡ returning t → IsTold (state_of h).rows t → MayComeNext h (Ended t)
may_end_told h t stage told = subst (λ (x : Stage). MayCome (end_of h) x (Ended t)) (sym stage) (refl, told)

pub freed_ends : (one two : History) (t server : ℕ) → stage_of one ≡ returning t → two ≡ with_entry one (Freed t server) → MayComeNext two (Ended t)
freed_ends one two t server stage freed =
    subst (λ (x : History). MayComeNext x (Ended t)) (sym freed)
    (may_next one (Freed t server) (Ended t) (ending t) (ap (λ (x : Stage). next_stage x (Freed t server)) stage) refl)

-- what ends a return
pub gives_back : (one two three : History) (t server : ℕ) → two ≡ with_entry one (Freed t server) → three ≡ with_entry two (Ended t)
    → Leaves one three
gives_back one two three t server freed ended = record {
  goes = goes_more one two three (Ended t) (goes_entry one two (Freed t server) freed refl) ended refl;
  few = omega arith;
  over = ap stage_of ended ∙ stage_after-push granting two.log (Ended t);
}

pub ends_told : (one two : History) (t : ℕ) → two ≡ with_entry one (Ended t) → Leaves one two
ends_told one two t ended = record {
  goes = goes_entry one two (Ended t) ended refl;
  few = omega arith;
  over = ap stage_of ended ∙ stage_after-push granting one.log (Ended t);
}

-- a legal log has the places of its setup
pub legal_places : (h : History) → IsLegal h → HasPlaces h
legal_places h legal = places_all h.setup h.base h.log ∙ legal.begins.places

-- after it there is room for grants
module _ (h one two : History) (m t : ℕ) (it : Ticketed) (found : IsFound (state_of h).rows t it) where
  pub done_settles : IsLegal h → refuses_done h t ≡ None → one ≡ with_entry h (Done m it.ticket) → Leaves one two
      → length two.log + waiting_of two ≤ two.setup.log
  done_settles legal accepted begun is =
      let begun_with = begun_room h one (Done m it.ticket) (has_room h (ticket_tests _ _ _ accepted).0) (legal_places h legal) begun in
      let room = begun_with.room in
      room_left one two is.goes 2 is.few (omega arith) begun_with.places

  -- and with them the event is whole
  pub done_adds : (now : History) → one ≡ with_entry h (Done m it.ticket) → Leaves one two → Settles two now → AddsEvent h now (Done m t)
  done_adds now begun is settled =
      adds h one two now (Done m t) refl (of_ticket h one (λ n. Done m n) t it found begun) is.goes (over_granting two is.over) settled

no_event : (t : ℕ) (p : Placement) → begins_event (entry_of t p) ≡ false
no_event t (Slot server) = refl
no_event t (OwnQueue server) = refl
no_event t BackendQueue = refl
no_event t Nowhere = refl

-- a request is placed by that entry
pub places : (h next : History) (pin avoid : Option ℕ) (t : ℕ) (given p : Placement) → MayPut h pin avoid t
    → IsPlacement (scene_of h) (state_of h).cursor pin avoid given → given ≡ p → next ≡ with_entry h (entry_of t p) → PlacesRequest h next
places h next pin avoid t given p may placed is goes = record {
  placement = entry_of t p;
  placed = goes;
  over = placed_stage h pin avoid t given p may placed is next goes;
  one_event = no_event t p;
}

-- what is legal after an event is dispatched
pub added_dispatched : (h now : History) (event : Entry) → IsLegal h → AddsEvent h now event → IsDispatched now
added_dispatched h now event legal added = dispatched now (adds_legally h now event legal added)

-- a core without an entry is legal
pub new_legal : (h : History) (setup : Setup) → h ≡ first_window setup [] → IsLegal h
new_legal h setup new = subst IsLegal (sym new) (first_legal setup)
