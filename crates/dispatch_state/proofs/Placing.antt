-- A history that goes on by an entry, and the entry of a request's placement.
use Rattle.std.proofs.Common.{◌≡◌, ℕ, ◌+◌, ◌≤◌, false, [], ◌∷◌, Option, None, length}
use Rattle.std.proofs.Common.{refl, ap, sym, ◌∙◌, subst, arith, length-append}
use Rattle.std.proofs.lemmas.Bool.Decides.{nat_tests}
use Rattle.std.proofs.lemmas.List.Sums.{count_by-le-length}
use Rattle.base_verdict.specs.declared.cause.Cause.TheVariants.{NoServer}
use Rattle.log_entries.specs.declared.entry.Arrival.{Arrival}
use Rattle.log_entries.specs.declared.entry.Entry.{Entry}
use Rattle.log_entries.specs.declared.entry.Entry.TheVariants.{Arrive, Direct, Joined, Left}
use Rattle.log_entries.specs.declared.queue.Queue.TheVariants.{Backend, Server}
use Rattle.log_entries.specs.declared.setup.Setup.{Setup}
use Rattle.log_entries.specs.Histories.{History, state_of, refuses_arrival, end_of}
use Rattle.log_entries.specs.Judgement.{Stage, placing, granting, EventIsOver, MayGrant, IsPut, MayCome, next_stage}
use Rattle.log_entries.specs.Refusals.{lacks_room}
use Rattle.log_entries.specs.Rows.{pin_of}
use Rattle.log_entries.specs.States.{State}
use Rattle.log_entries.proofs.Accepted.{arrival_tests}
use Rattle.log_entries.proofs.Judged.{stage_after-push, places_all}
use Rattle.server_pick.specs.declared.placement.Placement.{Placement}
use Rattle.server_pick.specs.declared.placement.Placement.TheVariants.{Slot, OwnQueue, BackendQueue, Nowhere}
use Rattle.server_pick.specs.Picked.{IsPlacement}
use Rattle.dispatch_state.specs.Histories.{with_entry, stage_of, scene_of, HasPlaces, row_waits, waiting_of}
use Rattle.dispatch_state.specs.Histories.{IsOverNext, HasEntryRoom, MayGrantNext, MayComeNext, MayPut}

pub same_setup : (h next : History) (e : Entry) → next ≡ with_entry h e → next.setup ≡ h.setup
same_setup h next e goes = ap (λ (x : History). x.setup) goes

pub longer : (h next : History) (e : Entry) → next ≡ with_entry h e → length next.log ≡ length h.log + 1
longer h next e goes = ap (λ (x : History). length x.log) goes ∙ length-append h.log (e ∷ [])

pub same_base : (h next : History) (e : Entry) → next ≡ with_entry h e → next.base ≡ h.base
same_base h next e goes = ap (λ (x : History). x.base) goes

-- a history has the places of its setup, and goes on with them
pub places_on : (h next : History) → next.setup ≡ h.setup → next.base ≡ h.base → HasPlaces h → HasPlaces next
places_on h next setup base has =
    places_all next.setup next.base next.log ∙ ap (λ (s : State). length s.rows) base ∙ sym (places_all h.setup h.base h.log) ∙ has
    ∙ ap (λ (s : Setup). s.places) (sym setup)

pub places_next : (h next : History) (e : Entry) → next ≡ with_entry h e → HasPlaces h → HasPlaces next
places_next h next e goes = places_on h next (same_setup h next e goes) (same_base h next e goes)

-- no more requests wait than there are places
pub few_wait : (h : History) → HasPlaces h → waiting_of h ≤ h.setup.places
few_wait h has = let few = count_by-le-length row_waits (state_of h).rows in omega (arith, few, has)

-- between events nothing is owed but grants, which may come
pub over_granting : (h : History) → stage_of h ≡ granting → IsOverNext h
over_granting h stage = subst (λ (t : Stage). EventIsOver h.setup (state_of h) t) (sym stage) tt

pub may_granting : (h : History) → stage_of h ≡ granting → MayGrantNext h
may_granting h stage = subst (λ (t : Stage). MayGrant h.setup (state_of h) t) (sym stage) tt

-- what isn't refused for a full log has room for an event
pub has_room : (h : History) → lacks_room h.setup (length h.log) ≡ false → HasEntryRoom h
has_room h fits = grind (arith, nat_tests)

-- and for a newcomer's placement and grants after it
pub arrival_room : (h one two : History) (m : ℕ) (a : Arrival) (pin : Option ℕ) (e : Entry) → HasPlaces h → refuses_arrival h pin ≡ None
    → one ≡ with_entry h (Arrive m a) → two ≡ with_entry one e → length two.log + waiting_of two ≤ two.setup.log
arrival_room h one two m a pin e has accepted begun placed =
    let room = has_room h (arrival_tests _ _ _ _ accepted).0 in
    let first = longer h one (Arrive m a) begun in
    let second = longer one two e placed in
    let few = few_wait two (places_next one two e placed (places_next h one (Arrive m a) begun has)) in
    let setup = same_setup one two e placed ∙ same_setup h one (Arrive m a) begun in
    let places : two.setup.places ≡ h.setup.places = ap (λ (s : Setup). s.places) setup in
    let most : two.setup.log ≡ h.setup.log = ap (λ (s : Setup). s.log) setup in
    omega arith

-- a newcomer is placed next
pub arrival_places : (h one : History) (m : ℕ) (a : Arrival) → one ≡ with_entry h (Arrive m a) → stage_of one ≡ placing a.ticket
arrival_places h one m a begun = ap stage_of begun ∙ stage_after-push granting h.log (Arrive m a)

-- where its pin lets it
pub newcomer_put : (h : History) (t : ℕ) (pin : Option ℕ) → stage_of h ≡ placing t → pin_of t (state_of h).rows ≡ pin → MayPut h pin None t
newcomer_put h t pin stage its e put =
    subst (λ (x : Stage). MayCome (end_of h) x e × (next_stage x e ≡ granting)) (sym stage)
    (placed e (subst (λ (p : Option ℕ). IsPut (scene_of h) (state_of h).cursor p None t e) (sym its) put))
  where
    placed : (e : Entry) → IsPut (scene_of h) (state_of h).cursor (pin_of t (state_of h).rows) None t e
        → MayCome (end_of h) (placing t) e × (next_stage (placing t) e ≡ granting)
    placed (Direct u v) may = (may, refl)
    placed (Joined u q) may = (may, refl)
    placed (Left u NoServer) may = (may, refl)
    placed e may = absurd may

-- the entry of a placement
abbrev pub entry_of : ℕ → Placement → Entry
entry_of t (Slot server) = Direct t server
entry_of t (OwnQueue server) = Joined t (Server server)
entry_of t BackendQueue = Joined t Backend
entry_of t Nowhere = Left t NoServer

module _ (h : History) (pin avoid : Option ℕ) (t : ℕ) (given p : Placement) (may : MayPut h pin avoid t)
    (placed : IsPlacement (scene_of h) (state_of h).cursor pin avoid given) (is : given ≡ p) where
  put : IsPut (scene_of h) (state_of h).cursor pin avoid t (entry_of t p)
  put = put_is p (subst (λ (x : Placement). IsPlacement (scene_of h) (state_of h).cursor pin avoid x) is placed)
    where
      put_is : (p : Placement) → IsPlacement (scene_of h) (state_of h).cursor pin avoid p
          → IsPut (scene_of h) (state_of h).cursor pin avoid t (entry_of t p)
      put_is (Slot server) there = (refl, there)
      put_is (OwnQueue server) there = (refl, there)
      put_is BackendQueue there = (refl, there)
      put_is Nowhere there = (refl, there)

  -- it may come, and ends what its event owes of it
  pub may_place : MayComeNext h (entry_of t p)
  may_place = (may (entry_of t p) put).0

  pub placed_stage : (next : History) → next ≡ with_entry h (entry_of t p) → stage_of next ≡ granting
  placed_stage next goes = ap stage_of goes ∙ stage_after-push granting h.log (entry_of t p) ∙ (may (entry_of t p) put).1
