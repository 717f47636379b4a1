-- Placements and picks.
use Rattle.std.proofs.Common.{◌≡◌, ℕ, ◌+◌, ◌<◌, ◌==◌, nat_lt, ◌||◌, ◌&&◌, Bool, true, false, Option, None}
use Rattle.std.proofs.Common.{Some, MatchOption, length, slice_get, ◌↔◌, refl, sym, ◌∙◌, subst, arith, inl, inr}
use Rattle.std.specs.Option.{option_map_or}
use Rattle.std.proofs.lemmas.Bool.Decides.{nat_tests, Decides-eqb}
use Rattle.std.proofs.lemmas.Option.{same_Some}
use Rattle.log_entries.specs.declared.allowance.Intake.{Intake}
use Rattle.log_entries.specs.declared.allowance.Intake.TheVariants.{Open, Closed}
use Rattle.log_entries.specs.declared.queue.Queue.TheVariants.{Server}
use Rattle.log_entries.specs.declared.setup.ServerSet.{ServerSet}
use Rattle.log_entries.specs.Picks.{IsPick}
use Rattle.log_entries.specs.Placement.{IsCandidate, IsChosen}
use Rattle.log_entries.specs.Rows.{served, queued}
use Rattle.log_entries.specs.States.{cursor_after_placing}
use Rattle.log_entries.specs.Scenes.{Scene, of_server, is_up, is_usable, is_free, has_room, takes_pinned, working_pin, limit_of, is_open, serves_beside, holds_beside}
use Rattle.base_lists.proofs.Places.{same_or_other}
use Rattle.log_entries.proofs.Choices.{there as server_there}
use Rattle.server_pick.specs.Order.{HasRoomBut}
use Rattle.server_pick.specs.Picked.{IsPlacement, cursor_placed, placed_on}
use Rattle.server_pick.specs.Sets.{IsIn}
use Rattle.base_lists.proofs.Both.{and_second}

pub usable_within : (scene : Scene) (server : ℕ) → is_usable scene server ≡ true → server < length scene.servers
usable_within scene server usable = server_there scene server (λ it. nat_lt 0 it.weight) (and_second (is_up scene server) _ usable)

-- a server with room takes its pinned requests
pub room_takes : (scene : Scene) (server : ℕ) → has_room scene server ≡ true → takes_pinned scene server ≡ true
room_takes scene server room = by_up (is_up scene server) room
  where
    by_server : (limit : Intake) (it : Option ServerSet)
        → option_map_or (λ (x : ServerSet). holds_beside limit x.maxqueue (served server scene.rows + queued (Server server) scene.rows)) it false ≡ true
        → is_open limit && (option_map_or (λ (x : ServerSet). serves_beside limit (served server scene.rows)) it false || option_map_or
        (λ (x : ServerSet). (x.maxqueue == 0) || nat_lt (queued (Server server) scene.rows) x.maxqueue) it false) ≡ true
    by_server limit None e = cc
    by_server (Open limit) (Some x) e = grind (arith, nat_tests)
    by_server Closed (Some x) e = cc

    by_up : (up : Bool)
        → (up && of_server scene server (λ it. nat_lt 0 it.weight)) && of_server scene server
        (λ it. holds_beside (limit_of scene server) it.maxqueue (served server scene.rows + queued (Server server) scene.rows))
        ≡ true
        → up && is_open (limit_of scene server) && (is_free scene server || of_server scene server (λ it. (it.maxqueue == 0) || nat_lt (queued (Server server) scene.rows) it.maxqueue)) ≡ true
    by_up true e = by_server (limit_of scene server) (slice_get scene.servers server) (and_second (of_server scene server (λ it. nat_lt 0 it.weight)) _ e)
    by_up false e = cc

-- where no server is a candidate, none has room
pub none_has_room : (scene : Scene) (avoid : Option ℕ) → ((server : ℕ) → IsCandidate scene avoid server → ⊥) → (server : ℕ) → has_room scene server ≡ true → ⊥
none_has_room scene avoid none server room = none server (
  room,
  λ avoids other its. elim (same_or_other other server) [
    | inl e ↦ e
    | inr e ↦ absurd (none other (its, λ avoided. absurd (e (same_Some other server (sym avoided ∙ avoids)))))
  ],
)

-- the candidates are those with room but the avoided one, and where there are none of these the avoided one
pub candidate_others : (scene : Scene) (avoid : Option ℕ) (server : ℕ) → ((other : ℕ) × HasRoomBut scene avoid other)
    → HasRoomBut scene avoid server ↔ IsCandidate scene avoid server
candidate_others scene avoid server some = (
  (λ has. (has.0, λ avoids. absurd (has.1 avoids))),
  (λ candidate. (
    candidate.0,
    λ avoids.
        let same : some.0 ≡ server = candidate.1 avoids some.0 some.1.0 in
        some.1.1 (subst (λ k. avoid ≡ Some k) (sym same) avoids),
  )),
)

pub candidate_left : (scene : Scene) (avoid : Option ℕ) (own server : ℕ) → avoid ≡ Some own → has_room scene own ≡ true
    → ((other : ℕ) → HasRoomBut scene avoid other → ⊥) → (server ≡ own) ↔ IsCandidate scene avoid server
candidate_left scene avoid own server avoids room none = (
  (λ e. (subst (λ k. has_room scene k ≡ true) (sym e) room, λ same other its. alone other its ∙ sym e)),
  (λ candidate. alone server candidate.0),
)
  where
    alone : (other : ℕ) → has_room scene other ≡ true → other ≡ own
    alone other its = elim (same_or_other other own) [
      | inl e ↦ e
      | inr e ↦ absurd (none other (its, λ avoided. e (same_Some other own (sym avoided ∙ avoids))))
    ]

-- where the avoided one has no room, or there is none, they are those with room but it
pub candidate_none : (scene : Scene) (avoid : Option ℕ) (server : ℕ) → ((own : ℕ) → avoid ≡ Some own → has_room scene own ≡ true → ⊥)
    → HasRoomBut scene avoid server ↔ IsCandidate scene avoid server
candidate_none scene avoid server none = (
  (λ has. (has.0, λ avoids. absurd (has.1 avoids))),
  (λ candidate. (candidate.0, λ avoids. none server avoids candidate.0)),
)

-- picks of equal sets
pub pick_same : (scene : Scene) (cursor : ℕ) (among others : ℕ → Type 0) (server : ℕ) → ((k : ℕ) → among k ↔ others k) → IsPick scene cursor among server
    → IsPick scene cursor others server
pick_same scene cursor among others server same is = record {
  member = (same server).0 is.member;
  least = λ other own. is.least other ((same other).1 own);
  nearest = λ other own least. is.nearest other ((same other).1 own) (λ third its. least third ((same third).0 its));
}

-- a server that was chosen is where the request is put
pub chosen_placed : (scene : Scene) (cursor : ℕ) (pin avoid : Option ℕ) (server : ℕ) → IsChosen scene cursor pin avoid server
    → IsPlacement scene cursor pin avoid (placed_on scene server)
chosen_placed scene cursor pin avoid server chosen = by_test (is_free scene server) refl
  where
    by_test : (b : Bool) → is_free scene server ≡ b → IsPlacement scene cursor pin avoid (placed_on scene server)
    by_test true e = rw e (chosen, e)
    by_test false e = rw e (chosen, λ free. let no : false ≡ true = sym e ∙ free in cc)

pub picked_placed : (scene : Scene) (cursor : ℕ) (pin avoid : Option ℕ) (set : ℕ) (server : ℕ) → working_pin scene pin ≡ None
    → ((k : ℕ) → IsIn set k ↔ IsCandidate scene avoid k) → IsPick scene cursor (IsIn set) server → IsPlacement scene cursor pin avoid (placed_on scene server)
picked_placed scene cursor pin avoid set server none same is =
    chosen_placed scene cursor pin avoid server
    (subst (λ (w : Option ℕ). MatchOption w (IsPick scene cursor (IsCandidate scene avoid) server) (λ own. own ≡ server)) (sym none)
    (pick_same scene cursor (IsIn set) (IsCandidate scene avoid) server same is))

-- a pick is none of a pin
pub cursor_picked : (scene : Scene) (cursor now : ℕ) (pin : Option ℕ) (server : ℕ) → working_pin scene pin ≡ None → has_room scene server ≡ true → now ≡ server
    → now ≡ cursor_placed pin (placed_on scene server) cursor
cursor_picked scene cursor now pin server none room moved = moved ∙ by_free (is_free scene server) refl
  where
    by_pin : (p : Option ℕ) → working_pin scene p ≡ None → server ≡ cursor_after_placing server p cursor
    by_pin None e = refl
    by_pin (Some own) e = by_same (own == server) refl
      where
        by_same : (b : Bool) → (own == server) ≡ b → server ≡ cursor_after_placing server (Some own) cursor
        by_same false t = rw t refl
        by_same true t =
            let same : own ≡ server = (Decides-eqb own server).0 t in
            let takes : takes_pinned scene own ≡ true = room_takes scene own (subst (λ k. has_room scene k ≡ true) (sym same) room) in
            let works : working_pin scene (Some own) ≡ Some own = rw takes refl in
            let no : None ≡ Some own = sym e ∙ works in
            cc

    by_free : (b : Bool) → is_free scene server ≡ b → server ≡ cursor_placed pin (placed_on scene server) cursor
    by_free true t = rw t (by_pin pin none)
    by_free false t = rw t (by_pin pin none)
