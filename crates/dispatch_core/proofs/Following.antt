-- What follows from a check, as entries.
use Rattle.std.proofs.Common.{◌≡◌, ℕ, ◌+◌, ◌≤◌, Bool, true, false, [], ◌∷◌, ◌++◌, length, refl, ap, sym, ◌∙◌, subst, arith}
use Rattle.check_state.specs.declared.health.Change.{Change}
use Rattle.check_state.specs.declared.health.Change.TheVariants.{Stay, WentDown, WentUp}
use Rattle.check_state.specs.Standing.{change_between}
use Rattle.log_entries.specs.declared.entry.Entry.TheVariants.{Health}
use Rattle.log_entries.specs.declared.setup.Setup.{Setup}
use Rattle.log_entries.specs.Histories.{History, state_of, end_of}
use Rattle.log_entries.specs.Judgement.{Stage, checking, emptying, granting, EventIsOver, MayGrant, MayCome, was_up}
use Rattle.log_entries.specs.Scenes.{is_up}
use Rattle.log_entries.proofs.Judged.{stage_after-push}
use Rattle.dispatch_core.specs.Steps.{GoesOn, CarriesOn, MovesAll, HasEventRoom, HasMoveRoom}
use Rattle.dispatch_state.specs.Histories.{with_entry, stage_of, scene_of, waiting_of, MayComeNext}
use Rattle.dispatch_core.proofs.Going.{goes_none, goes_entry, goes_then, room_left, carries}
use Rattle.dispatch_state.proofs.Placing.{longer, same_setup, places_next, few_wait}

-- what a change says of before and after
stay_same : (a b : Bool) → Stay ≡ change_between a b → a ≡ b
stay_same true true e = refl
stay_same false false e = refl
stay_same true false e = cc
stay_same false true e = cc

up_both : (a b : Bool) → WentUp ≡ change_between a b → (a ≡ false) × (b ≡ true)
up_both true true e = cc
up_both false false e = cc
up_both true false e = cc
up_both false true e = (refl, refl)

down_both : (a b : Bool) → WentDown ≡ change_between a b → (a ≡ true) × (b ≡ false)
down_both true true e = cc
down_both false false e = cc
down_both true false e = (refl, refl)
down_both false true e = cc

module _ (h : History) (server : ℕ) (stage : stage_of h ≡ checking server) where
  abbrev was : Bool
  was = was_up h.setup (state_of h) server

  abbrev now : Bool
  now = is_up (scene_of h) server

  -- nothing changed
  pub carries_stay : (change : Change) → change ≡ change_between was now → change ≡ Stay → HasEventRoom h → CarriesOn h h
  carries_stay change is stays room =
      let same : was ≡ now = stay_same was now (sym stays ∙ is) in
      record {
        goes = goes_none h;
        over = subst (λ (t : Stage). EventIsOver h.setup (state_of h) t) (sym stage) same;
        may_grant = subst (λ (t : Stage). MayGrant h.setup (state_of h) t) (sym stage) same;
        room = room_left h h (goes_none h) 0 (omega arith) (omega arith) room.places;
      }

  -- the server went up
  pub may_tell_up : (change : Change) → change ≡ change_between was now → change ≡ WentUp → MayComeNext h (Health server true)
  may_tell_up change is goes =
      let both = up_both was now (sym goes ∙ is) in
      subst (λ (t : Stage). MayCome (end_of h) t (Health server true)) (sym stage)
      (refl, both.1, λ (e : was ≡ true). let no : false ≡ true = sym both.0 ∙ e in cc)

  pub carries_up : (one : History) → one ≡ with_entry h (Health server true) → HasEventRoom h → CarriesOn h one
  carries_up one goes room =
      carries h one (goes_entry h one (Health server true) goes refl) 1 (ap stage_of goes ∙ stage_after-push granting h.log (Health server true))
      (omega arith) (omega arith) room.places

  -- it went down
  pub went_down : (change : Change) → change ≡ change_between was now → change ≡ WentDown → (was ≡ true) × (now ≡ false)
  went_down change is goes = down_both was now (sym goes ∙ is)

  pub may_tell_down : was ≡ true → now ≡ false → MayComeNext h (Health server false)
  may_tell_down before down =
      subst (λ (t : Stage). MayCome (end_of h) t (Health server false)) (sym stage)
      (refl, down, λ (e : was ≡ false). let no : true ≡ false = sym before ∙ e in cc)

  module _ (one : History) (goes : one ≡ with_entry h (Health server false)) where
    pub fallen_stage : stage_of one ≡ emptying server
    fallen_stage = ap stage_of goes ∙ stage_after-push granting h.log (Health server false)

    pub fallen_room : HasEventRoom h → HasMoveRoom one
    fallen_room has =
        let room = has.room in
        let longer = longer h one (Health server false) goes in
        let setup = same_setup h one (Health server false) goes in
        let places : one.setup.places ≡ h.setup.places = ap (λ (s : Setup). s.places) setup in
        let most : one.setup.log ≡ h.setup.log = ap (λ (s : Setup). s.log) setup in
        record { room = omega arith; places = places_next h one (Health server false) goes has.places }

    pub carries_fall : (two : History) → CarriesOn one two → CarriesOn h two
    carries_fall two carried = record {
      goes = goes_then h one two (goes_entry h one (Health server false) goes refl) carried.goes;
      over = carried.over;
      may_grant = carried.may_grant;
      room = carried.room;
    }

-- a server that takes no request any more: its own are moved, or wait on
module _ (h : History) (server : ℕ) (stage : stage_of h ≡ emptying server) (has : HasMoveRoom h) where
  pub moves_fit : length h.log + waiting_of h ≤ h.setup.log
  moves_fit = let room = has.room in room_left h h (goes_none h) 0 (omega arith) (omega arith) has.places

  pub carries_unmoved : h.setup.redispatch ≡ false → CarriesOn h h
  carries_unmoved stays =
      let over : EventIsOver h.setup (state_of h) (emptying server) = λ moves row live waits. (let no : false ≡ true = sym stays ∙ moves in cc) in
      record {
        goes = goes_none h;
        over = subst (λ (t : Stage). EventIsOver h.setup (state_of h) t) (sym stage) over;
        may_grant = subst (λ (t : Stage). MayGrant h.setup (state_of h) t) (sym stage) over;
        room = moves_fit;
      }

  pub carries_moved : (two : History) → MovesAll server h two → CarriesOn h two
  carries_moved two moves =
      let over : EventIsOver two.setup (state_of two) (emptying server) = λ moved row live waits. moves.none row live waits in
      record {
        goes = moves.goes;
        over = subst (λ (t : Stage). EventIsOver two.setup (state_of two) t) (sym moves.stage) over;
        may_grant = subst (λ (t : Stage). MayGrant two.setup (state_of two) t) (sym moves.stage) over;
        room =
            let few = moves.few in
            let waiting = few_wait h has.places in
            let room = has.room in
            room_left h two moves.goes h.setup.places (omega arith) (omega arith) has.places;
      }

-- and a new limit
pub event_moves : (h : History) → HasEventRoom h → HasMoveRoom h
event_moves h has = record { room = (let room = has.room in omega arith); places = has.places }

pub carries_open : (h : History) → stage_of h ≡ granting → HasEventRoom h → CarriesOn h h
carries_open h stage has = let room = has.room in carries h h (goes_none h) 0 stage (omega arith) (omega arith) has.places
