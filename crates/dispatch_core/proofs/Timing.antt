-- Ticks, from one timeout to the next.
use Rattle.std.proofs.Common.{IsTrue, max, ◌≡◌, ◌≢◌, ℕ, ◌+◌, ◌<◌, ◌≤◌, ◌==◌, Bool, true, false, List, []}
use Rattle.std.proofs.Common.{◌∷◌, Option, None, Some, option_map, slice_get, drop, count_by, Contains, length, refl, ap, sym, ◌∙◌, subst, arith}
use Rattle.std.proofs.Common.{nat_cmp, Equal, Greater, inl, inr}
use Rattle.std.proofs.Math.ListN.{set}
use Rattle.std.proofs.lemmas.Bool.{true≢false}
use Rattle.std.proofs.lemmas.Bool.Decides.{nat_tests, Decides-eqb}
use Rattle.std.proofs.lemmas.Cmp.{nat_cmp_total}
use Rattle.std.proofs.lemmas.Option.{same_Some, slice_get-map}
use Rattle.log_entries.specs.declared.entry.Entry.TheVariants.{Tick, Left}
use Rattle.base_verdict.specs.declared.cause.Cause.TheVariants.{Timeout}
use Rattle.log_entries.specs.declared.row.Phase.{Phase}
use Rattle.log_entries.specs.declared.row.Phase.TheVariants.{Told}
use Rattle.log_entries.specs.declared.row.Row.{Row}
use Rattle.log_entries.specs.declared.setup.Setup.{Setup}
use Rattle.log_entries.specs.Histories.{History, SomeExpires, state_of, effective, end_of}
use Rattle.log_entries.specs.Legal.{IsLegal, AddsEvent}
use Rattle.log_entries.specs.Judgement.{Stage, telling, granting, HasExpired, IsExpired, IsFirstExpired, IsInPhase, EventIsOver, MayGrant, MayCome, next_stage}
use Rattle.log_entries.specs.Refusals.{is_waiting}
use Rattle.log_entries.specs.Rows.{Rows, StandsAt, with_change, changed, in_phase}
use Rattle.log_entries.specs.Grants.{IsSettled}
use Rattle.log_entries.specs.States.{State, scene}
use Rattle.log_entries.specs.Scenes.{Scene}
use Rattle.log_entries.proofs.Judged.{after_all-push, stage_after-push}
use Rattle.base_lists.proofs.Places.{tally, count-set, nil_from_first}
use Rattle.base_lists.proofs.Never.{false_true}
use Rattle.log_entries.proofs.RowLemmas.{with_change_own, with_change_other}
use Rattle.pend_queue.specs.Pairs.{IsAscending}
use Rattle.pend_queue.proofs.Ascending.{least_first, absent_from_rest, absent_at_member}
use Rattle.base_lists.proofs.Members.{Contains-nil, Contains-head, Contains-tail, Contains-cases}
use Rattle.dispatch_core.specs.Steps.{GoesOn, CarriesOn}
use Rattle.dispatch_state.specs.Histories.{with_entry, stage_of, scene_of, row_waits, waiting_of, IsJudged, MayComeNext, HasEntryRoom, IsTicketAt}
use Rattle.dispatch_state.specs.Timeouts.{AreExpired}
use Rattle.dispatch_core.proofs.Going.{goes_none, goes_more, room_left, begun_room}
use Rattle.dispatch_state.proofs.Placing.{longer, same_setup, same_base}
use Rattle.log_entries.proofs.Runs.{adds_piece}
use Rattle.dispatch_core.proofs.Calls.{legal_places}
use Rattle.dispatch_state.proofs.Expiring.{expired_since}

told_not_expired : (setup : Setup) (now : ℕ) (r : Row) (phase : Phase) → HasExpired setup now r.phase → r.phase ≡ phase → is_waiting phase ≡ false
    → ⊥
told_not_expired setup now r phase expired same idle =
    let it = expired_since setup now r.phase expired in
    true≢false (sym (ap is_waiting (sym same ∙ it.waits)) ∙ idle)

-- once a ticket is told, the rows that have expired are the other ones that had
module _ (setup : Setup) (rows : Rows) (now t : ℕ) (phase : Phase) (idle : is_waiting phase ≡ false) where
  still_expired : (p : ℕ) (r : Row) → StandsAt (changed t (in_phase phase) rows) p r → HasExpired setup now r.phase
      → StandsAt rows p r × (r.key.ticket ≢ t)
  still_expired p r stands expired = by_cell (slice_get rows p) refl (sym (slice_get-map (with_change t (in_phase phase)) rows p) ∙ stands)
    where
      by_row : (old : Row) (b : Bool) → (old.key.ticket == t) ≡ b → slice_get rows p ≡ Some (Some old)
          → with_change t (in_phase phase) (Some old) ≡ Some r → StandsAt rows p r × (r.key.ticket ≢ t)
      by_row old true test at is =
          let own = with_change_own t (in_phase phase) old ((Decides-eqb old.key.ticket t).0 test) in
          let told : record old { phase = phase } ≡ r = same_Some (record old { phase = phase }) r (sym own ∙ is) in
          absurd (told_not_expired setup now r phase expired (ap (λ (x : Row). x.phase) (sym told)) idle)
      by_row old false test at is =
          let other : old.key.ticket ≢ t = λ same. false_true (sym test ∙ (Decides-eqb old.key.ticket t).1 same) in
          let kept : old ≡ r = same_Some old r (sym (with_change_other t (in_phase phase) old other) ∙ is) in
          (at ∙ ap (λ (x : Row). Some (Some x)) kept, subst (λ (x : Row). x.key.ticket ≢ t) kept other)

      by_cell : (cell : Option (Option Row)) → slice_get rows p ≡ cell → option_map (with_change t (in_phase phase)) cell ≡ Some (Some r)
          → StandsAt rows p r × (r.key.ticket ≢ t)
      by_cell None at is = cc
      by_cell (Some None) at is = cc
      by_cell (Some (Some old)) at is = by_row old (old.key.ticket == t) refl at (same_Some (with_change t (in_phase phase) (Some old)) (Some r) is)

  other_stands : (p : ℕ) (r : Row) → StandsAt rows p r → r.key.ticket ≢ t → StandsAt (changed t (in_phase phase) rows) p r
  other_stands p r stands other =
      slice_get-map (with_change t (in_phase phase)) rows p ∙ ap (option_map (with_change t (in_phase phase))) stands
      ∙ ap Some (with_change_other t (in_phase phase) r other)

-- a request that waits is counted
some_waits : (rows : Rows) (t : ℕ) → IsInPhase is_waiting rows t → 0 < count_by row_waits rows
some_waits rows t it =
    let count : count_by row_waits (set rows it.live.0 None) + tally (row_waits (Some it.row)) ≡ count_by row_waits rows + tally (row_waits None) =
    count-set row_waits rows it.live.0 (Some it.row) None it.live.1 in
    let one : tally (row_waits (Some it.row)) ≡ 1 = ap tally it.phase in
    omega arith

-- timeouts so far, and the tickets of those that are left
pub record TellsSince (old now : History) (tickets : List (ℕ × ℕ)) : Type 0 where
  pub goes : GoesOn old now
  pub stage : stage_of now ≡ telling
  pub room : length now.log + waiting_of now ≤ now.setup.log
  pub expired : AreExpired now tickets
  pub ascending : IsAscending nat_cmp tickets

pub tells_none : (h : History) (tickets : List (ℕ × ℕ)) → stage_of h ≡ telling → length h.log + waiting_of h ≤ h.setup.log → AreExpired h tickets
    → IsAscending nat_cmp tickets → TellsSince h h tickets
tells_none h tickets stage room expired up = record {
  goes = goes_none h;
  stage = stage;
  room = room;
  expired = expired;
  ascending = up;
}

first_of : (tickets : List (ℕ × ℕ)) (t u : ℕ) → Some (t, u) ≡ slice_get tickets 0 → tickets ≡ (t, u) ∷ drop 1 tickets
first_of [] t u e = cc
first_of (x ∷ later) t u e = ap (λ z. z ∷ later) (sym (same_Some (t, u) x e))

pub fewer_tickets : (tickets rest : List (ℕ × ℕ)) (t u : ℕ) → Some (t, u) ≡ slice_get tickets 0 → rest ≡ drop 1 tickets
    → length rest < length tickets
fewer_tickets tickets rest t u first left =
    let a : length tickets ≡ length ((t, u) ∷ drop 1 tickets) = ap length (first_of tickets t u first) in
    let b : length ((t, u) ∷ drop 1 tickets) ≡ length (drop 1 tickets) + 1 = omega arith in
    let c : length rest ≡ length (drop 1 tickets) = ap length left in
    omega arith

module _ (old now : History) (tickets : List (ℕ × ℕ)) (t u : ℕ) (since : TellsSince old now tickets) (first : Some (t, u) ≡ slice_get tickets 0) where
  tickets_are : tickets ≡ (t, u) ∷ drop 1 tickets
  tickets_are = first_of tickets t u first

  ascending_are : IsAscending nat_cmp ((t, u) ∷ drop 1 tickets)
  ascending_are = subst (IsAscending nat_cmp) tickets_are since.ascending

  its_row : (row : Row) × StandsAt (state_of now).rows u row × HasExpired now.setup (state_of now).moment row.phase × (row.key.ticket ≡ t)
  its_row = (since.expired t u).0 (subst (λ (l : List (ℕ × ℕ)). Contains l (t, u)) (sym tickets_are) (Contains-head (t, u) (drop 1 tickets)))

  pub its_place : IsTicketAt (state_of now).rows (record { place = u; ticket = t })
  its_place = (its_row.0, its_row.1, its_row.3)

  -- the first of them is told next
  is_first : IsFirstExpired now.setup (state_of now) t
  is_first = record {
    row = its_row.0;
    expired = ((u, its_row.1), its_row.2);
    named = its_row.3;
    first = λ other expired.
        let among = subst (λ (l : List (ℕ × ℕ)). Contains l (other.key.ticket, expired.0.0)) tickets_are
        ((since.expired other.key.ticket expired.0.0).1 (other, expired.0.1, expired.1, refl)) in
        let least : nat_cmp t other.key.ticket ≢ Greater =
        least_first nat_cmp_total (t, u) (drop 1 tickets) (other.key.ticket, expired.0.0) ascending_are among in
        grind (arith, nat_tests);
  }

  pub may_time_out : MayComeNext now (Left t Timeout)
  may_time_out = subst (λ (x : Stage). MayCome (end_of now) x (Left t Timeout)) (sym since.stage) is_first

  pub expired_waits : IsInPhase is_waiting (state_of now).rows t
  expired_waits = record {
    row = its_row.0;
    live = (u, its_row.1);
    named = its_row.3;
    phase = ap is_waiting (expired_since now.setup (state_of now).moment its_row.0.phase its_row.2).waits;
  }

  pub timeout_room : length now.log < now.setup.log
  timeout_room =
      let some = some_waits (state_of now).rows t expired_waits in
      let room = since.room in
      omega arith

  module _ (next : History) (goes : next ≡ with_entry now (Left t Timeout)) where
    state_next : (P : State → Type 0)
        → P (record {
          rows = changed t (in_phase (Told Timeout)) (state_of now).rows;
          results = (state_of now).results;
          limits = (state_of now).limits;
          moment =
              (state_of now).moment;
          ticket = (state_of now).ticket;
          cursor = (state_of now).cursor;
        }) → P (state_of next)
    state_next P h =
        subst (λ (x : History). P (state_of x)) (sym goes)
        (subst P (sym (after_all-push now.setup now.base now.log (Left t Timeout))) h)

    setup_next : next.setup ≡ now.setup
    setup_next = same_setup now next (Left t Timeout) goes

    left_expired : AreExpired next (drop 1 tickets)
    left_expired ticket place =
        subst (λ (x : Setup). (Contains (drop 1 tickets) (ticket, place) → (row : Row) × StandsAt (state_of next).rows place row
        × HasExpired x (state_of next).moment row.phase × (row.key.ticket ≡ ticket))
        × ((row : Row) × StandsAt (state_of next).rows place row × HasExpired x (state_of next).moment row.phase × (row.key.ticket ≡ ticket)
        → Contains (drop 1 tickets) (ticket, place))) (sym setup_next)
        (state_next
        (λ (s : State). (Contains (drop 1 tickets) (ticket, place) → (row : Row) × StandsAt s.rows place row × HasExpired now.setup s.moment row.phase
        × (row.key.ticket ≡ ticket))
        × ((row : Row) × StandsAt s.rows place row × HasExpired now.setup s.moment row.phase × (row.key.ticket ≡ ticket)
        → Contains (drop 1 tickets) (ticket, place))) (
          λ among.
              let it =
              (since.expired ticket place).0
              (subst (λ (l : List (ℕ × ℕ)). Contains l (ticket, place)) (sym tickets_are)
              (Contains-tail (t, u) (drop 1 tickets) (ticket, place) among)) in
              let other : it.0.key.ticket ≢ t = λ same. others among (sym it.3 ∙ same) in
              (it.0, other_stands now.setup (state_of now).rows (state_of now).moment t (Told Timeout) refl place it.0 it.1 other, it.2, it.3),
          λ its.
              let was = still_expired now.setup (state_of now).rows (state_of now).moment t (Told Timeout) refl place its.0 its.1 its.2 in
              let among = subst (λ (l : List (ℕ × ℕ)). Contains l (ticket, place)) tickets_are
              ((since.expired ticket place).1 (its.0, was.0, its.2, its.3)) in
              elim (Contains-cases (t, u) (drop 1 tickets) (ticket, place) among) [
                | inl e ↦ absurd (was.1 (its.3 ∙ ap (λ (x : ℕ × ℕ). x.0) (sym e)))
                | inr e ↦ e
              ],
        ))
      where
        others : Contains (drop 1 tickets) (ticket, place) → ticket ≡ t → ⊥
        others among same =
            let tied : nat_cmp ticket t ≡ Equal = grind (arith, nat_tests) in
            absent_at_member nat_cmp t (drop 1 tickets) (ticket, place) (absent_from_rest nat_cmp_total (t, u) (drop 1 tickets) ascending_are) among tied

    pub tells_more : (rest : List (ℕ × ℕ)) → rest ≡ drop 1 tickets → waiting_of next + 1 ≡ waiting_of now → TellsSince old next rest
    tells_more rest left fewer = subst (TellsSince old next) (sym left) (record {
      goes = goes_more old now next (Left t Timeout) since.goes goes refl;
      stage = ap stage_of goes ∙ stage_after-push granting now.log (Left t Timeout) ∙ ap (λ (x : Stage). next_stage x (Left t Timeout)) since.stage;
      room =
          let longer = longer now next (Left t Timeout) goes in
          let limit : next.setup.log ≡ now.setup.log = ap (λ (x : Setup). x.log) setup_next in
          let room = since.room in
          omega arith;
      expired = left_expired;
      ascending = subst (λ (l : List (ℕ × ℕ)). IsAscending nat_cmp (drop 1 l)) (sym tickets_are) ascending_are.1;
    })

-- where no ticket is left, nothing is owed but grants
pub times_out : (old now : History) (tickets : List (ℕ × ℕ)) → TellsSince old now tickets → None ≡ slice_get tickets 0 → CarriesOn old now
times_out old now tickets since none = record {
  goes = since.goes;
  over = subst (λ (x : Stage). EventIsOver now.setup (state_of now) x) (sym since.stage) over;
  may_grant = subst (λ (x : Stage). MayGrant now.setup (state_of now) x) (sym since.stage) over;
  room = since.room;
}
  where
    over : (row : Row) → IsExpired now.setup (state_of now) row → ⊥
    over row expired =
        Contains-nil (row.key.ticket, expired.0.0)
        (subst (λ (l : List (ℕ × ℕ)). Contains l (row.key.ticket, expired.0.0)) (nil_from_first tickets none)
        ((since.expired row.key.ticket expired.0.0).1 (row, expired.0.1, expired.1, refl)))

-- the calls of a tick
module _ (h one : History) (m : ℕ) (begun : one ≡ with_entry h (Tick m)) where
  pub tick_tells : stage_of one ≡ telling
  tick_tells = ap stage_of begun ∙ stage_after-push granting h.log (Tick m)

  pub tick_room : IsLegal h → HasEntryRoom h → length one.log + waiting_of one ≤ one.setup.log
  tick_room legal room =
      let begun_with = begun_room h one (Tick m) room (legal_places h legal) begun in
      let enough = begun_with.room in
      room_left one one (goes_none one) 0 (omega arith) (omega arith) begun_with.places

  -- where no request has expired the event is over, and all is settled as it was
  pub quiet_adds : (moment : ℕ) → m ≡ effective h moment → IsLegal h → IsJudged one → (expired : Bool) → expired ≡ false
      → (SomeExpires one moment → IsTrue expired) → AddsEvent h one (Tick m)
  quiet_adds moment later legal judged expired is tells = record {
    brought = [];
    log = ap (λ (x : History). x.log) begun;
    one_event = (goes_none h).one_event;
    setup = same_setup h one (Tick m) begun;
    base = same_base h one (Tick m) begun;
    lawful = adds_piece h one (Tick m) [] refl (same_setup h one (Tick m) begun) (same_base h one (Tick m) begun) (ap (λ (x : History). x.log) begun) (record {
      judged = judged.judged;
      whole =
          subst (λ (x : Stage). EventIsOver one.setup (state_of one) x) (sym tick_tells)
          (λ row expired. none (row, expired.0, subst (λ n. HasExpired one.setup n row.phase) (sym same_moment) expired.1));
      settled = subst (λ (x : Scene). IsSettled x) (sym same_scene) legal.lawful.settled;
    });
  }
    where
      none : SomeExpires one moment → ⊥
      none some = let it : IsTrue expired = tells some in cc

      left : state_of one ≡ record (state_of h) { moment = m }
      left = ap state_of begun ∙ after_all-push h.setup h.base h.log (Tick m)

      same_moment : effective one moment ≡ (state_of one).moment
      same_moment =
          let is : (state_of one).moment ≡ m = ap (λ (s : State). s.moment) left in let at : m ≡ max (state_of h).moment moment = later in
          let both : effective one moment ≡ max (state_of one).moment moment = refl in omega arith

      same_scene : scene_of one ≡ scene_of h
      same_scene = ap (λ (x : Setup). scene x (state_of one)) (same_setup h one (Tick m) begun) ∙ ap (scene h.setup) left
