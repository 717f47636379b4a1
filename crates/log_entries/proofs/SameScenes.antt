-- Where rows stand decides nothing: what may come next with these rows may come with the same ones at other places.
use Rattle.std.proofs.Common.{◌≡◌, ℕ, ◌+◌, ◌*◌, ◌≤◌, ◌==◌, ◌&&◌, ◌||◌, nat_lt, true, cond, Bool}
use Rattle.std.proofs.Common.{Option, None, Some, MatchOption, refl, ap, sym, ◌∙◌, subst, inl, inr}
use Rattle.std.specs.Option.{option_map_or}
use Rattle.base_verdict.specs.declared.cause.Cause.TheVariants.{Aborted, Timeout, Retries, NoServer}
use Rattle.log_entries.specs.declared.entry.Entry.{Entry}
use Rattle.log_entries.specs.declared.entry.Entry.TheVariants.{Direct, Joined, Granted, Moved, Freed, Retried, Left, Health, Ended}
use Rattle.log_entries.specs.declared.queue.Queue.{Queue}
use Rattle.log_entries.specs.declared.queue.Queue.TheVariants.{Backend, Server}
use Rattle.log_entries.specs.declared.row.Phase.{Phase}
use Rattle.log_entries.specs.declared.row.Row.{Row}
use Rattle.log_entries.specs.declared.setup.Setup.{Setup}
use Rattle.log_entries.specs.Determined.{HaveSameRows}
use Rattle.log_entries.specs.Grants.{CanTake, IsSettled, IsNextTaker, IsLawfulGrant}
use Rattle.log_entries.specs.Judgement.{IsInPhase, IsFirstExpired, IsFirstIn, Stage, placing, returning, ending, failing, freed_by_failure}
use Rattle.log_entries.specs.Judgement.{aborting, telling, checking, emptying, granting, MayGrant, IsPut, IsPutAnew}
use Rattle.log_entries.specs.Picks.{load, weight_of, IsNoMoreLoaded, IsPick}
use Rattle.log_entries.specs.Placement.{IsCandidate, IsChosen}
use Rattle.log_entries.specs.Retries.{are_spent, are_redispatched, are_retried}
use Rattle.log_entries.specs.Rows.{Rows, pin_of, failures_of, is_served_by, waits_in, served, queued}
use Rattle.log_entries.specs.States.{State, scene}
use Rattle.log_entries.specs.Scenes.{Scene, limit_of, is_open, serves_beside, holds_beside, of_server, is_up, is_usable, is_free, has_room, takes_pinned, working_pin}
use Rattle.log_entries.proofs.OneEntry.{Owed, MayBeGranted, IsNext}
use Rattle.log_entries.proofs.RowLemmas.{HaveOwnTickets}
use Rattle.log_entries.proofs.SameRows.{row_of-same, pin_of-same}

module _ (setup : Setup) (s : State) (other : Rows) (same : HaveSameRows s.rows other) (own : HaveOwnTickets s.rows) (theirs : HaveOwnTickets other) where
  abbrev there : State
  there = record s { rows = other }

  abbrev sc : Scene
  sc = scene setup s

  abbrev sd : Scene
  sd = scene setup there

  served-same : (v : ℕ) → served v other ≡ served v s.rows
  served-same v = sym (same.counted (is_served_by v) refl)

  queued-same : (q : Queue) → queued q other ≡ queued q s.rows
  queued-same q = sym (same.counted (waits_in q) refl)

  free-same : (v : ℕ) → is_free sd v ≡ is_free sc v
  free-same v = ap (λ (n : ℕ). of_server sc v (λ it. serves_beside (limit_of sc v) n)) (served-same v)

  load-same : (v : ℕ) → load sd v ≡ load sc v
  load-same v = ap (λ (n : ℕ). n + queued (Server v) other) (served-same v) ∙ ap (λ (n : ℕ). served v s.rows + n) (queued-same (Server v))

  room-same : (v : ℕ) → has_room sd v ≡ has_room sc v
  room-same v = ap (λ (n : ℕ). is_usable sc v && of_server sc v (λ it. holds_beside (limit_of sc v) it.maxqueue n)) (load-same v)

  takes-same : (v : ℕ) → takes_pinned sd v ≡ takes_pinned sc v
  takes-same v =
      ap (λ (b : Bool). is_up sc v && is_open (limit_of sc v) && (b || of_server sc v (λ it. (it.maxqueue == 0) || nat_lt (queued (Server v) other) it.maxqueue))) (free-same v)
      ∙ ap (λ (n : ℕ). is_up sc v && is_open (limit_of sc v) && (is_free sc v || of_server sc v (λ it. (it.maxqueue == 0) || nat_lt n it.maxqueue))) (queued-same (Server v))

  pin-same : (pin : Option ℕ) → working_pin sd pin ≡ working_pin sc pin
  pin-same None = refl
  pin-same (Some v) = ap (λ (b : Bool). cond b (Some v) None) (takes-same v)

  failures-same : (u : ℕ) → failures_of u other ≡ failures_of u s.rows
  failures-same u = ap (λ (o : Option Row). option_map_or (λ (row : Row). row.failures) o 0) (sym (row_of-same s.rows other same own theirs u))

  -- what can take
  can_there : (v : ℕ) → CanTake sc v → CanTake sd v
  can_there v can = (free-same v ∙ can.0, (can.1.0, same.there can.1.0 can.1.1, can.1.2))

  can_back : (v : ℕ) → CanTake sd v → CanTake sc v
  can_back v can = (sym (free-same v) ∙ can.0, (can.1.0, same.back can.1.0 can.1.1, can.1.2))

  pub settled_back : IsSettled sd → IsSettled sc
  settled_back settled v can = settled v (can_there v can)

  -- picks
  no_more_back : (v w : ℕ) → IsNoMoreLoaded sd v w → IsNoMoreLoaded sc v w
  no_more_back v w less =
      subst (λ (n : ℕ). load sc v * weight_of sc w ≤ n * weight_of sc v) (load-same w)
      (subst (λ (n : ℕ). n * weight_of sc w ≤ load sd w * weight_of sc v) (load-same v) less)

  no_more_there : (v w : ℕ) → IsNoMoreLoaded sc v w → IsNoMoreLoaded sd v w
  no_more_there v w less =
      subst (λ (n : ℕ). load sd v * weight_of sc w ≤ n * weight_of sc v) (sym (load-same w))
      (subst (λ (n : ℕ). n * weight_of sc w ≤ load sc w * weight_of sc v) (sym (load-same v)) less)

  pick_back : (of_these of_those : ℕ → Type 0) (v : ℕ) → ((k : ℕ) → of_these k → of_those k) → ((k : ℕ) → of_those k → of_these k)
      → IsPick sd s.cursor of_those v → IsPick sc s.cursor of_these v
  pick_back of_these of_those v to from pick = record {
    member = from v pick.member;
    least = λ k it. no_more_back v k (pick.least k (to k it));
    nearest = λ k it least. pick.nearest k (to k it) (λ third its. no_more_there k third (least third (from third its)));
  }

  taker_back : (v : ℕ) → IsNextTaker sd s.cursor v → IsNextTaker sc s.cursor v
  taker_back v taker = record {
    takes = can_back v taker.takes;
    weightless_first = λ k none can. taker.weightless_first k none (can_there k can);
    picked = λ some. pick_back (CanTake sc) (CanTake sd) v can_there can_back (taker.picked some);
  }

  grant_back : (u v : ℕ) (q : Queue) → IsLawfulGrant sd s.cursor u q v → IsLawfulGrant sc s.cursor u q v
  grant_back u v q grant = record {
    row = grant.row;
    live = same.back grant.row grant.live;
    named = grant.named;
    waits = grant.waits;
    taken = grant.taken;
    next = taker_back v grant.next;
    least = λ row live goes. grant.least row (same.there row live) goes;
  }

  -- placements
  candidate_there : (avoid : Option ℕ) (v : ℕ) → IsCandidate sc avoid v → IsCandidate sd avoid v
  candidate_there avoid v it = (room-same v ∙ it.0, λ avoids k room. it.1 avoids k (sym (room-same k) ∙ room))

  candidate_back : (avoid : Option ℕ) (v : ℕ) → IsCandidate sd avoid v → IsCandidate sc avoid v
  candidate_back avoid v it = (sym (room-same v) ∙ it.0, λ avoids k room. it.1 avoids k (room-same k ∙ room))

  chosen_back : (pin avoid : Option ℕ) (v : ℕ) → IsChosen sd s.cursor pin avoid v → IsChosen sc s.cursor pin avoid v
  chosen_back pin avoid v chosen = by_pin (working_pin sc pin)
      (subst (λ (o : Option ℕ). MatchOption o (IsPick sd s.cursor (IsCandidate sd avoid) v) (λ own. own ≡ v)) (pin-same pin) chosen)
    where
      by_pin : (o : Option ℕ) → MatchOption o (IsPick sd s.cursor (IsCandidate sd avoid) v) (λ own. own ≡ v)
          → MatchOption o (IsPick sc s.cursor (IsCandidate sc avoid) v) (λ own. own ≡ v)
      by_pin None pick = pick_back (IsCandidate sc avoid) (IsCandidate sd avoid) v (candidate_there avoid) (candidate_back avoid) pick
      by_pin (Some own) is = is

  put_back : (pin avoid : Option ℕ) (t : ℕ) (e : Entry) → IsPut sd s.cursor pin avoid t e → IsPut sc s.cursor pin avoid t e
  put_back pin avoid t (Direct u v) put = (put.0, (chosen_back pin avoid v put.1.0, sym (free-same v) ∙ put.1.1))
  put_back pin avoid t (Joined u (Server v)) put = (put.0, (chosen_back pin avoid v put.1.0, λ free. put.1.1 (free-same v ∙ free)))
  put_back pin avoid t (Joined u Backend) put = (put.0, (sym (pin-same pin) ∙ put.1.0, put.1.1, λ v room. put.1.2 v (room-same v ∙ room)))
  put_back pin avoid t (Left u NoServer) put = (put.0, (sym (pin-same pin) ∙ put.1.0, put.1.1))
  put_back pin avoid t e put = absurd put

  anew_back : (t w : ℕ) (e : Entry) → IsPutAnew setup there t w e → IsPutAnew setup s t w e
  anew_back t w e put = record {
    redispatched = subst (λ (n : ℕ). are_redispatched setup n ≡ true) (failures-same t) put.redispatched;
    settled = settled_back put.settled;
    put = put_back None (Some w) t e put.put;
  }

  phase_back : (test : Phase → Bool) (u : ℕ) → IsInPhase test other u → IsInPhase test s.rows u
  phase_back test u it = record { row = it.row; live = same.back it.row it.live; named = it.named; phase = it.phase }

  first_back : (q : Queue) (u : ℕ) → IsFirstIn q other u → IsFirstIn q s.rows u
  first_back q u it = record {
    row = it.row;
    live = same.back it.row it.live;
    named = it.named;
    waits = it.waits;
    least = λ row live waits. it.least row (same.there row live) waits;
  }

  expired_back : (u : ℕ) → IsFirstExpired setup there u → IsFirstExpired setup s u
  expired_back u it = record {
    row = it.row;
    expired = (same.back it.row it.expired.0, it.expired.1);
    named = it.named;
    first = λ row expired. it.first row (same.there row expired.0, expired.1);
  }

  -- what is owed
  owed_back : (t : Stage) (e : Entry) → Owed setup there t e → Owed setup s t e
  owed_back (placing t) e owed =
      put_back (pin_of t s.rows) None t e (subst (λ (pin : Option ℕ). IsPut sd s.cursor pin None t e) (pin_of-same setup s other same own theirs t) owed)
  owed_back (returning t) (Freed u v) owed = (owed.0, phase_back _ u owed.1)
  owed_back (returning t) (Ended u) owed = (owed.0, phase_back _ u owed.1)
  owed_back (ending t) (Ended u) owed = owed
  owed_back (failing t) (Retried u v k) owed = (owed.0, phase_back _ u owed.1, sym (failures-same u) ∙ owed.2, owed.3)
  owed_back (failing t) (Freed u v) owed = (
    owed.0,
    phase_back _ u owed.1,
    λ retried. owed.2 (subst (λ (n : ℕ). are_retried setup n ≡ true) (sym (failures-same u)) retried),
  )
  owed_back (freed_by_failure t w) (Left u Retries) owed = (owed.0, subst (λ (n : ℕ). are_spent setup n ≡ true) (failures-same u) owed.1)
  owed_back (freed_by_failure t w) e owed = anew_back t w e owed
  owed_back (aborting t) (Left u Aborted) owed = (owed.0, phase_back _ u owed.1)
  owed_back telling (Left u Timeout) owed = expired_back u owed
  owed_back (checking v) (Health w up) owed = owed
  owed_back (emptying v) (Moved u w) owed = (owed.0, owed.1, first_back (Server w) u owed.2)
  owed_back t e owed = absurd owed

  may_grant_back : (t : Stage) → MayGrant setup there t → MayGrant setup s t
  may_grant_back (freed_by_failure t w) may = subst (λ (n : ℕ). are_redispatched setup n ≡ true) (failures-same t) may
  may_grant_back granting may = tt
  may_grant_back telling may = λ row expired. may row (same.there row expired.0, expired.1)
  may_grant_back (checking v) may = may
  may_grant_back (emptying v) may = λ redispatch row live waits. may redispatch row (same.there row live) waits
  may_grant_back t may = absurd may

  granted_back : (t : Stage) (e : Entry) → MayBeGranted setup there t e → MayBeGranted setup s t e
  granted_back t (Granted u q v) may = (may_grant_back t may.0, grant_back u v q may.1)
  granted_back t e may = absurd may

  -- what may come next
  pub next_back : (t : Stage) (e : Entry) → IsNext setup there t e → IsNext setup s t e
  next_back t e (inl granted) = inl (granted_back t e granted)
  next_back t e (inr owed) = inr (owed_back t e owed)
