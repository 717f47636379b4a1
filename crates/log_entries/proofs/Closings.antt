-- A closed server takes nobody.
use Rattle.std.proofs.Common.{◌≡◌, ◌≢◌, ℕ, ◌+◌, ◌≤◌, ◌==◌, ◌&&◌, ◌||◌, nat_lt, Bool, true, false, cond, All, List, [], ◌∷◌, Option, None, Some}
use Rattle.std.proofs.Common.{MatchOption, slice_get, refl, ap, sym, ◌∙◌, subst, arith, inl, inr}
use Rattle.std.specs.Option.{option_map_or}
use Rattle.std.proofs.lemmas.Bool.{and_parts}
use Rattle.std.proofs.lemmas.Bool.Decides.{Decides-eqb}
use Rattle.std.proofs.lemmas.List.Elements.{All-cons, All-nil, All-head, All-tail}
use Rattle.std.proofs.lemmas.Option.{same_Some}
use Rattle.base_lists.proofs.Never.{false_true, none_some}
use Rattle.base_lists.proofs.Places.{get-set_other}
use Rattle.base_verdict.specs.declared.cause.Cause.TheVariants.{Aborted, Timeout, Retries, NoServer}
use Rattle.log_entries.specs.declared.allowance.Allowance.{Allowance}
use Rattle.log_entries.specs.declared.allowance.Intake.{Intake}
use Rattle.log_entries.specs.declared.allowance.Intake.TheVariants.{Open, Closed}
use Rattle.log_entries.specs.declared.entry.Entry.{Entry}
use Rattle.log_entries.specs.declared.entry.Entry.TheVariants.{Arrive, Done, Fail, Abort, Tick, Check, Limit, Direct}
use Rattle.log_entries.specs.declared.entry.Entry.TheVariants.{Joined, Granted, Moved, Freed, Retried, Left, Health, Ended}
use Rattle.log_entries.specs.declared.queue.Queue.TheVariants.{Backend, Server}
use Rattle.log_entries.specs.declared.setup.ServerSet.{ServerSet}
use Rattle.log_entries.specs.declared.setup.Setup.{Setup}
use Rattle.log_entries.specs.Closings.{is_given_at, is_limit_of, IsLeftAlone, ClosedTakeNobody, ClosedServeNoMore}
use Rattle.log_entries.specs.Judgement.{Stage, placing, returning, ending, failing, freed_by_failure, aborting, telling}
use Rattle.log_entries.specs.Judgement.{checking, emptying, granting, IsPut, MayCome, next_stage, stage_after, AllMayCome}
use Rattle.log_entries.specs.Picks.{IsPick}
use Rattle.log_entries.specs.Placement.{IsCandidate, IsChosen}
use Rattle.log_entries.specs.Histories.{end_of}
use Rattle.log_entries.specs.Rows.{pin_of, is_served_by, served, queued}
use Rattle.log_entries.specs.Scenes.{Scene, limit_of, is_open, serves_beside, holds_beside, is_up, is_usable, is_free, has_room, takes_pinned, working_pin}
use Rattle.log_entries.specs.States.{State, scene, after, after_all, Point, next_point}
use Rattle.base_lists.proofs.Places.{tally, count-set}
use Rattle.log_entries.proofs.Consistency.{IsConsistent}
use Rattle.log_entries.proofs.Judged.{consistent_after}
use Rattle.log_entries.proofs.Dispatched.{Writes, slots, writes_of, legal_consistent}

module _ (sc : Scene) (v : ℕ) (closed : limit_of sc v ≡ Closed) where
  -- it isn't free, has no room, and takes no request that is bound to it
  pub closed_free : is_free sc v ≡ true → ⊥
  closed_free free = by_server (slice_get sc.servers v)
      (subst (λ (limit : Intake). option_map_or (λ (it : ServerSet). serves_beside limit (served v sc.rows)) (slice_get sc.servers v) false ≡ true) closed free)
    where
      by_server : (o : Option ServerSet) → option_map_or (λ (it : ServerSet). serves_beside Closed (served v sc.rows)) o false ≡ true → ⊥
      by_server None e = false_true e
      by_server (Some it) e = false_true e

  pub closed_room : has_room sc v ≡ true → ⊥
  closed_room room = by_server (slice_get sc.servers v)
      (subst (λ (limit : Intake). option_map_or (λ (it : ServerSet). holds_beside limit it.maxqueue (served v sc.rows + queued (Server v) sc.rows))
      (slice_get sc.servers v) false ≡ true) closed (and_parts (is_usable sc v) _ room).1)
    where
      by_server : (o : Option ServerSet)
          → option_map_or (λ (it : ServerSet). holds_beside Closed it.maxqueue (served v sc.rows + queued (Server v) sc.rows)) o false ≡ true → ⊥
      by_server None e = false_true e
      by_server (Some it) e = false_true e

  pub closed_pin : takes_pinned sc v ≡ true → ⊥
  closed_pin takes =
      let open_up = (and_parts (is_up sc v && is_open (limit_of sc v)) _ takes).0 in
      false_true (subst (λ (limit : Intake). is_open limit ≡ true) closed (and_parts (is_up sc v) _ open_up).1)

  pub closed_chosen : (cursor : ℕ) (pin avoid : Option ℕ) → IsChosen sc cursor pin avoid v → ⊥
  closed_chosen cursor pin avoid chosen = by_pin (working_pin sc pin) refl chosen
    where
      works : (p : Option ℕ) → working_pin sc p ≡ Some v → ⊥
      works None e = none_some e
      works (Some p) e = by_test (takes_pinned sc p) refl e
        where
          by_test : (b : Bool) → takes_pinned sc p ≡ b → cond b (Some p) None ≡ Some v → ⊥
          by_test true takes e = closed_pin (subst (λ k. takes_pinned sc k ≡ true) (same_Some p v e) takes)
          by_test false takes e = none_some e

      by_pin : (o : Option ℕ) → working_pin sc pin ≡ o → MatchOption o (IsPick sc cursor (IsCandidate sc avoid) v) (λ own. own ≡ v) → ⊥
      by_pin None e it = closed_room it.member.0
      by_pin (Some own) e it = works pin (e ∙ ap Some it)

  not_here : (w : ℕ) → (w ≡ v → ⊥) → (w == v) ≡ false
  not_here w differs = by_test (w == v) refl
    where
      by_test : (b : Bool) → (w == v) ≡ b → (w == v) ≡ false
      by_test true e = absurd (differs ((Decides-eqb w v).0 e))
      by_test false e = e

  put_elsewhere : (cursor : ℕ) (pin avoid : Option ℕ) (t : ℕ) (e : Entry) → IsPut sc cursor pin avoid t e → is_given_at v e ≡ false
  put_elsewhere cursor pin avoid t (Direct u w) put = not_here w (λ same. closed_free (subst (λ k. is_free sc k ≡ true) same put.1.1))
  put_elsewhere cursor pin avoid t (Joined u (Server w)) put =
      not_here w (λ same. closed_chosen cursor pin avoid (subst (IsChosen sc cursor pin avoid) same put.1.0))
  put_elsewhere cursor pin avoid t (Joined u Backend) put = refl
  put_elsewhere cursor pin avoid t (Left u NoServer) put = refl
  put_elsewhere cursor pin avoid t e put = absurd put

-- no entry that may come gives it a request
given_elsewhere : (v : ℕ) (here : Point) (t : Stage) (e : Entry) → limit_of (scene here.setup here.state) v ≡ Closed → MayCome here t e → is_given_at v e ≡ false
given_elsewhere v here t (Arrive m a) closed may = refl
given_elsewhere v here t (Done m u) closed may = refl
given_elsewhere v here t (Fail m u) closed may = refl
given_elsewhere v here t (Abort m u) closed may = refl
given_elsewhere v here t (Tick m) closed may = refl
given_elsewhere v here t (Check m w ok) closed may = refl
given_elsewhere v here t (Limit m w k) closed may = refl
given_elsewhere v here t (Granted u q w) closed may =
    not_here (scene here.setup here.state) v closed w
    (λ same. closed_free (scene here.setup here.state) v closed (subst (λ k. is_free (scene here.setup here.state) k ≡ true) same may.1.next.takes.0))
given_elsewhere v here (placing t) e closed may =
    put_elsewhere (scene here.setup here.state) v closed here.state.cursor (pin_of t here.state.rows) None t e may
given_elsewhere v here (freed_by_failure t w) (Direct u x) closed may =
    put_elsewhere (scene here.setup here.state) v closed here.state.cursor None (Some w) t (Direct u x) may.put
given_elsewhere v here (freed_by_failure t w) (Joined u q) closed may =
    put_elsewhere (scene here.setup here.state) v closed here.state.cursor None (Some w) t (Joined u q) may.put
given_elsewhere v here t (Moved u w) closed may = refl
given_elsewhere v here t (Freed u w) closed may = refl
given_elsewhere v here t (Retried u w k) closed may = refl
given_elsewhere v here t (Left u c) closed may = refl
given_elsewhere v here t (Health w up) closed may = refl
given_elsewhere v here t (Ended u) closed may = refl
given_elsewhere v here t e closed may = absurd may

-- and none but its own limit opens it
closed_after : (v : ℕ) (setup : Setup) (s : State) (e : Entry) → is_limit_of v e ≡ false → limit_of (scene setup s) v ≡ Closed
    → limit_of (scene setup (after setup s e)) v ≡ Closed
closed_after v setup s (Limit m w k) other closed =
    ap (λ (o : Option Allowance). option_map_or (λ (it : Allowance). it.limit) o Closed)
    (get-set_other s.limits w v (record { limit = k; served = served w s.rows })
    (λ same. false_true (sym other ∙ (Decides-eqb w v).1 (sym same)))) ∙ closed
closed_after v setup s (Arrive m a) other closed = closed
closed_after v setup s (Done m u) other closed = closed
closed_after v setup s (Fail m u) other closed = closed
closed_after v setup s (Abort m u) other closed = closed
closed_after v setup s (Tick m) other closed = closed
closed_after v setup s (Check m w ok) other closed = closed
closed_after v setup s (Direct u w) other closed = closed
closed_after v setup s (Joined u q) other closed = closed
closed_after v setup s (Granted u q w) other closed = closed
closed_after v setup s (Moved u w) other closed = closed
closed_after v setup s (Freed u w) other closed = closed
closed_after v setup s (Retried u w k) other closed = closed
closed_after v setup s (Left u c) other closed = closed
closed_after v setup s (Health w up) other closed = closed
closed_after v setup s (Ended u) other closed = closed

pub closed_take_nobody : ClosedTakeNobody
closed_take_nobody v here t [] all closed others = record { none = All-nil (λ e. is_given_at v e ≡ false); still_closed = closed }
closed_take_nobody v here t (e ∷ es) all closed others =
    let rest = closed_take_nobody v (next_point here e) (next_stage t e) es all.1
    (closed_after v here.setup here.state e (All-head (λ x. is_limit_of v x ≡ false) e es others) closed)
    (All-tail (λ x. is_limit_of v x ≡ false) e es others) in
    record {
      none = All-cons (λ x. is_given_at v x ≡ false) e es (given_elsewhere v here t e closed all.0) rest.none;
      still_closed = rest.still_closed;
    }

-- it serves no more after an entry
no_more_after : (v : ℕ) (here : Point) (t : Stage) (e : Entry) → IsConsistent here.state.rows here.state.ticket t → MayCome here t e
    → limit_of (scene here.setup here.state) v ≡ Closed → served v (after here.setup here.state e).rows ≤ served v here.state.rows
no_more_after v here t e is may closed =
    elim (writes_of here t e is may) [
      | inl w ↦ by_writes w
      | inr w ↦ let same : served v (after here.setup here.state e).rows ≡ served v here.state.rows = ap (served v) w.same in omega (arith, same)
    ]
  where
    by_writes : Writes here.setup here.state (after here.setup here.state e) e → served v (after here.setup here.state e).rows ≤ served v here.state.rows
    by_writes w = by_test (is_served_by v w.cell) refl
      where
        count : served v (after here.setup here.state e).rows + tally (is_served_by v w.old) ≡ served v here.state.rows + tally (is_served_by v w.cell)
        count = ap (λ rows. served v rows + tally (is_served_by v w.old)) w.written ∙ count-set (is_served_by v) here.state.rows w.place w.old w.cell w.stood

        by_test : (b : Bool) → is_served_by v w.cell ≡ b → served v (after here.setup here.state e).rows ≤ served v here.state.rows
        by_test true e =
            let one : tally (is_served_by v w.cell) ≡ 1 = ap tally e in
            elim (w.takes v e) [
              | inl free ↦ absurd (closed_free (slots here.setup here.state) v closed free)
              | inr had ↦ let before : tally (is_served_by v w.old) ≡ 1 = ap tally had in omega (arith, count, one, before)
            ]
        by_test false e = let none : tally (is_served_by v w.cell) ≡ 0 = ap tally e in omega (arith, count, none)

no_more_all : (v : ℕ) (here : Point) (t : Stage) (es : List Entry) → IsConsistent here.state.rows here.state.ticket t → AllMayCome here t es
    → limit_of (scene here.setup here.state) v ≡ Closed → All (λ e. is_limit_of v e ≡ false) es
    → served v (after_all here.setup here.state es).rows ≤ served v here.state.rows
no_more_all v here t [] is all closed others = omega arith
no_more_all v here t (e ∷ es) is all closed others =
    let one = no_more_after v here t e is all.0 closed in
    let rest : served v (after_all here.setup (after here.setup here.state e) es).rows ≤ served v (after here.setup here.state e).rows =
    no_more_all v (next_point here e) (next_stage t e) es (consistent_after here t e is all.0) all.1
    (closed_after v here.setup here.state e (All-head (λ x. is_limit_of v x ≡ false) e es others) closed)
    (All-tail (λ x. is_limit_of v x ≡ false) e es others) in
    omega (arith, one, rest)

pub closed_serve_no_more : ClosedServeNoMore
closed_serve_no_more v h es legal all closed others =
    no_more_all v (end_of h) (stage_after granting h.log) es (legal_consistent h legal) all closed others
