-- What one event does to what is outstanding: its verdicts are added, and what the event was about is taken away.
use Rattle.std.proofs.Common.{◌≡◌, ℕ, suc, ◌+◌, ◌==◌, Bool, true, false, cond, List, []}
use Rattle.std.proofs.Common.{◌∷◌, All, Option, None, Some, refl, ap, sym, ◌∙◌, arith}
use Rattle.std.specs.List.{cons_option}
use Rattle.std.proofs.lemmas.List.Elements.{All-head, All-tail}
use Rattle.base_verdict.specs.declared.Verdict.{Verdict}
use Rattle.base_verdict.specs.declared.cause.Cause.TheVariants.{Aborted, Timeout, Retries, NoServer}
use Rattle.base_lists.specs.Weights.{total}
use Rattle.base_lists.proofs.Never.{false_true}
use Rattle.base_lists.proofs.Totals.{total-append}
use Rattle.grant_board.specs.Views.{Grant, grant}
use Rattle.log_entries.specs.declared.allowance.Intake.TheVariants.{Open, Closed}
use Rattle.log_entries.specs.declared.entry.Entry.{Entry}
use Rattle.log_entries.specs.declared.entry.Entry.TheVariants.{Arrive, Done, Fail, Abort, Tick, Check, Limit, Direct}
use Rattle.log_entries.specs.declared.entry.Entry.TheVariants.{Joined, Granted, Moved, Freed, Retried, Left, Health, Ended}
use Rattle.log_entries.specs.declared.row.Phase.TheVariants.{Loose, Waiting, Serving, Told}
use Rattle.log_entries.specs.declared.queue.Queue.TheVariants.{Backend}
use Rattle.log_entries.specs.declared.row.Row.{Row}
use Rattle.log_entries.specs.Histories.{begins_event}
use Rattle.log_entries.specs.Judgement.{Stage, placing, returning, ending, failing, freed_by_failure, aborting, telling, checking}
use Rattle.log_entries.specs.Judgement.{emptying, granting, MayCome, AllMayCome, EventIsOver, next_stage, stage_after}
use Rattle.log_entries.specs.Retries.{failed}
use Rattle.log_entries.specs.Rows.{Rows, with_change, changed, in_phase, in_backend_since, has_ticket}
use Rattle.log_entries.specs.States.{after, after_all, arrived, Point, next_point}
use Rattle.log_entries.proofs.Consistency.{IsConsistent}
use Rattle.log_entries.proofs.Judged.{consistent_after}
use Rattle.locked_book.specs.Outstanding.{grants_at, outstanding_from, outstanding, place_in, grants_of}
use Rattle.locked_book.specs.Verdicts.{verdict_in, verdicts}
use Rattle.locked_book.proofs.Weighing.{weigh, only, put}
use Rattle.locked_book.proofs.Booking.{kept, given, books, kept_over}

-- at these stages a request may end
abbrev may_end : Stage → Bool
may_end (returning ticket) = true
may_end (ending ticket) = true
may_end (placing ticket) = false
may_end (failing ticket) = false
may_end (freed_by_failure ticket server) = false
may_end (aborting ticket) = false
may_end telling = false
may_end (checking server) = false
may_end (emptying server) = false
may_end granting = false

-- a change that keeps tickets keeps the places of all
abbrev KeepsTickets : (Row → Option Row) → Type 0
KeepsTickets f = (r : Row) → (w : Row) × (f r ≡ Some w) × (w.key.ticket ≡ r.key.ticket)

cell_kept : (t u : ℕ) (f : Row → Option Row) (cell : Option Row) → KeepsTickets f → has_ticket t (with_change u f cell) ≡ has_ticket t cell
cell_kept t u f None keeps = refl
cell_kept t u f (Some r) keeps = by_test (r.key.ticket == u)
  where
    by_test : (b : Bool) → has_ticket t (cond b (f r) (Some r)) ≡ has_ticket t (Some r)
    by_test true = let it = keeps r in ap (has_ticket t) it.1 ∙ ap (λ n. n == t) it.2
    by_test false = refl

place_kept : (t u : ℕ) (f : Row → Option Row) (rows : Rows) → KeepsTickets f → place_in t (changed u f rows) ≡ place_in t rows
place_kept t u f [] keeps = refl
place_kept t u f (cell ∷ rows) keeps =
    ap {B = ℕ} (λ (b : Bool). cond b 0 (suc (place_in t (changed u f rows)))) (cell_kept t u f cell keeps)
    ∙ ap {B = ℕ} (λ n. cond (has_ticket t cell) 0 (suc n)) (place_kept t u f rows keeps)

-- where no request may end, an entry that is no event keeps the places of all
places_after : (here : Point) (t : Stage) (e : Entry) (ticket : ℕ) → may_end t ≡ false → begins_event e ≡ false → MayCome here t e
    → place_in ticket (after here.setup here.state e).rows ≡ place_in ticket here.state.rows
places_after here t (Arrive m a) ticket quiet none may = false_true (sym none)
places_after here t (Done m u) ticket quiet none may = false_true (sym none)
places_after here t (Fail m u) ticket quiet none may = false_true (sym none)
places_after here t (Abort m u) ticket quiet none may = false_true (sym none)
places_after here t (Tick m) ticket quiet none may = false_true (sym none)
places_after here t (Check m v ok) ticket quiet none may = false_true (sym none)
places_after here t (Limit m v k) ticket quiet none may = false_true (sym none)
places_after here t (Direct u v) ticket quiet none may =
    place_kept ticket u (in_phase (Serving v)) here.state.rows (λ r. (record r { phase = Serving v }, refl, refl))
places_after here t (Joined u q) ticket quiet none may =
    place_kept ticket u (in_phase (Waiting q here.state.moment)) here.state.rows (λ r. (record r { phase = Waiting q here.state.moment }, refl, refl))
places_after here t (Granted u q v) ticket quiet none may =
    place_kept ticket u (in_phase (Serving v)) here.state.rows (λ r. (record r { phase = Serving v }, refl, refl))
places_after here t (Moved u v) ticket quiet none may =
    place_kept ticket u (in_backend_since here.state.moment) here.state.rows
    (λ r. (record r { pin = None; phase = Waiting Backend here.state.moment }, refl, refl))
places_after here t (Freed u v) ticket quiet none may = place_kept ticket u (in_phase Loose) here.state.rows (λ r. (record r { phase = Loose }, refl, refl))
places_after here t (Retried u v k) ticket quiet none may = refl
places_after here t (Left u c) ticket quiet none may = place_kept ticket u (in_phase (Told c)) here.state.rows (λ r. (record r { phase = Told c }, refl, refl))
places_after here t (Health v up) ticket quiet none may = refl
places_after here (returning t) (Ended u) ticket quiet none may = false_true (sym quiet)
places_after here (ending t) (Ended u) ticket quiet none may = false_true (sym quiet)
places_after here (freed_by_failure t w) (Ended u) ticket quiet none may = absurd may.put
places_after here t (Ended u) ticket quiet none may = absurd may

-- and leads where none may end
quiet_next : (here : Point) (t : Stage) (e : Entry) → may_end t ≡ false → begins_event e ≡ false → MayCome here t e
    → may_end (next_stage t e) ≡ false
quiet_next here t (Arrive m a) quiet none may = false_true (sym none)
quiet_next here t (Done m u) quiet none may = false_true (sym none)
quiet_next here t (Fail m u) quiet none may = false_true (sym none)
quiet_next here t (Abort m u) quiet none may = false_true (sym none)
quiet_next here t (Tick m) quiet none may = false_true (sym none)
quiet_next here t (Check m v ok) quiet none may = false_true (sym none)
quiet_next here t (Limit m v k) quiet none may = false_true (sym none)
quiet_next here (placing t) (Direct u v) quiet none may = refl
quiet_next here (placing t) (Joined u q) quiet none may = refl
quiet_next here (placing t) (Left u NoServer) quiet none may = refl
quiet_next here (freed_by_failure t w) (Direct u v) quiet none may = refl
quiet_next here (freed_by_failure t w) (Joined u q) quiet none may = refl
quiet_next here (freed_by_failure t w) (Left u NoServer) quiet none may = refl
quiet_next here (freed_by_failure t w) (Left u Retries) quiet none may = refl
quiet_next here (freed_by_failure t w) (Granted u q v) quiet none may = refl
quiet_next here (freed_by_failure t w) e quiet none may = absurd may.put
quiet_next here granting (Granted u q v) quiet none may = refl
quiet_next here telling (Granted u q v) quiet none may = refl
quiet_next here (checking w) (Granted u q v) quiet none may = refl
quiet_next here (emptying w) (Granted u q v) quiet none may = refl
quiet_next here (failing t) (Freed u v) quiet none may = refl
quiet_next here (failing t) (Retried u v k) quiet none may = refl
quiet_next here (aborting t) (Left u Aborted) quiet none may = refl
quiet_next here telling (Left u Timeout) quiet none may = refl
quiet_next here (checking w) (Health v true) quiet none may = refl
quiet_next here (checking w) (Health v false) quiet none may = refl
quiet_next here (emptying w) (Moved u v) quiet none may = refl
quiet_next here (returning t) e quiet none may = false_true (sym quiet)
quiet_next here (ending t) e quiet none may = false_true (sym quiet)
quiet_next here t (Granted u q v) quiet none may = absurd may.0
quiet_next here t e quiet none may = absurd may

places_on : (here : Point) (t : Stage) (es : List Entry) (ticket : ℕ) → may_end t ≡ false → All (λ e. begins_event e ≡ false) es
    → AllMayCome here t es
    → place_in ticket (after_all here.setup here.state es).rows ≡ place_in ticket here.state.rows
places_on here t [] ticket quiet none all = refl
places_on here t (e ∷ es) ticket quiet none all =
    let first = All-head (λ x. begins_event x ≡ false) e es none in
    places_on (next_point here e) (next_stage t e) es ticket (quiet_next here t e quiet first all.0)
    (All-tail (λ x. begins_event x ≡ false) e es none) all.1
    ∙ places_after here t e ticket quiet first all.0

-- a verdict leads where no request may end
verdict_quiet : (here : Point) (t : Stage) (e : Entry) (it : ℕ × Verdict) → verdict_in e ≡ Some it → MayCome here t e
    → may_end (next_stage t e) ≡ false
verdict_quiet here (returning t) (Direct u v) it is may = absurd may
verdict_quiet here (returning t) (Granted u q v) it is may = absurd may.0
verdict_quiet here (returning t) (Retried u v k) it is may = absurd may
verdict_quiet here (returning t) (Left u c) it is may = absurd may
verdict_quiet here (ending t) (Direct u v) it is may = absurd may
verdict_quiet here (ending t) (Granted u q v) it is may = absurd may.0
verdict_quiet here (ending t) (Retried u v k) it is may = absurd may
verdict_quiet here (ending t) (Left u c) it is may = absurd may
verdict_quiet here (placing t) (Direct u v) it is may = quiet_next here (placing t) (Direct u v) refl refl may
verdict_quiet here t (Direct u v) it is may = by_quiet (may_end t) refl
  where
    by_quiet : (b : Bool) → may_end t ≡ b → may_end (next_stage t (Direct u v)) ≡ false
    by_quiet true e = refl
    by_quiet false e = quiet_next here t (Direct u v) e refl may
verdict_quiet here t (Granted u q v) it is may = by_quiet (may_end t) refl
  where
    by_quiet : (b : Bool) → may_end t ≡ b → may_end (next_stage t (Granted u q v)) ≡ false
    by_quiet true e = cc
    by_quiet false e = quiet_next here t (Granted u q v) e refl may
verdict_quiet here t (Retried u v k) it is may = by_quiet (may_end t) refl
  where
    by_quiet : (b : Bool) → may_end t ≡ b → may_end (next_stage t (Retried u v k)) ≡ false
    by_quiet true e = cc
    by_quiet false e = quiet_next here t (Retried u v k) e refl may
verdict_quiet here t (Left u c) it is may = by_quiet (may_end t) refl
  where
    by_quiet : (b : Bool) → may_end t ≡ b → may_end (next_stage t (Left u c)) ≡ false
    by_quiet true e = cc
    by_quiet false e = quiet_next here t (Left u c) e refl may
verdict_quiet here t e it is may = cc

-- what an entry adds is added where its ticket stands in the end
filtered : (rows : Rows) (weight : Grant → ℕ) (e : Entry) (es : List Entry)
    → total weight (grants_of rows (verdicts (e ∷ es))) ≡ given weight rows e + total weight (grants_of rows (verdicts es))
filtered rows weight e es = by_verdict (verdict_in e) refl
  where
    by_verdict : (o : Option (ℕ × Verdict)) → verdict_in e ≡ o
        → total weight (grants_of rows (verdicts (e ∷ es))) ≡ given weight rows e + total weight (grants_of rows (verdicts es))
    by_verdict None is = rw is (omega arith)
    by_verdict (Some it) is = rw is (omega arith)

same_given : (one two : Rows) (weight : Grant → ℕ) (e : Entry) → ((it : ℕ × Verdict) → verdict_in e ≡ Some it → place_in it.0 two ≡ place_in it.0 one)
    → given weight one e ≡ given weight two e
same_given one two weight e same = by_verdict (verdict_in e) refl
  where
    by_verdict : (o : Option (ℕ × Verdict)) → verdict_in e ≡ o → given weight one e ≡ given weight two e
    by_verdict None is = rw is refl
    by_verdict (Some it) is = rw is (ap (λ p. weight (grant p it.0 it.1) + 0) (sym (same it is)))

-- entries that are no events
booked : (weight : Grant → ℕ) (here : Point) (t : Stage) (es : List Entry) → All (λ e. begins_event e ≡ false) es
    → IsConsistent here.state.rows here.state.ticket t → AllMayCome here t es
    → total weight (outstanding (after_all here.setup here.state es).rows) + kept weight t here.state.rows
    ≡ total weight (outstanding here.state.rows) + kept weight (stage_after t es) (after_all here.setup here.state es).rows + total weight
    (grants_of (after_all here.setup here.state es).rows (verdicts es))
booked weight here t [] none is all = omega arith
booked weight here t (e ∷ es) none is all =
    let first = All-head (λ x. begins_event x ≡ false) e es none in
    let later = All-tail (λ x. begins_event x ≡ false) e es none in
    let now = consistent_after here t e is all.0 in
    let end = (after_all here.setup (after here.setup here.state e) es).rows in
    let one = books weight here.setup here.state here.used t e first is all.0 in
    let rest = booked weight (next_point here e) (next_stage t e) es later now all.1 in
    let same = same_given (after here.setup here.state e).rows end weight e
    (λ it told. places_on (next_point here e) (next_stage t e) es it.0 (verdict_quiet here t e it told all.0) later all.1) in
    omega (arith, one, rest, same, filtered end weight e es)

-- what an event takes away
abbrev pub back : (Grant → ℕ) → Entry → Rows → ℕ
back weight (Done moment ticket) rows = total (only ticket weight) (outstanding rows)
back weight (Fail moment ticket) rows = total (only ticket weight) (outstanding rows)
back weight entry rows = 0

-- a change that keeps what is out
outs_kept : (weight : Grant → ℕ) (u i : ℕ) (f : Row → Option Row) (rows : Rows) → ((r : Row) (p : ℕ) → weigh weight p (f r) ≡ weigh weight p (Some r))
    → total weight (outstanding_from i (changed u f rows)) ≡ total weight (outstanding_from i rows)
outs_kept weight u i f [] keeps = refl
outs_kept weight u i f (cell ∷ rows) keeps =
    omega (
      arith,
      at cell,
      outs_kept weight u (suc i) f rows keeps,
      total-append weight (grants_at i (with_change u f cell)) (outstanding_from (suc i) (changed u f rows)),
      total-append weight (grants_at i cell) (outstanding_from (suc i) rows),
    )
  where
    at : (c : Option Row) → weigh weight i (with_change u f c) ≡ weigh weight i c
    at None = refl
    at (Some r) = by_test (r.key.ticket == u)
      where
        by_test : (b : Bool) → weigh weight i (cond b (f r) (Some r)) ≡ weigh weight i (Some r)
        by_test true = keeps r i
        by_test false = refl

-- an event itself leaves all that is outstanding, and owes what it is about
begins : (weight : Grant → ℕ) (here : Point) (t : Stage) (e : Entry) → begins_event e ≡ true → MayCome here t e
    → (total weight (outstanding (after here.setup here.state e).rows) ≡ total weight (outstanding here.state.rows))
    × (kept weight (next_stage t e) (after here.setup here.state e).rows ≡ back weight e here.state.rows)
begins weight here t (Arrive m a) is may =
    let even = put weight 0 a.place a.place here.state.rows None (Some (arrived a)) (omega arith) may.1.vacant in
    (omega (arith, even), refl)
begins weight here t (Done m u) is may = (refl, refl)
begins weight here t (Fail m u) is may =
    let kept_out = λ (w : Grant → ℕ). outs_kept w u 0 (failed here.setup) here.state.rows (λ r p. refl) in
    (kept_out weight, kept_out (only u weight))
begins weight here t (Abort m u) is may = (refl, refl)
begins weight here t (Tick m) is may = (refl, refl)
begins weight here t (Check m v ok) is may = (refl, refl)
begins weight here t (Limit m v (Open k)) is may = (refl, refl)
begins weight here t (Limit m v Closed) is may = (refl, refl)
begins weight here t e is may = cc

-- a whole event
pub turned : (weight : Grant → ℕ) (here : Point) (t : Stage) (e : Entry) (brought : List Entry) → begins_event e ≡ true
    → All (λ x. begins_event x ≡ false) brought → IsConsistent here.state.rows here.state.ticket t
    → AllMayCome here t (e ∷ brought) → EventIsOver here.setup (after_all here.setup here.state (e ∷ brought)) (stage_after t (e ∷ brought))
    → total weight (outstanding (after_all here.setup here.state (e ∷ brought)).rows) + back weight e here.state.rows
    ≡ total weight (outstanding here.state.rows) + total weight (grants_of (after_all here.setup here.state (e ∷ brought)).rows (verdicts (e ∷ brought)))
turned weight here t e brought event none is all over =
    let begun = begins weight here t e event all.0 in
    let rest = booked weight (next_point here e) (next_stage t e) brought none (consistent_after here t e is all.0) all.1 in
    let end = kept_over weight here.setup (after_all here.setup here.state (e ∷ brought)) (stage_after t (e ∷ brought))
    (after_all here.setup here.state (e ∷ brought)).rows over in
    let told = no_verdict e event in
    let added = filtered (after_all here.setup here.state (e ∷ brought)).rows weight e brought in
    omega (
      arith,
      begun.0,
      begun.1,
      rest,
      end,
      added,
      ap (λ (o : Option (ℕ × Verdict)). total weight (grants_of (after_all here.setup here.state (e ∷ brought)).rows (cons_option o []))) told,
    )
  where
    no_verdict : (x : Entry) → begins_event x ≡ true → verdict_in x ≡ None
    no_verdict (Arrive m a) is = refl
    no_verdict (Done m u) is = refl
    no_verdict (Fail m u) is = refl
    no_verdict (Abort m u) is = refl
    no_verdict (Tick m) is = refl
    no_verdict (Check m v ok) is = refl
    no_verdict (Limit m v k) is = refl
    no_verdict x is = cc
