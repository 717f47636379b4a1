-- What one entry does to what is outstanding: what it takes away was owed by its event, and what it adds is its verdict.
use Rattle.std.proofs.Common.{◌≡◌, ℕ, ◌+◌, true, false, IsTrue, []}
use Rattle.std.proofs.Common.{◌∷◌, Option, None, Some, refl, ap, sym, ◌∙◌, subst, arith}
use Rattle.std.proofs.lemmas.Bool.Decides.{Decides-eqb}
use Rattle.base_verdict.specs.declared.Verdict.{Verdict}
use Rattle.base_verdict.specs.declared.Verdict.TheVariants as verdict
use Rattle.base_verdict.specs.declared.cause.Cause.TheVariants.{Aborted, Timeout, Retries, NoServer}
use Rattle.base_lists.specs.Weights.{total}
use Rattle.base_lists.proofs.Never.{false_true}
use Rattle.base_lists.proofs.Places.{get-set_same}
use Rattle.grant_board.specs.Views.{Grant, grant}
use Rattle.log_entries.specs.declared.entry.Entry.{Entry}
use Rattle.log_entries.specs.declared.entry.Entry.TheVariants.{Arrive, Done, Fail, Abort, Tick, Check, Limit, Direct}
use Rattle.log_entries.specs.declared.entry.Entry.TheVariants.{Joined, Granted, Moved, Freed, Retried, Left, Health, Ended}
use Rattle.log_entries.specs.declared.queue.Queue.{Queue}
use Rattle.log_entries.specs.declared.queue.Queue.TheVariants.{Server}
use Rattle.log_entries.specs.declared.row.Phase.{Phase}
use Rattle.log_entries.specs.declared.row.Phase.TheVariants.{Loose, Waiting, Serving, Told}
use Rattle.log_entries.specs.declared.row.Row.{Row}
use Rattle.log_entries.specs.declared.setup.Setup.{Setup}
use Rattle.log_entries.specs.Histories.{begins_event}
use Rattle.log_entries.specs.Judgement.{Stage, placing, returning, ending, failing, freed_by_failure, aborting, telling, checking, emptying}
use Rattle.log_entries.specs.Judgement.{granting, MayGrant, IsPut, MayCome, EventIsOver, HasExpired, next_stage}
use Rattle.log_entries.specs.Refusals.{is_waiting}
use Rattle.log_entries.specs.Rows.{Rows, StandsAt, changed, in_phase, in_backend_since, gone, phase_waits_in, phase_is_served_by}
use Rattle.log_entries.specs.States.{State, scene, after, point_of}
use Rattle.log_entries.specs.Scenes.{Scene}
use Rattle.log_entries.proofs.Consistency.{IsConsistent, loose_ticket}
use Rattle.log_entries.proofs.Judged.{consistent_after}
use Rattle.log_entries.proofs.RowLemmas.{HaveOwnTickets, changed_at}
use Rattle.locked_book.specs.Outstanding.{verdict_at, grant_at, outstanding, place_in, grants_of}
use Rattle.locked_book.specs.Verdicts.{verdicts}
use Rattle.locked_book.proofs.Weighing.{weigh, only, put, of_ticket, place_at}

-- what an event owes at a stage: the grant of the ticket whose slot came back or whose connection failed
abbrev pub kept : (Grant → ℕ) → Stage → Rows → ℕ
kept weight (returning ticket) rows = total (only ticket weight) (outstanding rows)
kept weight (failing ticket) rows = total (only ticket weight) (outstanding rows)
kept weight (placing ticket) rows = 0
kept weight (ending ticket) rows = 0
kept weight (freed_by_failure ticket server) rows = 0
kept weight (aborting ticket) rows = 0
kept weight telling rows = 0
kept weight (checking server) rows = 0
kept weight (emptying server) rows = 0
kept weight granting rows = 0

-- what an entry adds
abbrev pub given : (Grant → ℕ) → Rows → Entry → ℕ
given weight rows entry = total weight (grants_of rows (verdicts (entry ∷ [])))

-- phases that have nothing out
waits_none : (q : Queue) (phase : Phase) → IsTrue (phase_waits_in q phase) → verdict_at phase ≡ None
waits_none q Loose waits = refl
waits_none q (Waiting other m) waits = refl
waits_none q (Serving v) waits = false_true waits
waits_none q (Told c) waits = false_true waits

waiting_none : (phase : Phase) → IsTrue (is_waiting phase) → verdict_at phase ≡ None
waiting_none Loose waits = refl
waiting_none (Waiting other m) waits = refl
waiting_none (Serving v) waits = false_true waits
waiting_none (Told c) waits = false_true waits

expired_none : (setup : Setup) (now : ℕ) (phase : Phase) → HasExpired setup now phase → verdict_at phase ≡ None
expired_none setup now Loose expired = refl
expired_none setup now (Waiting q m) expired = refl
expired_none setup now (Serving v) expired = absurd expired
expired_none setup now (Told c) expired = absurd expired

serving_at : (v : ℕ) (phase : Phase) → IsTrue (phase_is_served_by v phase) → verdict_at phase ≡ Some (verdict.Serve v)
serving_at v Loose served = false_true served
serving_at v (Waiting q m) served = false_true served
serving_at v (Serving w) served = ap (λ (n : ℕ). Some (verdict.Serve n)) ((Decides-eqb w v).0 served)
serving_at v (Told c) served = false_true served

-- a verdict is no word of what a placement or a fall owes
kept_grant : (weight : Grant → ℕ) (setup : Setup) (s : State) (t : Stage) (rows : Rows) → MayGrant setup s t → kept weight t rows ≡ 0
kept_grant weight setup s (freed_by_failure t w) rows may = refl
kept_grant weight setup s granting rows may = refl
kept_grant weight setup s telling rows may = refl
kept_grant weight setup s (checking w) rows may = refl
kept_grant weight setup s (emptying w) rows may = refl
kept_grant weight setup s t rows may = absurd may

kept_granted : (weight : Grant → ℕ) (t : Stage) (u v : ℕ) (q : Queue) (rows : Rows) → kept weight (next_stage t (Granted u q v)) rows ≡ 0
kept_granted weight (freed_by_failure t w) u v q rows = refl
kept_granted weight (placing t) u v q rows = refl
kept_granted weight (returning t) u v q rows = refl
kept_granted weight (ending t) u v q rows = refl
kept_granted weight (failing t) u v q rows = refl
kept_granted weight (aborting t) u v q rows = refl
kept_granted weight telling u v q rows = refl
kept_granted weight (checking w) u v q rows = refl
kept_granted weight (emptying w) u v q rows = refl
kept_granted weight granting u v q rows = refl

pub kept_over : (weight : Grant → ℕ) (setup : Setup) (s : State) (t : Stage) (rows : Rows) → EventIsOver setup s t → kept weight t rows ≡ 0
kept_over weight setup s granting rows over = refl
kept_over weight setup s telling rows over = refl
kept_over weight setup s (checking v) rows over = refl
kept_over weight setup s (emptying v) rows over = refl
kept_over weight setup s t rows over = absurd over

module _ (weight : Grant → ℕ) (setup : Setup) (s : State) where
  -- all that is outstanding
  abbrev whole : Rows → ℕ
  whole rows = total weight (outstanding rows)

  -- the row of a ticket is changed
  step : (u p : ℕ) (r : Row) (f : Row → Option Row) → HaveOwnTickets s.rows → StandsAt s.rows p r → r.key.ticket ≡ u
      → whole (changed u f s.rows) + weigh weight p (Some r) ≡ whole s.rows + weigh weight p (f r)
  step u p r f own stands named =
      subst (λ rows. whole rows + weigh weight p (Some r) ≡ whole s.rows + weigh weight p (f r)) (sym (changed_at s.rows u p r f own stands named))
      (put weight 0 p p s.rows (Some r) (f r) (omega arith) stands)

  -- it has nothing out, and gets a verdict
  gives : (u p : ℕ) (r : Row) (phase : Phase) (it : Verdict) → HaveOwnTickets s.rows → HaveOwnTickets (changed u (in_phase phase) s.rows) → StandsAt s.rows p r
      → r.key.ticket ≡ u
      → verdict_at r.phase ≡ None → verdict_at phase ≡ Some it
      → whole (changed u (in_phase phase) s.rows) ≡ whole s.rows + (weight (grant (place_in u (changed u (in_phase phase) s.rows)) u it) + 0)
  gives u p r phase it own then stands named none some =
      let now = subst (λ rows. StandsAt rows p (record r { phase = phase })) (sym (changed_at s.rows u p r (in_phase phase) own stands named))
      (get-set_same s.rows p (Some r) (Some (record r { phase = phase })) stands) in
      let at = place_at (changed u (in_phase phase) s.rows) u p (record r { phase = phase }) then now named in
      let before : weigh weight p (Some r) ≡ 0 = ap (λ (v : Option Verdict). total weight (grant_at p r.key.ticket v)) none in
      let there : weigh weight p (in_phase phase r) ≡ weight (grant p r.key.ticket it) + 0 =
      ap (λ (v : Option Verdict). total weight (grant_at p r.key.ticket v)) some in
      let ticket : weight (grant p r.key.ticket it) ≡ weight (grant p u it) = ap (λ n. weight (grant p n it)) named in
      let place : weight (grant (place_in u (changed u (in_phase phase) s.rows)) u it) ≡ weight (grant p u it) = ap (λ n. weight (grant n u it)) at in
      omega (arith, step u p r (in_phase phase) own stands named, before, there, ticket, place)

  -- it has nothing out, and gets nothing
  stays : (u p : ℕ) (r : Row) (f : Row → Option Row) → HaveOwnTickets s.rows → StandsAt s.rows p r → r.key.ticket ≡ u → verdict_at r.phase ≡ None
      → weigh weight p (f r) ≡ 0
      → whole (changed u f s.rows) ≡ whole s.rows
  stays u p r f own stands named none nothing =
      let before : weigh weight p (Some r) ≡ 0 = ap (λ (v : Option Verdict). total weight (grant_at p r.key.ticket v)) none in
      omega (arith, step u p r f own stands named, before, nothing)

  -- what it has out is taken from it
  takes : (u p : ℕ) (r : Row) (f : Row → Option Row) → HaveOwnTickets s.rows → StandsAt s.rows p r → r.key.ticket ≡ u → weigh weight p (f r) ≡ 0
      → whole (changed u f s.rows) + total (only u weight) (outstanding s.rows) ≡ whole s.rows
  takes u p r f own stands named nothing = omega (arith, step u p r f own stands named, of_ticket weight s.rows p u r own stands named, nothing)

  -- the placement of the row that is in no place
  put_books : (t : ℕ) (old : Stage) (e : Entry) (at : Scene) (cursor : ℕ) (pin avoid : Option ℕ) → IsConsistent s.rows s.ticket old
      → HaveOwnTickets (after setup s e).rows → loose_ticket old ≡ Some t → IsPut at cursor pin avoid t e
      → whole (after setup s e).rows ≡ whole s.rows + given weight (after setup s e).rows e
  put_books t old (Direct u v) at cursor pin avoid is then one put =
      let it = is.owed t one in
      gives u it.place it.row (Serving v) (verdict.Serve v) is.tickets then it.stands (it.named ∙ sym put.0) (ap verdict_at it.loose) refl
  put_books t old (Joined u q) at cursor pin avoid is then one put =
      let it = is.owed t one in
      omega (arith, stays u it.place it.row (in_phase (Waiting q s.moment)) is.tickets it.stands (it.named ∙ sym put.0) (ap verdict_at it.loose) refl)
  put_books t old (Left u NoServer) at cursor pin avoid is then one put =
      let it = is.owed t one in
      gives u it.place it.row (Told NoServer) (verdict.Told NoServer) is.tickets then it.stands (it.named ∙ sym put.0) (ap verdict_at it.loose) refl
  put_books t old e at cursor pin avoid is then one put = absurd put

  -- every entry that may come and is no event
  pub books : (n : ℕ) (t : Stage) (e : Entry) → begins_event e ≡ false → IsConsistent s.rows s.ticket t → MayCome (point_of setup s n) t e
      → whole (after setup s e).rows + kept weight t s.rows
      ≡ whole s.rows + kept weight (next_stage t e) (after setup s e).rows + given weight (after setup s e).rows e
  books n t e none is may = by_entry t e none is may (consistent_after (point_of setup s n) t e is may).tickets
    where
      by_entry : (t : Stage) (e : Entry) → begins_event e ≡ false → IsConsistent s.rows s.ticket t → MayCome (point_of setup s n) t e
          → HaveOwnTickets (after setup s e).rows
          → whole (after setup s e).rows + kept weight t s.rows
          ≡ whole s.rows + kept weight (next_stage t e) (after setup s e).rows + given weight (after setup s e).rows e
      by_entry t (Arrive m a) none is may then = false_true (sym none)
      by_entry t (Done m u) none is may then = false_true (sym none)
      by_entry t (Fail m u) none is may then = false_true (sym none)
      by_entry t (Abort m u) none is may then = false_true (sym none)
      by_entry t (Tick m) none is may then = false_true (sym none)
      by_entry t (Check m v ok) none is may then = false_true (sym none)
      by_entry t (Limit m v k) none is may then = false_true (sym none)
      by_entry t (Granted u q v) none is may then =
          let it = may.1 in
          omega (
            arith,
            gives u it.live.0 it.row (Serving v) (verdict.Serve v) is.tickets then it.live.1 it.named (waits_none q it.row.phase it.waits) refl,
            kept_grant weight setup s t s.rows may.0,
            kept_granted weight t u v q (after setup s (Granted u q v)).rows,
          )
      by_entry (placing t) (Direct u v) none is may then = omega (arith, put_books t (placing t) (Direct u v) (scene setup s) s.cursor _ None is then refl may)
      by_entry (placing t) (Joined u q) none is may then = omega (arith, put_books t (placing t) (Joined u q) (scene setup s) s.cursor _ None is then refl may)
      by_entry (placing t) (Left u NoServer) none is may then =
          omega (arith, put_books t (placing t) (Left u NoServer) (scene setup s) s.cursor _ None is then refl may)
      by_entry (freed_by_failure t w) (Direct u v) none is may then =
          omega (arith, put_books t (freed_by_failure t w) (Direct u v) (scene setup s) s.cursor None (Some w) is then refl may.put)
      by_entry (freed_by_failure t w) (Joined u q) none is may then =
          omega (arith, put_books t (freed_by_failure t w) (Joined u q) (scene setup s) s.cursor None (Some w) is then refl may.put)
      by_entry (freed_by_failure t w) (Left u NoServer) none is may then =
          omega (arith, put_books t (freed_by_failure t w) (Left u NoServer) (scene setup s) s.cursor None (Some w) is then refl may.put)
      by_entry (freed_by_failure t w) (Left u Retries) none is may then =
          let it = is.owed t refl in
          omega (
            arith,
            gives u it.place it.row (Told Retries) (verdict.Told Retries) is.tickets then it.stands (it.named
                ∙ sym may.0) (ap verdict_at it.loose) refl,
          )
      by_entry (freed_by_failure t w) e none is may then = absurd may.put
      by_entry (returning t) (Freed u v) none is may then =
          let slot = may.1 in
          omega (
            arith,
            takes u slot.live.0 slot.row (in_phase Loose) is.tickets slot.live.1 slot.named refl,
            ap (λ n. total (only n weight) (outstanding s.rows)) may.0,
          )
      by_entry (failing t) (Freed u v) none is may then =
          let slot = may.1 in
          omega (
            arith,
            takes u slot.live.0 slot.row (in_phase Loose) is.tickets slot.live.1 slot.named refl,
            ap (λ n. total (only n weight) (outstanding s.rows)) may.0,
          )
      by_entry (failing t) (Retried u v k) none is may then =
          let slot = may.1 in
          let p = slot.live.0 in
          let r = slot.row in
          let out : total (only u weight) (outstanding s.rows) ≡ weigh weight p (Some r) = of_ticket weight s.rows p u r is.tickets slot.live.1 slot.named in
          let there : weigh weight p (Some r) ≡ weight (grant p r.key.ticket (verdict.Serve v)) + 0 =
          ap (λ (d : Option Verdict). total weight (grant_at p r.key.ticket d)) (serving_at v r.phase slot.phase) in
          let ticket : weight (grant p r.key.ticket (verdict.Serve v)) ≡ weight (grant p u (verdict.Serve v)) =
          ap (λ n. weight (grant p n (verdict.Serve v))) slot.named in
          let place : weight (grant (place_in u s.rows) u (verdict.Serve v)) ≡ weight (grant p u (verdict.Serve v)) =
          ap (λ n. weight (grant n u (verdict.Serve v))) (place_at s.rows u p r is.tickets slot.live.1 slot.named) in
          omega (arith, out, there, ticket, place, ap (λ n. total (only n weight) (outstanding s.rows)) may.0)
      by_entry (ending t) (Ended u) none is may then =
          let it = is.owed t refl in
          omega (arith, stays u it.place it.row gone is.tickets it.stands (it.named ∙ sym may) (ap verdict_at it.loose) refl)
      by_entry (returning t) (Ended u) none is may then =
          let told = may.1 in
          omega (arith, takes u told.live.0 told.row gone is.tickets told.live.1 told.named refl, ap (λ n. total (only n weight) (outstanding s.rows)) may.0)
      by_entry (aborting t) (Left u Aborted) none is may then =
          let it = may.1 in
          omega (
            arith,
            gives u it.live.0 it.row (Told Aborted) (verdict.Told Aborted) is.tickets then it.live.1 it.named
                (waiting_none it.row.phase it.phase) refl,
          )
      by_entry telling (Left u Timeout) none is may then =
          omega (
            arith,
            gives u may.expired.0.0 may.row (Told Timeout) (verdict.Told Timeout) is.tickets then may.expired.0.1 may.named
                (expired_none setup s.moment may.row.phase may.expired.1) refl,
          )
      by_entry (checking w) (Health v true) none is may then = omega arith
      by_entry (checking w) (Health v false) none is may then = omega arith
      by_entry (emptying w) (Moved u v) none is may then =
          let it = may.2 in
          omega (arith, stays u it.live.0 it.row (in_backend_since s.moment) is.tickets it.live.1 it.named (waits_none (Server v) it.row.phase it.waits) refl)
      by_entry t e none is may then = absurd may
