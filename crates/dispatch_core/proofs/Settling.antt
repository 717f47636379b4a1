-- Grants until all is settled.
use Rattle.std.proofs.Common.{◌≡◌, ◌+◌, ℕ, ◌≤◌, [], ◌∷◌, ◌++◌, IsTrue, length, refl, ap, sym, ◌∙◌, subst, arith}
use Rattle.std.proofs.Common.{length-append}
use Rattle.log_entries.specs.declared.entry.Entry.{Entry}
use Rattle.log_entries.specs.declared.entry.Entry.TheVariants.{Granted}
use Rattle.log_entries.specs.Grants.{IsSettled}
use Rattle.log_entries.specs.declared.queue.Queue.{Queue}
use Rattle.log_entries.specs.declared.row.Phase.TheVariants.{Serving}
use Rattle.log_entries.specs.declared.setup.Setup.{Setup}
use Rattle.log_entries.specs.Histories.{History, state_of}
use Rattle.log_entries.specs.Judgement.{Stage, freed_by_failure, telling, checking, emptying, granting, EventIsOver, MayGrant, next_stage}
use Rattle.log_entries.specs.Retries.{are_redispatched}
use Rattle.log_entries.specs.Rows.{pin_of, in_phase}
use Rattle.log_entries.specs.States.{State, after}
use Rattle.log_entries.proofs.Judged.{stage_after-push, after_all-push}
use Rattle.dispatch_core.proofs.Phases.{failures_stay, pins_stay}
use Rattle.dispatch_core.proofs.Standing.{at_changed, at_after}
use Rattle.dispatch_state.specs.declared.position.Ticketed.{Ticketed}
use Rattle.dispatch_core.specs.Steps.{GoesOn, Settles}
use Rattle.dispatch_core.proofs.Going.{goes_none, goes_more}
use Rattle.dispatch_state.proofs.Placing.{longer}
use Rattle.dispatch_state.specs.Histories.{with_entry, stage_of, scene_of, waiting_of, IsOverNext, MayGrantNext, IsGrant, IsJudged, IsTicketAt}

-- a grant owes nothing after it
grant_over : (setup : Setup) (s : State) (t : Stage) (u v : ℕ) (q : Queue) → EventIsOver setup s t
    → EventIsOver setup (after setup s (Granted u q v)) (next_stage t (Granted u q v))
grant_over setup s granting u v q over = tt
grant_over setup s telling u v q over = tt
grant_over setup s (checking w) u v q over = tt
grant_over setup s (emptying w) u v q over = tt
grant_over setup s t u v q over = absurd over

-- and more may come
grant_more : (setup : Setup) (s : State) (t : Stage) (u v : ℕ) (q : Queue) → MayGrant setup s t
    → MayGrant setup (after setup s (Granted u q v)) (next_stage t (Granted u q v))
grant_more setup s (freed_by_failure l w) u v q may = subst (λ n. IsTrue (are_redispatched setup n)) (sym (failures_stay l u (Serving v) s.rows)) may
grant_more setup s granting u v q may = tt
grant_more setup s telling u v q may = tt
grant_more setup s (checking w) u v q may = tt
grant_more setup s (emptying w) u v q may = tt
grant_more setup s t u v q may = absurd may

-- grants so far, and room for as many more as requests wait
pub record GrantsSince (old now : History) : Type 0 where
  pub goes : GoesOn old now
  pub over : IsOverNext old → IsOverNext now
  pub freed_by_failure : (ticket server : ℕ) → stage_of old ≡ freed_by_failure ticket server → stage_of now ≡ freed_by_failure ticket server
  pub may_grant : MayGrantNext now
  pub room : length now.log + waiting_of now ≤ now.setup.log
  pub counted : length goes.entries + waiting_of now ≡ waiting_of old
  pub pins : (ticket : ℕ) → pin_of ticket (state_of now).rows ≡ pin_of ticket (state_of old).rows
  pub places : (it : Ticketed) → IsTicketAt (state_of old).rows it → IsTicketAt (state_of now).rows it

pub since_none : (h : History) → MayGrantNext h → length h.log + waiting_of h ≤ h.setup.log → GrantsSince h h
since_none h may_grant room = record {
  goes = goes_none h;
  over = λ over. over;
  freed_by_failure = λ ticket server stage. stage;
  may_grant = may_grant;
  room = room;
  counted = omega arith;
  pins = λ ticket. refl;
  places = λ it at. at;
}

pub since_more : (old now next : History) → GrantsSince old now → IsGrant now next → GrantsSince old next
since_more old now next since grant =
    let e : Entry = Granted grant.ticket grant.queue grant.server in
    record {
      goes = goes_more old now next e since.goes grant.grants refl;
      over = λ over. goes_on EventIsOver (grant_over now.setup (state_of now) (stage_of now) grant.ticket grant.server grant.queue (since.over over));
      freed_by_failure =
          λ ticket server stage. ap stage_of grant.grants ∙ stage_after-push granting now.log e
          ∙ ap (λ (t : Stage). next_stage t e) (since.freed_by_failure ticket server stage);
      may_grant = goes_on MayGrant (grant_more now.setup (state_of now) (stage_of now) grant.ticket grant.server grant.queue grant.lawful.0);
      room =
          let longer : length next.log ≡ length now.log + 1 = longer now next e grant.grants in
          let limit : next.setup.log ≡ now.setup.log = ap (λ (h : History). h.setup.log) grant.grants in
          let fewer = grant.fewer in
          let room = since.room in
          omega arith;
      counted =
          let longer : length (since.goes.entries ++ e ∷ []) ≡ length since.goes.entries + 1 = length-append since.goes.entries (e ∷ []) in
          let fewer = grant.fewer in
          let counted = since.counted in
          omega arith;
      pins = λ ticket. same_pins ticket ∙ since.pins ticket;
      places = λ it at. at_after now next e it grant.grants (at_changed (state_of now).rows grant.ticket (in_phase (Serving grant.server)) it (λ r. (
        record r {
          phase =
              Serving grant.server;
        },
        refl,
        refl,
      ))) (since.places it at);
    }
  where
    same_pins : (ticket : ℕ) → pin_of ticket (state_of next).rows ≡ pin_of ticket (state_of now).rows
    same_pins ticket =
        let entry : Entry = Granted grant.ticket grant.queue grant.server in
        ap (λ (x : History). pin_of ticket (state_of x).rows) grant.grants
        ∙ ap (λ (s : State). pin_of ticket s.rows) (after_all-push now.setup now.base now.log entry)
        ∙ pins_stay ticket grant.ticket (Serving grant.server) (state_of now).rows

    goes_on : (P : Setup → State → Stage → Type 0) → P now.setup (after now.setup (state_of now) (Granted grant.ticket grant.queue grant.server))
        (next_stage (stage_of now) (Granted grant.ticket grant.queue grant.server)) → P next.setup (state_of next) (stage_of next)
    goes_on P h =
        let entry : Entry = Granted grant.ticket grant.queue grant.server in
        subst (λ (x : History). P x.setup (state_of x) (stage_of x)) (sym grant.grants)
        (subst (λ (s : State). P now.setup s (stage_of (with_entry now entry))) (sym (after_all-push now.setup now.base now.log entry))
        (subst (λ (t : Stage). P now.setup (after now.setup (state_of now) entry) t) (sym (stage_after-push granting now.log entry)) h))

pub settles : (old now last : History) → GrantsSince old now → last ≡ now → IsJudged last → IsSettled (scene_of now) → Settles old last
settles old now last since same judged settled = subst (λ (h : History). Settles old h) (sym same) (record {
  goes = since.goes;
  over = since.over;
  freed_by_failure = since.freed_by_failure;
  may_grant = since.may_grant;
  few = (let counted = since.counted in omega arith);
  pins = λ ticket. since.pins ticket;
  places = since.places;
  judged = subst IsJudged same judged;
  settled = settled;
})
