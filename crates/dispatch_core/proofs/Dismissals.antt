-- Aborts and ticks as compositions of entries.
use Rattle.std.proofs.Common.{◌≡◌, ℕ, ◌+◌, ◌≤◌, not, Bool, None, length, refl, ap, sym, ◌∙◌, subst, arith}
use Rattle.std.proofs.lemmas.Bool.{not-false}
use Rattle.log_entries.specs.declared.entry.Entry.TheVariants.{Abort, Left}
use Rattle.base_verdict.specs.declared.cause.Cause.TheVariants.{Aborted}
use Rattle.log_entries.specs.declared.row.Phase.{Phase}
use Rattle.log_entries.specs.Histories.{History, state_of, refuses_abort}
use Rattle.log_entries.specs.Legal.{IsLegal, AddsEvent}
use Rattle.log_entries.specs.Judgement.{Stage, aborting, granting, IsInPhase, next_stage}
use Rattle.log_entries.specs.Refusals.{is_waiting, ticket_refusal}
use Rattle.log_entries.specs.States.{State}
use Rattle.log_entries.proofs.Accepted.{accepted_room, row_of_accepted}
use Rattle.log_entries.proofs.Judged.{after_all-push, stage_after-push}
use Rattle.dispatch_core.specs.Steps.{Settles}
use Rattle.dispatch_state.specs.Histories.{with_entry, stage_of, waiting_of, MayComeNext, MayGrantNext, HasEntryRoom, IsFound}
use Rattle.dispatch_state.specs.declared.position.Ticketed.{Ticketed}
use Rattle.dispatch_core.proofs.Standing.{of_ticket}
use Rattle.dispatch_core.proofs.Calls.{may_next, legal_places}
use Rattle.dispatch_core.proofs.Going.{goes_entry, room_left, begun_room, adds}
use Rattle.dispatch_state.proofs.Placing.{has_room, over_granting, may_granting}

-- where no event of a ticket is refused, the log has room for it
pub ticket_room : (wrong : Phase → Bool) (h : History) (t : ℕ) → ticket_refusal wrong h.setup (state_of h) (length h.log) t ≡ None → HasEntryRoom h
ticket_room wrong h t accepted = has_room h (accepted_room wrong h.setup (state_of h) (length h.log) t accepted)

-- a ticket whose abort nothing refuses waits
abort_waits : (h : History) (t : ℕ) → refuses_abort h t ≡ None → IsInPhase is_waiting (state_of h).rows t
abort_waits h t accepted =
    let it = row_of_accepted (λ (p : Phase). not (is_waiting p)) h.setup (state_of h) (length h.log) t accepted in
    record { row = it.row; live = (it.place, it.stands); named = it.named; phase = not-false (is_waiting it.row.phase) it.right }

module _ (h one : History) (m ticket : ℕ) (it : Ticketed) (found : IsFound (state_of h).rows ticket it) (given : refuses_abort h ticket ≡ None)
    (begun : one ≡ with_entry h (Abort m it.ticket)) where
  abbrev t : ℕ
  t = it.ticket

  accepted : refuses_abort h t ≡ None
  accepted = subst (λ n. refuses_abort h n ≡ None) (sym found.named) given

  -- and still does once the abort has begun
  pub aborted_waits : IsInPhase is_waiting (state_of one).rows t
  aborted_waits =
      subst (λ (x : History). IsInPhase is_waiting (state_of x).rows t) (sym begun)
      (subst (λ (s : State). IsInPhase is_waiting s.rows t) (sym (after_all-push h.setup h.base h.log (Abort m t)))
      (abort_waits h t accepted))

  -- so that it may be told
  pub may_abort : MayComeNext one (Left t Aborted)
  may_abort =
      subst (λ (x : History). MayComeNext x (Left t Aborted)) (sym begun)
      (may_next h (Abort m t) (Left t Aborted) (aborting t) refl (refl, abort_waits h t accepted))

  begun_stage : stage_of one ≡ aborting t
  begun_stage = ap stage_of begun ∙ stage_after-push granting h.log (Abort m t)

  module _ (two : History) (told : two ≡ with_entry one (Left t Aborted)) where
    told_stage : stage_of two ≡ granting
    told_stage = ap stage_of told ∙ stage_after-push granting one.log (Left t Aborted) ∙ ap (λ (x : Stage). next_stage x (Left t Aborted)) begun_stage

    -- all is settled then
    pub abort_may_grant : MayGrantNext two
    abort_may_grant = may_granting two told_stage

    pub abort_settles : IsLegal h → length two.log + waiting_of two ≤ two.setup.log
    abort_settles legal =
        let begun_with = begun_room h one (Abort m t) (ticket_room (λ (p : Phase). not (is_waiting p)) h t accepted) (legal_places h legal) begun in
        let room = begun_with.room in
        room_left one two (goes_entry one two (Left t Aborted) told refl) 1 (omega arith) (omega arith) begun_with.places

    pub abort_adds : (now : History) → Settles two now → AddsEvent h now (Abort m ticket)
    abort_adds now settled =
        adds h one two now (Abort m ticket) refl (of_ticket h one (λ n. Abort m n) ticket it found begun) (goes_entry one two (Left t Aborted) told refl)
        (over_granting two told_stage) settled
