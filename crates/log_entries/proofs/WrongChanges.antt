-- Why the worked logs of failures, waits that are too long, aborts and checks are not legal.
use Rattle.std.proofs.Common.{◌≡◌, ◌≢◌, ℕ, ◌+◌, ◌≤◌, pos, [], ◌∷◌, Option, None, Some, refl, arith, Greater}
use Rattle.due_key.specs.Order.{key_cmp}
use Rattle.log_entries.specs.declared.row.Phase.TheVariants.{Waiting, Serving}
use Rattle.log_entries.specs.declared.queue.Queue.{Queue}
use Rattle.log_entries.specs.declared.queue.Queue.TheVariants.{Backend, Server}
use Rattle.log_entries.specs.declared.row.Row.{Row}
use Rattle.log_entries.specs.Legal.{IsLegal}
use Rattle.log_entries.specs.Judgement.{HasExpired}
use Rattle.log_entries.specs.Rows.{IsRow}
use Rattle.log_entries.proofs.FourPlaces.{for_parted_rows, for_three_rows, first_row, second_row, third_row}
use Rattle.log_entries.specs.Worked.{worked}
use Rattle.log_entries.specs.WorkedChanges.{worked_with_checks, worked_in_time, worked_with_a_retry, retry_past_the_retries}
use Rattle.log_entries.specs.WorkedChanges.{failure_counted_twice, redispatch_keeps_the_pin, redispatch_to_the_failed_server, redispatch_before_the_grant}
use Rattle.log_entries.specs.WorkedChanges.{no_server_beside_a_usable_one, told_one_millisecond_early, told_by_falling_ticket, expired_and_not_told}
use Rattle.log_entries.specs.WorkedChanges.{abort_of_a_served_request, failure_of_a_waiting_request, fall_leaves_its_queue, moves_by_ticket}
use Rattle.log_entries.specs.WorkedChanges.{grant_before_the_moves, rise_grants_nothing, rise_is_not_told, down_after_its_rise}
use Rattle.log_entries.specs.WorkedChanges.{down_though_it_answers, fall_grants_nothing, moved_without_a_fall, redispatched_by_a_new_due_date}
use Rattle.log_entries.specs.WorkedChanges.{served_by_a_fallen_server}

-- of the three, the row of ticket 2 hasn't the least key
not_before_3 : (pin : Option ℕ) (queue : Queue) (row : Row)
    → IsRow (Some (first_row pin 0 (Serving 0)) ∷ Some (second_row pin (Waiting queue 1)) ∷ Some (third_row pin (Waiting queue 2)) ∷ None ∷ []) row
    → row.key.ticket ≡ 2 → key_cmp row.key (third_row pin (Waiting queue 2)).key ≢ Greater → ⊥
not_before_3 pin queue =
    for_three_rows (λ r. r.key.ticket ≡ 2 → key_cmp r.key (third_row pin (Waiting queue 2)).key ≢ Greater
    → ⊥) (first_row pin 0 (Serving 0)) (second_row pin (Waiting queue 1)) (third_row pin (Waiting queue 2))
    (λ named least. let e : 1 ≡ 2 = named in absurd (omega (arith, e)))
    (λ named least. least refl)
    (λ named least. let e : 3 ≡ 2 = named in absurd (omega (arith, e)))

pub not_past_the_retries : IsLegal (worked retry_past_the_retries) → ⊥
not_past_the_retries legal = let retried = legal.lawful.judged.1.1.1.1.1.1.1.1.1.0.3 in cc

pub not_counted_twice : IsLegal (worked failure_counted_twice) → ⊥
not_counted_twice legal = let counted : 1 ≡ 2 = legal.lawful.judged.1.1.1.0.2 in absurd (omega (arith, counted))

pub not_with_the_pin : IsLegal (worked_with_checks redispatch_keeps_the_pin) → ⊥
not_with_the_pin legal = let room = legal.lawful.judged.1.1.1.1.1.1.1.1.1.0.put.1.0.member.0 in cc

pub not_to_the_failed : IsLegal (worked_with_checks redispatch_to_the_failed_server) → ⊥
not_to_the_failed legal = let only : 1 ≡ 0 = legal.lawful.judged.1.1.1.1.0.put.1.0.member.1 refl 1 refl in absurd (omega (arith, only))

pub not_before_the_grant : IsLegal (worked_with_checks redispatch_before_the_grant) → ⊥
not_before_the_grant legal = legal.lawful.judged.1.1.1.1.1.1.1.1.0.settled 0 (refl, (_, (2, refl), refl))

pub not_beside_a_usable_one : IsLegal (worked no_server_beside_a_usable_one) → ⊥
not_beside_a_usable_one legal = legal.lawful.judged.1.0.1.1 0 refl

pub not_early : IsLegal (worked_in_time told_one_millisecond_early) → ⊥
not_early legal =
    let first = legal.lawful.judged.1.1.1.1.1.1.1.0 in
    for_three_rows (λ r. r.key.ticket ≡ 2 → HasExpired (worked_in_time []).setup 5 r.phase
    → ⊥) (first_row None 0 (Serving 0)) (second_row None (Waiting Backend 1)) (third_row None (Waiting Backend 2))
    (λ named expired. expired)
    (λ named expired. let since : 1 + 5 ≤ 5 = expired.1 in absurd (omega arith))
    (λ named expired. let e : 3 ≡ 2 = named in absurd (omega (arith, e)))
    first.row first.expired.0 first.named first.expired.1

pub not_by_falling_ticket : IsLegal (worked_in_time told_by_falling_ticket) → ⊥
not_by_falling_ticket legal =
    let first : 3 ≤ 2 = legal.lawful.judged.1.1.1.1.1.1.1.0.first (second_row None (Waiting Backend 1)) ((1, refl), (omega arith, omega arith)) in
    absurd (omega arith)

pub not_untold : IsLegal (worked_in_time expired_and_not_told) → ⊥
not_untold legal = legal.lawful.whole (third_row None (Waiting Backend 2)) ((2, refl), (omega arith, omega arith))

pub not_while_served : IsLegal (worked abort_of_a_served_request) → ⊥
not_while_served legal = let accepted = legal.lawful.judged.1.1.0.accepted in cc

pub not_while_waiting : IsLegal (worked failure_of_a_waiting_request) → ⊥
not_while_waiting legal = let accepted = legal.lawful.judged.1.1.1.1.1.1.0.accepted in cc

pub not_left_behind : IsLegal (worked_with_checks fall_leaves_its_queue) → ⊥
not_left_behind legal = legal.lawful.whole refl (second_row (Some 0) (Waiting (Server 0) 1)) (1, refl) refl

pub not_by_ticket : IsLegal (worked_with_checks moves_by_ticket) → ⊥
not_by_ticket legal =
    let moved = legal.lawful.judged.1.1.1.1.1.1.1.1.0.2 in
    not_before_3 (Some 0) (Server 0) moved.row moved.live moved.named (moved.least (third_row (Some 0) (Waiting (Server 0) 2)) (2, refl) refl)

pub not_before_the_moves : IsLegal (worked_with_checks grant_before_the_moves) → ⊥
not_before_the_moves legal = legal.lawful.judged.1.1.1.1.1.1.1.1.1.0.0 refl (second_row (Some 0) (Waiting (Server 0) 1)) (1, refl) refl

pub not_idle_after_a_rise : IsLegal (worked_with_checks rise_grants_nothing) → ⊥
not_idle_after_a_rise legal = legal.lawful.settled 0 (refl, (_, (1, refl), refl))

pub not_without_a_word : IsLegal (worked_with_checks rise_is_not_told) → ⊥
not_without_a_word legal = let over = legal.lawful.judged.1.1.1.1.1.1.1.0.0 in cc

pub not_down_after : IsLegal (worked_with_checks down_after_its_rise) → ⊥
not_down_after legal = let over = legal.lawful.whole in cc

pub not_down_though : IsLegal (worked_with_checks down_though_it_answers) → ⊥
not_down_though legal = let up = legal.lawful.judged.1.0.1 in cc

pub not_idle_after_a_fall : IsLegal (worked_with_checks fall_grants_nothing) → ⊥
not_idle_after_a_fall legal = legal.lawful.settled 1 (refl, (_, (1, refl), refl))

pub not_moved_alone : IsLegal (worked_with_checks moved_without_a_fall) → ⊥
not_moved_alone legal = legal.lawful.judged.1.1.1.1.1.1.0

pub not_due_anew : IsLegal (worked_with_a_retry redispatched_by_a_new_due_date) → ⊥
not_due_anew legal =
    let grant = legal.lawful.judged.1.1.1.1.1.1.1.1.1.1.1.1.1.0.1 in
    for_parted_rows (λ r. r.key.ticket ≡ 3 → key_cmp r.key own_row.key ≢ Greater → ⊥) own_row late_row
    (λ named least. let e : 1 ≡ 3 = named in absurd (omega (arith, e)))
    (λ named least. least refl)
    grant.row grant.live grant.named (grant.least own_row (0, refl) refl)
  where
    own_row : Row
    own_row = first_row None 1 (Waiting Backend 10)

    late_row : Row
    late_row = record { key = record { class = pos 0; due = pos 8; ticket = 3 }; pin = None; failures = 0; phase = Waiting Backend 0 }

pub not_by_a_fallen_server : IsLegal (worked_with_checks served_by_a_fallen_server) → ⊥
not_by_a_fallen_server legal = let up = legal.lawful.judged.1.1.1.0.1.0.member.0 in cc
