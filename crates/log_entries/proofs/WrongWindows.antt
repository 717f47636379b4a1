-- Why the worked logs of limits and windows are not legal.
use Rattle.std.proofs.Common.{◌≡◌, ◌+◌, ◌≤◌, pos, ◌+ℤ◌, ◌≤ℤ◌, None, Some, refl, arith}
use Rattle.std.proofs.lemmas.Int.{ints}
use Rattle.log_entries.specs.Legal.{IsLegal}
use Rattle.log_entries.specs.WorkedWindows.{worked_by_pairs, grant_at_the_lowered_limit, raised_limit_grants_nothing, limit_of_no_server}
use Rattle.log_entries.specs.WorkedWindows.{class_of_the_base_is_out_of_range, due_date_of_the_base_is_too_late, wait_of_the_base_is_to_come}
use Rattle.log_entries.specs.WorkedWindows.{waits_of_the_base_are_forgotten, cursor_is_reset, tickets_begin_anew}

pub not_at_the_lowered_limit : IsLegal (worked_by_pairs grant_at_the_lowered_limit) → ⊥
not_at_the_lowered_limit legal = let free = legal.lawful.judged.1.1.1.1.1.1.1.1.1.1.0.1.next.takes.0 in cc

pub not_idle_after_a_raise : IsLegal (worked_by_pairs raised_limit_grants_nothing) → ⊥
not_idle_after_a_raise legal = legal.lawful.settled 0 (refl, (_, (2, refl), refl))

pub not_of_no_server : IsLegal (worked_by_pairs limit_of_no_server) → ⊥
not_of_no_server legal = let accepted = legal.lawful.judged.1.1.1.1.1.1.0.accepted in cc

pub not_of_no_class_before : IsLegal class_of_the_base_is_out_of_range → ⊥
not_of_no_class_before legal = let above : pos 2048 ≤ℤ pos 2047 = (legal.begins.timed_rows _ (2, refl)).class.upper in absurd (omega (arith, ints))

pub not_due_too_late : IsLegal due_date_of_the_base_is_too_late → ⊥
not_due_too_late legal =
    let due = (legal.begins.timed_rows _ (2, refl)).due in
    let low : due.0 ≤ 2 = due.1 in
    let most : due.2.0 ≤ℤ pos 524287 = due.2.1.upper in
    let made : pos 524290 ≡ (pos due.0 +ℤ due.2.0) = due.2.2 in
    absurd (omega (arith, ints))

pub not_waiting_to_come : IsLegal wait_of_the_base_is_to_come → ⊥
not_waiting_to_come legal = let later : 3 ≤ 2 = (legal.begins.timed_rows _ (2, refl)).since in absurd (omega arith)

pub not_forgotten : IsLegal waits_of_the_base_are_forgotten → ⊥
not_forgotten legal = legal.lawful.settled 0 (refl, (_, (1, refl), refl))

pub not_reset : IsLegal cursor_is_reset → ⊥
not_reset legal =
    let nearer : 2 ≤ 1 = legal.lawful.judged.1.0.1.0.nearest 1 (refl, λ avoids. let e : None ≡ Some 1 = avoids in cc) (λ third own. omega arith) in
    absurd (omega arith)

pub not_anew : IsLegal tickets_begin_anew → ⊥
not_anew legal = let next : 1 ≡ 1 + 1 = legal.lawful.judged.0.1.numbered in absurd (omega arith)
