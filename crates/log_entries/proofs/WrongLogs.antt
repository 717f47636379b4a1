-- Why the worked logs are not legal.
use Rattle.std.proofs.Common.{◌≡◌, ◌≢◌, ◌+◌, ◌*◌, ◌<◌, ◌≤◌, ◌^◌, ◌≤ℤ◌, pos, None, Some, refl, arith, Greater}
use Rattle.std.proofs.lemmas.Int.{ints}
use Rattle.due_key.specs.Order.{key_cmp}
use Rattle.log_entries.specs.declared.row.Phase.TheVariants.{Waiting}
use Rattle.log_entries.specs.declared.queue.Queue.TheVariants.{Backend, Server}
use Rattle.log_entries.specs.declared.row.Row.{Row}
use Rattle.log_entries.specs.Legal.{IsLegal}
use Rattle.log_entries.proofs.FourPlaces.{for_inner_rows, second_row, third_row}
use Rattle.log_entries.specs.Worked.{worked, worked_by_two, worked_by_weights, worked_by_queues, worked_by_room, first_come_first_served}
use Rattle.log_entries.specs.Worked.{idle_slot, grant_above_the_limit, due_date_of_no_offset, class_out_of_range, moment_out_of_range}
use Rattle.log_entries.specs.Worked.{end_is_missing, ticket_left_out, backend_head_first}
use Rattle.log_entries.specs.Worked.{more_loaded_server, tie_against_the_cursor, loads_without_weights, loads_without_queues, waits_beside_room}

pub not_first_come : IsLegal (worked first_come_first_served) → ⊥
not_first_come legal =
    let grant = legal.lawful.judged.1.1.1.1.1.1.1.1.1.0.1 in
    for_inner_rows (λ r. r.key.ticket ≡ 2 → key_cmp r.key (third_row None (Waiting Backend 2)).key ≢ Greater
    → ⊥) (second_row None (Waiting Backend 1)) (third_row None (Waiting Backend 2))
    (λ named least. least refl)
    (λ named least. let e : 3 ≡ 2 = named in absurd (omega (arith, e)))
    grant.row grant.live grant.named (grant.least (third_row None (Waiting Backend 2)) (2, refl) refl)

pub not_idle : IsLegal (worked idle_slot) → ⊥
not_idle legal = legal.lawful.settled 0 (refl, (_, (1, refl), refl))

pub not_above_limit : IsLegal (worked grant_above_the_limit) → ⊥
not_above_limit legal = let free = legal.lawful.judged.1.1.1.1.1.1.0.1.next.takes.0 in cc

pub not_without_offset : IsLegal (worked due_date_of_no_offset) → ⊥
not_without_offset legal =
    let due = legal.lawful.judged.0.1.due in
    let high = due.1.upper in
    let sum = due.2 in
    absurd (omega (arith, ints))

pub not_of_no_class : IsLegal (worked class_out_of_range) → ⊥
not_of_no_class legal = let above : pos 2048 ≤ℤ pos 2047 = legal.lawful.judged.0.1.class.upper in absurd (omega (arith, ints))

pub not_at_no_moment : IsLegal (worked moment_out_of_range) → ⊥
not_at_no_moment legal = let low : 2 ^ 62 < 2 ^ 62 = legal.lawful.judged.0.0.within in absurd (omega arith)

pub not_without_end : IsLegal (worked end_is_missing) → ⊥
not_without_end legal = legal.lawful.judged.1.1.1.1.1.1.1.1.0.0

pub not_left_out : IsLegal (worked ticket_left_out) → ⊥
not_left_out legal = let next : 2 ≡ 0 + 1 = legal.lawful.judged.0.1.numbered in absurd (omega arith)

-- of the two that may take the slot, the row in the backend's queue hasn't the least key
pub not_backend_first : IsLegal (worked backend_head_first) → ⊥
not_backend_first legal =
    let grant = legal.lawful.judged.1.1.1.1.1.1.1.1.1.0.1 in
    for_inner_rows (λ r. r.key.ticket ≡ 3 → key_cmp r.key own_row.key ≢ Greater → ⊥) own_row late_row
    (λ named least. let e : 2 ≡ 3 = named in absurd (omega (arith, e)))
    (λ named least. least refl)
    grant.row grant.live grant.named (grant.least own_row (1, refl) refl)
  where
    own_row : Row
    own_row = record { key = record { class = pos 0; due = pos 1; ticket = 2 }; pin = Some 0; failures = 0; phase = Waiting (Server 0) 1 }

    late_row : Row
    late_row = record { key = record { class = pos 0; due = pos 2; ticket = 3 }; pin = None; failures = 0; phase = Waiting Backend 2 }

pub not_more_loaded : IsLegal (worked_by_two more_loaded_server) → ⊥
not_more_loaded legal =
    let no_more : 1 ≤ 0 = legal.lawful.judged.1.1.1.0.1.0.least 1 (refl, λ avoids. let e : None ≡ Some 1 = avoids in cc) in
    absurd (omega arith)

pub not_against_cursor : IsLegal (worked_by_two tie_against_the_cursor) → ⊥
not_against_cursor legal =
    let nearer : 2 ≤ 1 = legal.lawful.judged.1.0.1.0.nearest 0 (refl, λ avoids. let e : None ≡ Some 0 = avoids in cc) (λ third own. omega arith) in
    absurd (omega arith)

pub not_by_loads_alone : IsLegal (worked_by_weights loads_without_weights) → ⊥
not_by_loads_alone legal =
    let no_more : 1 * 2 ≤ 1 * 1 = legal.lawful.judged.1.1.1.1.1.0.1.0.least 1 (refl, λ avoids. let e : None ≡ Some 1 = avoids in cc) in
    absurd (omega arith)

pub not_without_queues : IsLegal (worked_by_queues loads_without_queues) → ⊥
not_without_queues legal =
    let no_more : 2 ≤ 1 = legal.lawful.judged.1.1.1.1.1.1.1.0.1.0.least 1 (refl, λ avoids. let e : None ≡ Some 1 = avoids in cc) in
    absurd (omega arith)

pub not_beside_room : IsLegal (worked_by_room waits_beside_room) → ⊥
not_beside_room legal = legal.lawful.judged.1.1.1.0.1.2 0 refl
