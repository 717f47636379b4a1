-- Why the worked logs of servers that are closed and opened are not legal.
use Rattle.std.proofs.Common.{◌≡◌, Some, refl}
use Rattle.base_lists.proofs.Never.{false_true}
use Rattle.log_entries.specs.declared.queue.Queue.TheVariants.{Server}
use Rattle.log_entries.specs.declared.row.Phase.TheVariants.{Waiting}
use Rattle.log_entries.specs.Legal.{IsLegal}
use Rattle.log_entries.specs.Worked.{worked, worked_by_queues}
use Rattle.log_entries.specs.WorkedChanges.{worked_with_checks}
use Rattle.log_entries.specs.WorkedWindows.{worked_by_pairs}
use Rattle.log_entries.specs.WorkedClosings.{grant_at_a_closed_server, closing_stops_a_request, opened_server_grants_nothing, waits_for_a_closed_server}
use Rattle.log_entries.specs.WorkedClosings.{balanced_to_a_closed_server, no_server_beside_a_closed_one, closing_leaves_its_queue}
use Rattle.log_entries.specs.WorkedClosings.{closing_moves_without_redispatch}
use Rattle.log_entries.proofs.FourPlaces.{second_row}

pub not_at_a_closed_server : IsLegal (worked_by_pairs grant_at_a_closed_server) → ⊥
not_at_a_closed_server legal = let free = legal.lawful.judged.1.1.1.1.1.1.1.1.1.1.0.1.next.takes.0 in cc

pub not_stopped : IsLegal (worked_by_pairs closing_stops_a_request) → ⊥
not_stopped legal = legal.lawful.judged.1.1.1.1.1.1.1.0

pub not_idle_after_an_opening : IsLegal (worked_by_pairs opened_server_grants_nothing) → ⊥
not_idle_after_an_opening legal = legal.lawful.settled 0 (refl, (_, (2, refl), refl))

pub not_waiting_for_a_closed : IsLegal (worked_with_checks waits_for_a_closed_server) → ⊥
not_waiting_for_a_closed legal = let room = legal.lawful.judged.1.1.0.1.0.member.0 in cc

pub not_balanced_to_a_closed : IsLegal (worked_by_queues balanced_to_a_closed_server) → ⊥
not_balanced_to_a_closed legal = let room = legal.lawful.judged.1.1.0.1.0.member.0 in cc

pub not_beside_a_closed_one : IsLegal (worked no_server_beside_a_closed_one) → ⊥
not_beside_a_closed_one legal = legal.lawful.judged.1.1.0.1.1 0 refl

pub not_left_at_a_closed : IsLegal (worked_with_checks closing_leaves_its_queue) → ⊥
not_left_at_a_closed legal = legal.lawful.whole refl (second_row (Some 0) (Waiting (Server 0) 1)) (1, refl) refl

pub not_moved_without : IsLegal (worked closing_moves_without_redispatch) → ⊥
not_moved_without legal = false_true legal.lawful.judged.1.1.1.1.1.0.1
