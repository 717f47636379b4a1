use Rattle.log_entries.proofs.WrongClosings.{not_at_a_closed_server, not_stopped, not_idle_after_an_opening, not_waiting_for_a_closed, not_balanced_to_a_closed, not_beside_a_closed_one, not_left_at_a_closed, not_moved_without}
use Rattle.log_entries.proofs.WrongWindows.{not_of_no_class_before, not_due_too_late, not_waiting_to_come}
use Rattle.log_entries.proofs.WrongWindows.{not_at_the_lowered_limit, not_idle_after_a_raise, not_of_no_server, not_forgotten, not_reset, not_anew}
use Rattle.log_entries.proofs.WrongLogs.{not_first_come, not_idle, not_above_limit, not_without_offset, not_of_no_class}
use Rattle.log_entries.proofs.WrongLogs.{not_at_no_moment, not_without_end, not_left_out}
use Rattle.log_entries.proofs.WrongLogs.{not_backend_first, not_more_loaded, not_against_cursor, not_by_loads_alone, not_without_queues, not_beside_room}
use Rattle.log_entries.proofs.WrongChanges.{not_past_the_retries, not_counted_twice, not_with_the_pin, not_to_the_failed, not_before_the_grant}
use Rattle.log_entries.proofs.WrongChanges.{not_beside_a_usable_one, not_early, not_by_falling_ticket, not_untold, not_while_served}
use Rattle.log_entries.proofs.WrongChanges.{not_while_waiting, not_left_behind, not_by_ticket, not_before_the_moves, not_idle_after_a_rise}
use Rattle.log_entries.proofs.WrongChanges.{not_without_a_word, not_down_after, not_down_though, not_idle_after_a_fall, not_moved_alone}
use Rattle.log_entries.proofs.WrongChanges.{not_due_anew, not_by_a_fallen_server}
use Rattle.log_entries.proofs.laws.wrong_logs_are_not_legal.Goals as goal

pub returns-clause-first_come_first_served : goal.returns-clause-first_come_first_served
returns-clause-first_come_first_served c = not_first_come

pub returns-clause-idle_slot : goal.returns-clause-idle_slot
returns-clause-idle_slot c = not_idle

pub returns-clause-grant_above_the_limit : goal.returns-clause-grant_above_the_limit
returns-clause-grant_above_the_limit c = not_above_limit

pub returns-clause-due_date_of_no_offset : goal.returns-clause-due_date_of_no_offset
returns-clause-due_date_of_no_offset c = not_without_offset

pub returns-clause-end_is_missing : goal.returns-clause-end_is_missing
returns-clause-end_is_missing c = not_without_end

pub returns-clause-ticket_left_out : goal.returns-clause-ticket_left_out
returns-clause-ticket_left_out c = not_left_out

pub returns-clause-more_loaded_server : goal.returns-clause-more_loaded_server
returns-clause-more_loaded_server c = not_more_loaded

pub returns-clause-tie_against_the_cursor : goal.returns-clause-tie_against_the_cursor
returns-clause-tie_against_the_cursor c = not_against_cursor

pub returns-clause-waits_beside_room : goal.returns-clause-waits_beside_room
returns-clause-waits_beside_room c = not_beside_room

pub returns-clause-retry_past_the_retries : goal.returns-clause-retry_past_the_retries
returns-clause-retry_past_the_retries c = not_past_the_retries

pub returns-clause-failure_counted_twice : goal.returns-clause-failure_counted_twice
returns-clause-failure_counted_twice c = not_counted_twice

pub returns-clause-redispatch_keeps_the_pin : goal.returns-clause-redispatch_keeps_the_pin
returns-clause-redispatch_keeps_the_pin c = not_with_the_pin

pub returns-clause-redispatch_to_the_failed_server : goal.returns-clause-redispatch_to_the_failed_server
returns-clause-redispatch_to_the_failed_server c = not_to_the_failed

pub returns-clause-redispatch_before_the_grant : goal.returns-clause-redispatch_before_the_grant
returns-clause-redispatch_before_the_grant c = not_before_the_grant

pub returns-clause-no_server_beside_a_usable_one : goal.returns-clause-no_server_beside_a_usable_one
returns-clause-no_server_beside_a_usable_one c = not_beside_a_usable_one

pub returns-clause-told_one_millisecond_early : goal.returns-clause-told_one_millisecond_early
returns-clause-told_one_millisecond_early c = not_early

pub returns-clause-told_by_falling_ticket : goal.returns-clause-told_by_falling_ticket
returns-clause-told_by_falling_ticket c = not_by_falling_ticket

pub returns-clause-expired_and_not_told : goal.returns-clause-expired_and_not_told
returns-clause-expired_and_not_told c = not_untold

pub returns-clause-abort_of_a_served_request : goal.returns-clause-abort_of_a_served_request
returns-clause-abort_of_a_served_request c = not_while_served

pub returns-clause-failure_of_a_waiting_request : goal.returns-clause-failure_of_a_waiting_request
returns-clause-failure_of_a_waiting_request c = not_while_waiting

pub returns-clause-fall_leaves_its_queue : goal.returns-clause-fall_leaves_its_queue
returns-clause-fall_leaves_its_queue c = not_left_behind

pub returns-clause-moves_by_ticket : goal.returns-clause-moves_by_ticket
returns-clause-moves_by_ticket c = not_by_ticket

pub returns-clause-grant_before_the_moves : goal.returns-clause-grant_before_the_moves
returns-clause-grant_before_the_moves c = not_before_the_moves

pub returns-clause-rise_grants_nothing : goal.returns-clause-rise_grants_nothing
returns-clause-rise_grants_nothing c = not_idle_after_a_rise

pub returns-clause-rise_is_not_told : goal.returns-clause-rise_is_not_told
returns-clause-rise_is_not_told c = not_without_a_word

pub returns-clause-down_after_its_rise : goal.returns-clause-down_after_its_rise
returns-clause-down_after_its_rise c = not_down_after

pub returns-clause-served_by_a_fallen_server : goal.returns-clause-served_by_a_fallen_server
returns-clause-served_by_a_fallen_server c = not_by_a_fallen_server

pub returns-clause-grant_at_the_lowered_limit : goal.returns-clause-grant_at_the_lowered_limit
returns-clause-grant_at_the_lowered_limit c = not_at_the_lowered_limit

pub returns-clause-raised_limit_grants_nothing : goal.returns-clause-raised_limit_grants_nothing
returns-clause-raised_limit_grants_nothing c = not_idle_after_a_raise

pub returns-clause-limit_of_no_server : goal.returns-clause-limit_of_no_server
returns-clause-limit_of_no_server c = not_of_no_server

pub returns-clause-class_out_of_range : goal.returns-clause-class_out_of_range
returns-clause-class_out_of_range c = not_of_no_class

pub returns-clause-moment_out_of_range : goal.returns-clause-moment_out_of_range
returns-clause-moment_out_of_range c = not_at_no_moment

pub returns-clause-class_of_the_base_is_out_of_range : goal.returns-clause-class_of_the_base_is_out_of_range
returns-clause-class_of_the_base_is_out_of_range c = not_of_no_class_before

pub returns-clause-due_date_of_the_base_is_too_late : goal.returns-clause-due_date_of_the_base_is_too_late
returns-clause-due_date_of_the_base_is_too_late c = not_due_too_late

pub returns-clause-wait_of_the_base_is_to_come : goal.returns-clause-wait_of_the_base_is_to_come
returns-clause-wait_of_the_base_is_to_come c = not_waiting_to_come

pub returns-clause-waits_of_the_base_are_forgotten : goal.returns-clause-waits_of_the_base_are_forgotten
returns-clause-waits_of_the_base_are_forgotten c = not_forgotten

pub returns-clause-cursor_is_reset : goal.returns-clause-cursor_is_reset
returns-clause-cursor_is_reset c = not_reset

pub returns-clause-tickets_begin_anew : goal.returns-clause-tickets_begin_anew
returns-clause-tickets_begin_anew c = not_anew

pub returns-clause-backend_head_first : goal.returns-clause-backend_head_first
returns-clause-backend_head_first c = not_backend_first

pub returns-clause-loads_without_weights : goal.returns-clause-loads_without_weights
returns-clause-loads_without_weights c = not_by_loads_alone

pub returns-clause-loads_without_queues : goal.returns-clause-loads_without_queues
returns-clause-loads_without_queues c = not_without_queues

pub returns-clause-down_though_it_answers : goal.returns-clause-down_though_it_answers
returns-clause-down_though_it_answers c = not_down_though

pub returns-clause-fall_grants_nothing : goal.returns-clause-fall_grants_nothing
returns-clause-fall_grants_nothing c = not_idle_after_a_fall

pub returns-clause-moved_without_a_fall : goal.returns-clause-moved_without_a_fall
returns-clause-moved_without_a_fall c = not_moved_alone

pub returns-clause-redispatched_by_a_new_due_date : goal.returns-clause-redispatched_by_a_new_due_date
returns-clause-redispatched_by_a_new_due_date c = not_due_anew

pub returns-clause-grant_at_a_closed_server : goal.returns-clause-grant_at_a_closed_server
returns-clause-grant_at_a_closed_server c = not_at_a_closed_server

pub returns-clause-closing_stops_a_request : goal.returns-clause-closing_stops_a_request
returns-clause-closing_stops_a_request c = not_stopped

pub returns-clause-opened_server_grants_nothing : goal.returns-clause-opened_server_grants_nothing
returns-clause-opened_server_grants_nothing c = not_idle_after_an_opening

pub returns-clause-waits_for_a_closed_server : goal.returns-clause-waits_for_a_closed_server
returns-clause-waits_for_a_closed_server c = not_waiting_for_a_closed

pub returns-clause-balanced_to_a_closed_server : goal.returns-clause-balanced_to_a_closed_server
returns-clause-balanced_to_a_closed_server c = not_balanced_to_a_closed

pub returns-clause-no_server_beside_a_closed_one : goal.returns-clause-no_server_beside_a_closed_one
returns-clause-no_server_beside_a_closed_one c = not_beside_a_closed_one

pub returns-clause-closing_leaves_its_queue : goal.returns-clause-closing_leaves_its_queue
returns-clause-closing_leaves_its_queue c = not_left_at_a_closed

pub returns-clause-closing_moves_without_redispatch : goal.returns-clause-closing_moves_without_redispatch
returns-clause-closing_moves_without_redispatch c = not_moved_without
