use Rattle.log_entries.proofs.RightClosings.{serves_on_is_legal, opened_is_legal, waits_for_opening_is_legal, pin_ignored_is_legal, closing_moves_is_legal}
use Rattle.log_entries.proofs.RightLogs.{redispatch_is_legal, rising_is_legal, fall_is_legal}
use Rattle.log_entries.proofs.RightWindows.{raised_is_legal, lowered_is_legal, waits_are_legal}
use Rattle.log_entries.proofs.laws.worked_logs_are_legal.Goals as goal

pub returns-clause-redispatch_to_the_other_server : goal.returns-clause-redispatch_to_the_other_server
returns-clause-redispatch_to_the_other_server c = redispatch_is_legal

pub returns-clause-told_by_rising_ticket : goal.returns-clause-told_by_rising_ticket
returns-clause-told_by_rising_ticket c = rising_is_legal

pub returns-clause-fall_moves_its_queue : goal.returns-clause-fall_moves_its_queue
returns-clause-fall_moves_its_queue c = fall_is_legal

pub returns-clause-raised_limit_grants : goal.returns-clause-raised_limit_grants
returns-clause-raised_limit_grants c = raised_is_legal

pub returns-clause-lowered_limit_is_reached : goal.returns-clause-lowered_limit_is_reached
returns-clause-lowered_limit_is_reached c = lowered_is_legal

pub returns-clause-waits_of_the_base_are_served : goal.returns-clause-waits_of_the_base_are_served
returns-clause-waits_of_the_base_are_served c = waits_are_legal

pub returns-clause-closed_server_serves_on : goal.returns-clause-closed_server_serves_on
returns-clause-closed_server_serves_on c = serves_on_is_legal

pub returns-clause-opened_server_grants : goal.returns-clause-opened_server_grants
returns-clause-opened_server_grants c = opened_is_legal

pub returns-clause-waits_for_an_opening : goal.returns-clause-waits_for_an_opening
returns-clause-waits_for_an_opening c = waits_for_opening_is_legal

pub returns-clause-pin_to_a_closed_server_is_ignored : goal.returns-clause-pin_to_a_closed_server_is_ignored
returns-clause-pin_to_a_closed_server_is_ignored c = pin_ignored_is_legal

pub returns-clause-closing_moves_its_queue : goal.returns-clause-closing_moves_its_queue
returns-clause-closing_moves_its_queue c = closing_moves_is_legal
