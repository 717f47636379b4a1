-- The definitions at worked examples: what must hold, and wrong values that must not be taken.
use Rattle.std.proofs.Common.{◌≡◌, ◌≢◌, ◌++◌, ℕ, pos, negsuc, List, [], ◌∷◌, Some, None, true, false, codes, slice_index, refl, ap, arith}
use Rattle.std.specs.Fmt.{digits}
use Rattle.log_entries.specs.declared.entry.Entry.TheVariants as entries
use Rattle.log_entries.specs.declared.queue.Queue.TheVariants as queues
use Rattle.log_entries.specs.declared.refusal.Refusal.TheVariants.{PlacesFull, TicketsSpent}
use Rattle.log_entries.specs.declared.allowance.Intake.TheVariants.{Open, Closed}
use Rattle.log_texts.specs.declared.step.Step.TheVariants.{Arrive, Done, Fail, Abort, Tick, Check, Limit, Roll}
use Rattle.log_texts.specs.Steps.{step_of, is_skipped, steps_of}
use Rattle.log_texts.specs.Headers.{setting_of, settings_of}
use Rattle.log_texts.specs.Faults.{fault_of}
use Rattle.log_texts.specs.Reading.{IsHeader}
use Rattle.log_texts.specs.ScriptTexts.{server_number}
use Rattle.log_reading.specs.declared.grant.Stay.{Stay}
use Rattle.log_texts.specs.declared.setting.Setting.TheVariants.{Retries, Redispatch, QueueTimeout, Server}
use Rattle.base_verdict.specs.declared.cause.Cause.TheVariants.{Aborted, Timeout, Retries as NoMoreRetries, NoServer}
use Rattle.log_texts.specs.Traces.{entry_text, refusal_text}
use Rattle.log_texts.specs.Reports.{report_text, reports_text, roll_text}

-- a class and an offset out of their ranges are the nearer ends
arrival_row : step_of (codes "7 arrive 5000 -600000") ≡ Some (Arrive 7 (pos 2047) (negsuc 524286) None)
arrival_row = refl

return_row : step_of (codes "\t007  done 12 ") ≡ Some (Done 7 12)
return_row = refl

no_offset : step_of (codes "7 arrive 0") ≡ None
no_offset = refl

pinned_row : step_of (codes "7 arrive 0 0 s1") ≡ Some (Arrive 7 (pos 0) (pos 0) (Some (codes "s1")))
pinned_row = refl

no_name : step_of (codes "7 arrive 0 0 *") ≡ None
no_name = refl

two_pins : step_of (codes "7 arrive 0 0 s1 s2") ≡ None
two_pins = refl

nineteen_digits : step_of (codes "1000000000000000000 done 1") ≡ None
nineteen_digits = refl

negative_ticket : step_of (codes "7 done -1") ≡ None
negative_ticket = refl

failure_row : step_of (codes "3 fail 1") ≡ Some (Fail 3 1)
failure_row = refl

abort_row : step_of (codes "3 abort 1") ≡ Some (Abort 3 1)
abort_row = refl

tick_row : step_of (codes "14 tick") ≡ Some (Tick 14)
tick_row = refl

check_up_row : step_of (codes "4 check a up") ≡ Some (Check 4 (codes "a") true)
check_up_row = refl

check_down_row : step_of (codes "4 check a down") ≡ Some (Check 4 (codes "a") false)
check_down_row = refl

-- a server may be named `up`
check_of_up : step_of (codes "4 check up down") ≡ Some (Check 4 (codes "up") false)
check_of_up = refl

failure_of_two : step_of (codes "3 fail 1 2") ≡ None
failure_of_two = refl

abort_of_nobody : step_of (codes "3 abort") ≡ None
abort_of_nobody = refl

tick_of_a_ticket : step_of (codes "14 tick 1") ≡ None
tick_of_a_ticket = refl

check_without_result : step_of (codes "4 check a") ≡ None
check_without_result = refl

check_of_no_name : step_of (codes "4 check * up") ≡ None
check_of_no_name = refl

check_with_another_word : step_of (codes "4 check a on") ≡ None
check_with_another_word = refl

limit_row : step_of (codes "3 limit a 1") ≡ Some (Limit 3 (codes "a") (Open 1))
limit_row = refl

closing_row : step_of (codes "3 limit a closed") ≡ Some (Limit 3 (codes "a") Closed)
closing_row = refl

closing_by_another_word : step_of (codes "3 limit a Closed") ≡ None
closing_by_another_word = refl

limit_without_a_number : step_of (codes "3 limit a") ≡ None
limit_without_a_number = refl

limit_of_no_name : step_of (codes "3 limit * 1") ≡ None
limit_of_no_name = refl

limit_of_ten_digits : step_of (codes "3 limit a 1000000000") ≡ None
limit_of_ten_digits = refl

roll_row : step_of (codes " roll") ≡ Some Roll
roll_row = refl

-- a roll has no moment
roll_at_a_moment : step_of (codes "3 roll") ≡ None
roll_at_a_moment = refl

roll_of_a_number : step_of (codes "roll 3") ≡ None
roll_of_a_number = refl

blanks_are_skipped : is_skipped (codes " \t") ≡ true
blanks_are_skipped = refl

comment_is_skipped : is_skipped (codes "# 7 done 1") ≡ true
comment_is_skipped = refl

late_sign_is_faulty : fault_of (codes " # no comment") ≡ Some 1
late_sign_is_faulty = refl

event_is_not_faulty : fault_of (codes "7 done 1") ≡ None
event_is_not_faulty = refl

second_line : fault_of (codes "7 done 1\n7 gone 1\nnor this") ≡ Some 2
second_line = refl

no_fault : fault_of (codes "\n# a comment\r\n7 done 1\r\n8 done 2") ≡ None
no_fault = refl

steps_row : steps_of (codes "# a comment\n7 done 1\n\n8 done 2") ≡ Done 7 1 ∷ Done 8 2 ∷ []
steps_row = refl

server_row : setting_of (codes "server a-1 2 0 256") ≡ Some (Server (codes "a-1") (record { limit = 2; maxqueue = 0; weight = 256; rise_fall = None }))
server_row = refl

too_heavy : setting_of (codes "server a 2 0 257") ≡ None
too_heavy = refl

-- rise comes before fall
checked_row : setting_of (codes "server a 1 0 1 2 3") ≡ Some (Server (codes "a") (record { limit = 1; maxqueue = 0; weight = 1; rise_fall = Some (2, 3) }))
checked_row = refl

rise_alone : setting_of (codes "server a 1 0 1 2") ≡ None
rise_alone = refl

no_rise : setting_of (codes "server a 1 0 1 0 3") ≡ None
no_rise = refl

no_fall : setting_of (codes "server a 1 0 1 2 0") ≡ None
no_fall = refl

seven_words : setting_of (codes "server a 1 0 1 2 3 4") ≡ None
seven_words = refl

retries_row : setting_of (codes "retries 0") ≡ Some (Retries 0)
retries_row = refl

ten_digits : setting_of (codes "retries 1000000000") ≡ None
ten_digits = refl

redispatch_row : setting_of (codes "redispatch") ≡ Some Redispatch
redispatch_row = refl

redispatch_of_a_number : setting_of (codes "redispatch 1") ≡ None
redispatch_of_a_number = refl

timeout_row : setting_of (codes "queue-timeout 010") ≡ Some (QueueTimeout 10)
timeout_row = refl

timeout_without_a_number : setting_of (codes "queue-timeout") ≡ None
timeout_without_a_number = refl

no_place : setting_of (codes "places 0") ≡ None
no_place = refl

-- the last of the lines of one word stands
settings_row : settings_of (codes "places 2" ∷ codes "server a 0 0 2" ∷ codes "# none" ∷ codes "places 3" ∷ []) ≡ record {
  names = codes "a" ∷ [];
  servers = record { limit = 0; maxqueue = 0; weight = 2; rise_fall = None } ∷ [];
  places = Some 3;
  log = None;
  retries = None;
  redispatch = false;
  queue_timeout = None;
}
settings_row = refl

events_settings_row : settings_of (codes "retries 5" ∷ codes "queue-timeout 10" ∷ codes "redispatch" ∷ codes "retries 0" ∷ codes "server b 1 0 1 2 1" ∷ [])
    ≡ record {
      names = codes "b" ∷ [];
      servers = record { limit = 1; maxqueue = 0; weight = 1; rise_fall = Some (2, 1) } ∷ [];
      places = None;
      log = None;
      retries = Some 0;
      redispatch = true;
      queue_timeout = Some 10;
    }
events_settings_row = refl

late_header : fault_of (codes "places 1\n7 done 1\nlog 9") ≡ Some 3
late_header = refl

header_behind_a_roll : fault_of (codes "places 1\nroll\nlog 9") ≡ Some 3
header_behind_a_roll = refl

late_redispatch : fault_of (codes "retries 1\n7 tick\nredispatch") ≡ Some 3
late_redispatch = refl

-- a name that no server has is no fault
check_of_none : fault_of (codes "server a 0 0 2 1 1\n7 check b up") ≡ None
check_of_none = refl

name_twice : fault_of (codes "server a 0 0 2\nserver b 0 0 2\nserver a 1 0 2") ≡ Some 3
name_twice = refl

good_header : fault_of (codes "server a 0 0 2\nlog 9\n# none\nserver b 0 0 2\n\n7 done 1") ≡ None
good_header = refl

named_server : server_number (codes "a" ∷ codes "b" ∷ []) (codes "b") ≡ 1
named_server = refl

no_such_server : server_number (codes "a" ∷ codes "b" ∷ []) (codes "c") ≡ 2
no_such_server = refl

abbrev names : List (List ℕ)
names = codes "a" ∷ codes "b" ∷ []

abbrev stay : ℕ → Stay
stay ticket = record { ticket = ticket; joined = 4; slot = 9; due = pos 7 }

arrive_text : entry_text names (entries.Arrive 7 (record { ticket = 2; class = negsuc 2; due = negsuc 4; pin = None; place = 9 })) ≡ codes "7 arrive 2 -3 -5\n"
unfolding digits
arrive_text = refl

pinned_text : entry_text names (entries.Arrive 7 (record { ticket = 2; class = pos 3; due = pos 5; pin = Some 1; place = 9 })) ≡ codes "7 arrive 2 3 5 b\n"
unfolding digits
pinned_text = refl

done_text : entry_text names (entries.Done 7 2) ≡ codes "7 done 2\n"
unfolding digits
done_text = refl

direct_text : entry_text names (entries.Direct 2 1) ≡ codes "  direct 2 b\n"
unfolding digits
direct_text = refl

join_text : entry_text names (entries.Joined 2 queues.Backend) ≡ codes "  join 2 *\n"
unfolding digits
join_text = refl

grant_text : entry_text names (entries.Granted 2 (queues.Server 0) 1) ≡ codes "  grant 2 a b\n"
unfolding digits
grant_text = refl

not_the_other_name : entry_text names (entries.Direct 2 1) ≢ codes "  direct 2 a\n"
unfolding digits
not_the_other_name same = let differ : ◌≡◌ {A = ℕ} 98 97 = ap (λ (l : List ℕ). slice_index l 11) same in omega arith

left_text : entry_text names (entries.Left 2 NoServer) ≡ codes "  left 2 noserver\n"
unfolding digits
left_text = refl

causes_text : entry_text names (entries.Left 2 Aborted) ++ entry_text names (entries.Left 3 Timeout) ++ entry_text names (entries.Left 4 NoMoreRetries)
    ≡ codes "  left 2 aborted\n  left 3 timeout\n  left 4 retries\n"
unfolding digits
causes_text = refl

fail_text : entry_text names (entries.Fail 7 2) ≡ codes "7 fail 2\n"
unfolding digits
fail_text = refl

abort_text : entry_text names (entries.Abort 7 2) ≡ codes "7 abort 2\n"
unfolding digits
abort_text = refl

tick_text : entry_text names (entries.Tick 7) ≡ codes "7 tick\n"
unfolding digits
tick_text = refl

check_text : entry_text names (entries.Check 7 1 true) ++ entry_text names (entries.Check 8 0 false) ≡ codes "7 check b up\n8 check a down\n"
unfolding digits
check_text = refl

limit_text : entry_text names (entries.Limit 7 1 (Open 3)) ++ entry_text names (entries.Limit 8 0 (Open 0)) ++ entry_text names (entries.Limit 9 0 Closed) ≡ codes "7 limit b 3\n8 limit a 0\n9 limit a closed\n"
unfolding digits
limit_text = refl

move_text : entry_text names (entries.Moved 2 1) ≡ codes "  move 2 b\n"
unfolding digits
move_text = refl

retry_text : entry_text names (entries.Retried 2 1 3) ≡ codes "  retry 2 b 3\n"
unfolding digits
retry_text = refl

health_text : entry_text names (entries.Health 0 false) ++ entry_text names (entries.Health 1 true) ≡ codes "  health a down\n  health b up\n"
unfolding digits
health_text = refl

refused_text : refusal_text PlacesFull ++ refusal_text TicketsSpent ≡ codes "refused 2\nrefused 14\n"
unfolding digits
refused_text = refl

-- the tickets of the critical stays stand behind the numbers, by slots
report_row : report_text names (record {
  queue = queues.Backend;
  class = negsuc 0;
  granted = 2;
  worst = pos 19;
  due = negsuc 4;
  after = 0;
  to = 14;
  critical = stay 3 ∷ stay 2 ∷ [];
}) ≡ codes "queue * class -1 granted 2 worst 19 due -5 after 0 to 14 critical 3 2\n"
unfolding digits
report_row = refl

-- nothing of a log without a grant
no_report : reports_text names [] ≡ []
no_report = refl

-- a roll is told also where the window that it ends has no report
roll_alone : roll_text names [] ≡ codes "roll\n"
roll_alone = refl

report_behind_a_roll : roll_text names (record {
  queue = queues.Backend;
  class = pos 0;
  granted = 1;
  worst = negsuc 89;
  due = pos 100;
  after = 0;
  to = 8;
  critical = stay 2 ∷ [];
} ∷ []) ≡ codes "roll\nqueue * class 0 granted 1 worst -90 due 100 after 0 to 8 critical 2\n"
unfolding digits
report_behind_a_roll = refl

-- an only step is no header line
only_step : ¬ (IsHeader (codes "7 tick" ∷ []) 1)
only_step is = let wrong : true ≡ false = is.stepless in cc

-- one line isn't a header of two
one_line_for_two : ¬ (IsHeader (codes "places 2" ∷ []) 2)
one_line_for_two is = absurd (omega (arith, is.within))
