-- How long is waited, and what a poll tells, at worked examples.
use Rattle.std.proofs.Common.{◌≡◌, true, false, pos, refl}
use Rattle.std.specs.Prelude.{Some, None}
use Rattle.proxy_config.specs.declared.parts.Checks.{Checks}
use Rattle.run_gate.specs.Polls.{tells_any, tells_end, tells_failure}
use Rattle.run_gate.specs.Probes.{is_late}
use Rattle.run_gate.specs.Waits.{turnaround, patience, left}

-- a second where a connect may take five, or any time; and no longer than a connect
a_second_at_most : turnaround (Some 5000) ≡ 1000
a_second_at_most = refl

a_second_without_a_limit : turnaround None ≡ 1000
a_second_without_a_limit = refl

no_longer_than_a_connect : turnaround (Some 20) ≡ 20
no_longer_than_a_connect = refl

abbrev checks : Checks
checks = record { inter = 300; rise = 1; fall = 1 }

-- a check takes no longer than until the next, nor than a connect
until_the_next : patience (Some 5000) (Some checks) ≡ Some 300
until_the_next = refl

as_a_connect : patience (Some 20) (Some checks) ≡ Some 20
as_a_connect = refl

-- of 20 milliseconds 13 are left after 7, and all while the clock is behind
some_left : left 10 20 17 ≡ 13
some_left = refl

all_left : left 17 20 10 ≡ 20
all_left = refl

-- a check of 20 milliseconds is late after 20, and one without limit never
late_in_time : is_late 10 (Some 20) 30 ≡ true
late_in_time = refl

in_time : is_late 10 (Some 20) 29 ≡ false
in_time = refl

never_late : is_late 10 None 1000000 ≡ false
never_late = refl

-- a connection that takes bytes hasn't failed, and one that hung up has
takes_bytes : tells_failure (pos 4) ≡ false
takes_bytes = refl

hung_up : tells_failure (pos 20) ≡ true
hung_up = refl

-- the other end sends no more, which is no failure
sends_no_more : tells_end (pos 8192) ≡ true
sends_no_more = refl

no_failure : tells_failure (pos 8192) ≡ false
no_failure = refl

nothing_told : tells_any (pos 0) ≡ false
nothing_told = refl
