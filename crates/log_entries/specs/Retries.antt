-- What follows for a request whose connection failed.
use Rattle.std.specs.Prelude.{ℕ, ◌+◌, ◌==◌, nat_lt, ◌&&◌, ◌||◌, not, Bool, Option, None, Some, if◌then◌else◌}
use Rattle.log_entries.specs.declared.row.Row.{Row}
use Rattle.log_entries.specs.declared.setup.Setup.{Setup}

-- spent: more connections have failed than there are retries
abbrev pub are_spent : Setup → ℕ → Bool
are_spent setup failures = nat_lt setup.retries failures

-- redispatched: this retry is the last one, and goes to another server
abbrev pub are_redispatched : Setup → ℕ → Bool
are_redispatched setup failures = setup.redispatch && (failures == setup.retries)

-- retried: the same server is tried again
abbrev pub are_retried : Setup → ℕ → Bool
are_retried setup failures = not (are_spent setup failures || are_redispatched setup failures)

-- a row with one more failed connection; a redispatched row loses its pin
abbrev pub failed_row : Setup → Row → Row
failed_row setup row =
    record row { failures = row.failures + 1; pin = if are_redispatched setup (row.failures + 1) then None else row.pin }

abbrev pub failed : Setup → Row → Option Row
failed setup row = Some (failed_row setup row)
