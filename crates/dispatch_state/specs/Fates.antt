-- What follows for a request whose connection failed.
use Rattle.std.specs.Prelude.{ℕ, if◌then◌else◌}
use Rattle.log_entries.specs.declared.setup.Setup.{Setup}
use Rattle.log_entries.specs.Retries.{are_spent, are_redispatched, failed_row}
use Rattle.slot_ledger.specs.declared.places.Cell.{Cell}
use Rattle.dispatch_state.specs.declared.failing.Fate.{Fate}
use Rattle.dispatch_state.specs.declared.failing.Fate.TheVariants.{Retried, Spent, Redispatched}

-- it is retried unless its retries are spent or the last one goes to another server
abbrev pub fate_of : Setup → ℕ → Fate
fate_of setup failures = if are_spent setup failures then Spent else (if are_redispatched setup failures then Redispatched else Retried)

-- its slot, with one more failure
abbrev pub failed_cell : {H : Type 0} → Setup → Cell H → Cell H
failed_cell setup cell = record { row = failed_row setup cell.row; node = cell.node }
