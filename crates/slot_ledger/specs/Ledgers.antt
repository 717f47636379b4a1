-- Ledgers, as contracts see them.
use Rattle.std.specs.Prelude.{◌≡◌, ℕ, Bool, List, Option, length, slice_set}
use Rattle.log_entries.specs.declared.allowance.Allowance.{Allowance}
use Rattle.log_entries.specs.declared.allowance.Intake.{Intake}
use Rattle.log_entries.specs.declared.setup.Setup.{Setup}
use Rattle.log_entries.specs.Rows.{served}
use Rattle.log_entries.specs.Setups.{IsSound}
use Rattle.log_entries.specs.Scenes.{Scene}
use Rattle.slot_ledger.specs.declared.places.Cell.{Cell}
use Rattle.slot_ledger.specs.Counts.{Counted, AreCounts}
use Rattle.slot_ledger.specs.Cells.{rows_in}

-- a ledger's setup, which servers are up, the present limit of each, and the live requests by place
pub record Kept (H : Type 0) : Type 0 where
  pub setup : Setup
  pub ups : List Bool
  pub limits : List Allowance
  pub cells : List (Option (Cell H))

-- the part of a ledger that a decision depends on
abbrev pub scene_in : {H : Type 0} → Kept H → Scene
scene_in kept = record { servers = kept.setup.servers; limits = kept.limits; ups = kept.ups; rows = rows_in kept.cells }

-- the same ledger with other cells
abbrev pub with_cells : {H : Type 0} → Kept H → List (Option (Cell H)) → Kept H
with_cells kept cells = record kept { cells = cells }

-- the same ledger with a server up or down
abbrev pub with_up : {H : Type 0} → Kept H → ℕ → Bool → Kept H
with_up kept server up = record kept { ups = slice_set kept.ups server up }

-- the same ledger with a server's limit set, and with what it serves noted
abbrev pub ledger_with_limit : {H : Type 0} → Kept H → ℕ → Intake → Kept H
ledger_with_limit kept server limit = record kept { limits = slice_set kept.limits server (record { limit = limit; served = served server (rows_in kept.cells) }) }

-- a ledger is of a sound setup, has the setup's places, and its counts agree with its rows
pub record IsLedger {H : Type 0} (setup : Setup) (cells : List (Option (Cell H))) (counts : Counted) : Type 0 where
  pub sound : IsSound setup
  pub places : length cells ≡ setup.places
  pub counted : AreCounts counts (rows_in cells)
  pub served : length counts.served ≡ length setup.servers
  pub own : length counts.own ≡ length setup.servers

-- and it has for each server whether it is up, and its present limit
pub record IsLedgerWith {H : Type 0} (setup : Setup) (ups : List Bool) (limits : List Allowance) (cells : List (Option (Cell H)))
    (counts : Counted) : Type 0 where
  pub ledger : IsLedger setup cells counts
  pub each : length ups ≡ length setup.servers
  pub limited : length limits ≡ length setup.servers
