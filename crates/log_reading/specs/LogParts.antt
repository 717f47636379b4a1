-- The parts of a log beside its entries.
use Rattle.std.specs.Prelude.{◌≡◌, ℕ, ◌≤◌, List, length}
use Rattle.log_entries.specs.declared.entry.Entry.{Entry}
use Rattle.log_reading.specs.declared.grant.SlotGrant.{SlotGrant}
use Rattle.log_reading.specs.Grants.{moment_of, grants}
use Rattle.log_reading.specs.declared.base.BaseRow.{BaseRow}
use Rattle.log_reading.specs.Readable.{IsReadable}
use Rattle.log_entries.specs.States.{State}
use Rattle.log_reading.specs.Windows.{base_rows}

-- a base with its live requests, for which there is room in any base with this many places, and no more
pub record IsLog (base : State) (listed : List BaseRow) (capacity : ℕ) : Type 0 where
  pub listed_are : listed ≡ base_rows base.rows
  pub room : capacity ≡ length base.rows

-- readable entries, no more than there is room for, with their grants and the moment of their last event
pub record LogIsKept (base : List BaseRow) (list : List Entry) (granted : List SlotGrant) (moment most : ℕ) : Type 0 where
  pub within : length list ≤ most
  pub readable : IsReadable (record { base = base; entries = list })
  pub granted_are : granted ≡ grants (record { base = base; entries = list })
  pub moment_is : moment ≡ moment_of list
