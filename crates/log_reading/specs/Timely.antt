-- The facts on the grants of a readable window.
use Rattle.std.specs.Prelude.{◌≡◌, ◌<◌}
use Rattle.log_reading.specs.Grants.{moment_at}
use Rattle.log_reading.specs.Windows.{Window}
use Rattle.log_reading.specs.declared.grant.SlotGrant.{SlotGrant}

-- a grant has the moment of its position, and its ticket joined the queue before it, or waited there in the base
pub record IsTimely (window : Window) (grant : SlotGrant) : Type 0 where
  pub moment : grant.moment ≡ moment_at window.entries grant.stay.slot
  pub joined : grant.stay.joined < grant.stay.slot
