use Rattle.std.proofs.Math.Logic.{∥∥₁_map}
use Rattle.exchange_seated.proofs.Connecting.{woken_on}
use Rattle.exchange_seated.proofs.linked.Linked.wake.Goals as goal

pub returns-clause-on : goal.returns-clause-on
returns-clause-on g c opened before on =
    ∥∥₁_map on (woken_on opened _ _ before _ c.wake.ensures.left.0 c.wake.ensures.left.1 c.wake.ensures.waits.0)
