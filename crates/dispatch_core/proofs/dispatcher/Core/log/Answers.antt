use Rattle.std.proofs.Common.{subst}
use Rattle.log_entries.specs.Dispatch.{IsDispatched}
use Rattle.log_entries.proofs.Dispatched.{dispatched}
use Rattle.dispatch_core.proofs.dispatcher.Core.log.Goals as goal

pub returns-clause-dispatched : goal.returns-clause-dispatched
returns-clause-dispatched g c = subst IsDispatched c.self.view_is (dispatched _ c.self.invariant.legal)
