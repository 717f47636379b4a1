-- the log counts where an admin address is wanted
use Rattle.std.proofs.Common.{Bool, subst}
use Rattle.run_parts.specs.Logging.{WritesLogs}
use Rattle.run_parts.proofs.sharing.service_parts_of.Goals as goal

pub returns-clause-log : goal.returns-clause-log
returns-clause-log g c =
    subst (λ (counts : Bool). WritesLogs c.args.options.logs counts c.in_ok-log.log) c.is_some.ensures c.in_ok-log.ensures
