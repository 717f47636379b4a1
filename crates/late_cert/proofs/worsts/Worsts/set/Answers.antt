use Rattle.std.proofs.Common.{◌≡◌, ◌<◌, cond, length, subst, sym}
use Rattle.std.specs.Vec.{with_item}
use Rattle.log_entries.specs.Rows.{same_queue}
use Rattle.log_entries.specs.Queues.{IsQueueOf}
use Rattle.late_cert.specs.Table.{worst_of}
use Rattle.late_cert.proofs.Tables.{server_set}
use Rattle.late_cert.proofs.worsts.Worsts.set.Goals as goal

pub returns-in-Server-clause-worst : goal.returns-in-Server-clause-worst
returns-in-Server-clause-worst c other =
    let row = c.args.self.now in
    let s = c.in-Server.server in
    let there : s < length row.servers.items = subst (IsQueueOf (length row.servers.items)) c.in-Server.is c.requires in
    subst (λ q. worst_of (record { backend = row.backend; servers = with_item row.servers s c.args.worst }) other
    ≡ cond (same_queue other q) c.args.worst (worst_of row other))
    (sym c.in-Server.is) (server_set row s c.args.worst there other)
