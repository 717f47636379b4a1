use Rattle.std.proofs.Common.{◌≤◌, sym, subst, arith}
use Rattle.log_entries.specs.declared.queue.Queue.TheVariants.{Backend, Server}
use Rattle.slot_ledger.specs.Counts.{Counted, queued_at}
use Rattle.slot_ledger.proofs.counts.Counts.enter.Goals as goal

pub overflow_add-self : goal.overflow_add-self
overflow_add-self c =
    let few : c.self.inside.backend ≤ 4096 = subst (λ (x : Counted). queued_at x Backend ≤ 4096) (sym c.self.view_is) (c.requires.few.waiting Backend) in
    omega arith

pub raise-requires-in-Server-clause-few : goal.raise-requires-in-Server-clause-few
raise-requires-in-Server-clause-few c = subst (λ (x : Counted). queued_at x (Server c.in-Server.server) ≤ 4096) (sym c.self.view_is)
    (c.requires.few.waiting (Server c.in-Server.server))
