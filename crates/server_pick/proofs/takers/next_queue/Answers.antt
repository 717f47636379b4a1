use Rattle.std.proofs.Common.{sym, subst}
use Rattle.log_entries.specs.declared.queue.Queue.{Queue}
use Rattle.slot_ledger.specs.Ledgers.{scene_in}
use Rattle.server_pick.specs.Heads.{IsLawfulTake}
use Rattle.server_pick.proofs.Taking.{lawful_take}
use Rattle.server_pick.proofs.takers.next_queue.Goals as goal

pub returns-clause-queue : goal.returns-clause-queue
returns-clause-queue g c = c.queue_of.ensures

pub returns-clause-lawful : goal.returns-clause-lawful
returns-clause-lawful g c = λ cursor next.
    let scene = scene_in c.args.ledger.now in
    subst (λ (q : Queue). IsLawfulTake scene cursor c.args.heads.now c.args.server q) (sym c.queue_of.ensures)
    (lawful_take scene cursor c.args.heads.now c.args.server c.requires.heads.own c.requires.heads.backend next)
