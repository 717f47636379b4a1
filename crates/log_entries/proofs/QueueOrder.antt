-- Queues are compared in their order.
use Rattle.std.proofs.Common.{◌≡◌, refl}
use Rattle.log_entries.specs.contracts.queue.QueueOrd.TheImpl as derived
use Rattle.log_entries.specs.declared.queue.Queue.{Queue}
use Rattle.log_entries.specs.declared.queue.Queue.TheVariants.{Backend, Server}
use Rattle.log_entries.specs.Rows.{queue_cmp}

-- what code with a bound compares queues by is their order
pub queue_order : derived.ghosts.cmp ≡ queue_cmp
queue_order = λ i a b. same a b i
  where
    same : (a b : Queue) → derived.ghosts.cmp a b ≡ queue_cmp a b
    same Backend Backend = refl
    same Backend (Server b) = refl
    same (Server a) Backend = refl
    same (Server a) (Server b) = refl
