use Rattle.std.proofs.Common.{subst}
use Rattle.queue_waits.specs.Waitlists.{Waitlist, WaitsAt}
use Rattle.base_lists.proofs.Replicated.{none_in_empty}
use Rattle.test_queues.proofs.waiting.join_and_move.Goals as goal

pub join-requires-clause-own_key : goal.join-requires-clause-own_key
join-requires-clause-own_key g c =
    λ place its waits same. none_in_empty 4 place its (subst (λ (l : Waitlist). WaitsAt l.waiters place its) c.requires waits)
