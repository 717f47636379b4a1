use Rattle.std.proofs.Common.{None, length, ap, ◌∙◌, arith}
use Rattle.std.proofs.lemmas.List.{length-replicate}
use Rattle.queue_waits.specs.Waitlists.{Waiters}
use Rattle.queue_waits.proofs.Changes.{none_wait}
use Rattle.queue_waits.proofs.Kept.{kept_first}
use Rattle.std.proofs.lemmas.Grind.{common_steps}
use Rattle.queue_waits.proofs.waiting.WaitQueues.new.Goals as goal

pub invariant_of-result : goal.invariant_of-result
invariant_of-result g c =
    kept_first _ _ _ _ c.args.places (none_wait _ _ _ c.args.servers c.args.places c.in_ok-new.ensures c.in_ok-empty.ensures c.in_ok-with_room.ensures)
    c.in_ok-none.ensures.told
    (ap (λ (l : Waiters). length l) c.in_ok-empty.ensures ∙ length-replicate c.args.places None) c.in_ok-none.ensures.room

pub returns : goal.returns
returns g c = grind (arith, common_steps)
