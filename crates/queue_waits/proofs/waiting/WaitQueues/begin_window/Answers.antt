use Rattle.std.proofs.Common.{length, ap, sym, subst, ◌∙◌, ◌≤◌, vec_capacity}
use Rattle.std.proofs.lemmas.List.{length-map}
use Rattle.queue_waits.specs.Waitlists.{Waiters, since_before, in_next_window, list_of}
use Rattle.queue_waits.proofs.Windows.{waiting_before}
use Rattle.queue_waits.proofs.waiting.WaitQueues.begin_window.Goals as goal

pub invariant_of-self : goal.invariant_of-self
invariant_of-self g c = record {
  waiting = waiting_before _ _ _ _ c.self.invariant.waiting c.forget_joinings.ensures;
  falling = c.self.invariant.falling;
  listing = subst (λ n. n ≤ vec_capacity c.self.inside.fall.sorted)
      (sym (ap (λ (l : Waiters). length l) c.forget_joinings.ensures ∙ length-map c.self.inside.waiters.items since_before)) c.self.invariant.listing;
}

pub returns-clause-window : goal.returns-clause-window
returns-clause-window g c =
    ap (λ (l : Waiters). record { waiters = l; order = c.self.inside.order.places; servers = length c.self.inside.queues.own }) c.forget_joinings.ensures
    ∙ ap in_next_window (ap list_of c.self.view_is)
