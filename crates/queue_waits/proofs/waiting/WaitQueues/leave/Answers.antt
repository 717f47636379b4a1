use Rattle.std.proofs.Common.{◌≡◌, [], None, length, ap, sym, ◌∙◌, subst}
use Rattle.std.proofs.Math.ListN.{length-set}
use Rattle.std.proofs.lemmas.Option.{same_Some, slice_get_within}
use Rattle.queue_waits.specs.declared.waiters.Waiter.{Waiter}
use Rattle.queue_waits.specs.Lines.{Lined, lines_of}
use Rattle.queue_waits.specs.Waitlists.{Waitlist, Waiters, WaitsAt, list_of}
use Rattle.queue_waits.proofs.Kept.{settle_kept, gathers, kept_anew, ended_fall}
use Rattle.queue_waits.proofs.Changes.{leave_kept, leaves}
use Rattle.queue_waits.proofs.Lineup.{gather_room}
use Rattle.queue_waits.proofs.waiting.WaitQueues.leave.Goals as goal

pub gather-requires-clause-room : goal.gather-requires-clause-room
gather-requires-clause-room g c = gather_room _ _ (settle_kept _ _ _ _ _ c.self.invariant c.settle.ensures.moved).lined_up

pub gather-requires-clause-apart : goal.gather-requires-clause-apart
gather-requires-clause-apart g c = (settle_kept _ _ _ _ _ c.self.invariant c.settle.ensures.moved).lined_up.apart

pub take-requires : goal.take-requires
take-requires g c =
    slice_get_within _ _ _ (subst (λ (l : Waitlist). (waiter : Waiter) × WaitsAt l.waiters c.args.place waiter) (sym (ap list_of c.self.view_is)) c.requires).1

pub unreachable-requires-in_default-remove : goal.unreachable-requires-in_default-remove
unreachable-requires-in_default-remove g c =
    let none : c.gather.new.self.moved ≡ [] = ap (λ (l : Lined). l.moved) c.gather.ensures.merged in
    let it = leaves (lines_of c.gather.new.self) _ c.args.place c.in-Some.waiter
    (gathers (lines_of c.self.inside.queues) (lines_of c.settle.new.queues) (lines_of c.gather.new.self) c.self.inside.fall _ _ c.self.invariant c.settle.ensures.moved c.gather.ensures.merged).waiting.lined_up none c.in-Some.ensures.taken in
    let missed = ap (Rattle.std.specs.Option.option_map g.Q.PendQueue.pair_of) (sym c.in_default-remove.is) ∙ c.remove.ensures.its ∙ it.there in
    cc

pub invariant_of-self : goal.invariant_of-self
invariant_of-self g c =
    let it = gathers (lines_of c.self.inside.queues) (lines_of c.settle.new.queues) (lines_of c.gather.new.self) c.self.inside.fall _ _ c.self.invariant
    c.settle.ensures.moved c.gather.ensures.merged in
    let goes = leaves (lines_of c.gather.new.self) _ c.args.place c.in-Some.waiter it.waiting.lined_up it.none c.in-Some.ensures.taken in
    let kept = leave_kept (lines_of c.gather.new.self) _ c.self.inside.waiters.items _ c.self.inside.order _ c.args.place c.in-Some.waiter _ it.waiting it.none
    c.in-Some.ensures.taken goes.parts goes.rises c.in-Some-remove.ensures.rest c.in-Some.ensures.emptied c.remove-2.ensures in
    kept_anew _ _ c.self.inside.fall _ c.self.inside.waiters.items _ kept c.settle.ensures.ended
    (ap (λ (l : Waiters). length l) c.in-Some.ensures.emptied ∙ length-set c.self.inside.waiters.items c.args.place None) c.self.invariant.listing

pub returns-clause-falling : goal.returns-clause-falling
returns-clause-falling g c = ended_fall _ c.self.inside.fall c.settle.ensures.ended

pub returns-clause-pair : goal.returns-clause-pair
returns-clause-pair g c =
    let none : c.gather.new.self.moved ≡ [] = ap (λ (l : Lined). l.moved) c.gather.ensures.merged in
    let it = leaves (lines_of c.gather.new.self) _ c.args.place c.in-Some.waiter
    (gathers (lines_of c.self.inside.queues) (lines_of c.settle.new.queues) (lines_of c.gather.new.self) c.self.inside.fall _ _ c.self.invariant c.settle.ensures.moved c.gather.ensures.merged).waiting.lined_up none c.in-Some.ensures.taken in (
      c.in-Some.waiter,
      subst (λ (l : Waitlist). WaitsAt l.waiters c.args.place c.in-Some.waiter) (ap list_of c.self.view_is) c.in-Some.ensures.taken,
      same_Some _ _
          (c.in-Some-remove.ensures.its ∙ it.there),
    )
