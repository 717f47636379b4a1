use Rattle.std.proofs.Common.{◌≡◌, [], None, length, refl, ap, sym, ◌∙◌, subst}
use Rattle.std.proofs.Math.ListN.{length-set}
use Rattle.std.proofs.lemmas.Option.{slice_get_within}
use Rattle.log_entries.specs.Queues.{IsQueueOf}
use Rattle.queue_waits.specs.Lines.{Lined, lines_of}
use Rattle.queue_waits.specs.Waitlists.{Waitlist, Waiters, NoneWaitsIn, WaitsFirstIn, list_of}
use Rattle.queue_waits.proofs.Kept.{settle_kept, gathers, kept_anew, ended_fall}
use Rattle.queue_waits.proofs.Changes.{take_kept, takes, stands_first, first_of_node, nothing_popped, missing}
use Rattle.queue_waits.proofs.Lineup.{gather_room, gathered_whole, none_in}
use Rattle.queue_waits.proofs.waiting.WaitQueues.take.Goals as goal

pub gather-requires-clause-room : goal.gather-requires-clause-room
gather-requires-clause-room g c = gather_room _ _ (settle_kept _ _ _ _ _ c.self.invariant c.settle.ensures.moved).lined_up

pub gather-requires-clause-apart : goal.gather-requires-clause-apart
gather-requires-clause-apart g c = (settle_kept _ _ _ _ _ c.self.invariant c.settle.ensures.moved).lined_up.apart

pub invariant_of-self : goal.invariant_of-self
invariant_of-self g c =
    let same = nothing_popped (lines_of c.gather.new.self) (lines_of c.pop.new.self) c.args.queue c.in_default.ensures.first c.in_default.ensures.rest in
    let it = gathers (lines_of c.self.inside.queues) (lines_of c.settle.new.queues) (lines_of c.pop.new.self) c.self.inside.fall _ _ c.self.invariant
    c.settle.ensures.moved (same ∙ c.gather.ensures.merged) in
    kept_anew _ _ c.self.inside.fall _ c.self.inside.waiters.items _ it.waiting c.settle.ensures.ended refl c.self.invariant.listing

pub returns-in_default-clause-left : goal.returns-in_default-clause-left
returns-in_default-clause-left g c =
    let same = nothing_popped (lines_of c.gather.new.self) (lines_of c.pop.new.self) c.args.queue c.in_default.ensures.first c.in_default.ensures.rest in
    let it = gathers (lines_of c.self.inside.queues) (lines_of c.settle.new.queues) (lines_of c.pop.new.self) c.self.inside.fall _ _ c.self.invariant
    c.settle.ensures.moved (same ∙ c.gather.ensures.merged) in
    ap (λ n. record { waiters = c.self.inside.waiters.items; order = c.self.inside.order.places; servers = n }) it.servers ∙ ap list_of c.self.view_is

pub returns-in_default-clause-falling : goal.returns-in_default-clause-falling
returns-in_default-clause-falling g c = ended_fall _ c.self.inside.fall c.settle.ensures.ended

pub returns-clause-falling : goal.returns-clause-falling
returns-clause-falling g c = ended_fall _ c.self.inside.fall c.settle.ensures.ended

pub returns-in_default-clause-first : goal.returns-in_default-clause-first
returns-in_default-clause-first g c =
    let up = (gathers (lines_of c.self.inside.queues) (lines_of c.settle.new.queues) (lines_of c.gather.new.self) c.self.inside.fall _ _ c.self.invariant c.settle.ensures.moved c.gather.ensures.merged).waiting in
    let none : c.gather.new.self.moved ≡ [] = ap (λ (l : Lined). l.moved) c.gather.ensures.merged in
    subst (λ (l : Waitlist). NoneWaitsIn c.args.queue l.waiters) (ap list_of c.self.view_is)
    (none_in (lines_of c.gather.new.self) c.self.inside.waiters.items c.args.queue up.lined_up (gathered_whole (lines_of c.gather.new.self) c.args.queue none)
    (sym c.in_default.ensures.first))

pub take-requires : goal.take-requires
take-requires g c =
    let up = (gathers (lines_of c.self.inside.queues) (lines_of c.settle.new.queues) (lines_of c.gather.new.self) c.self.inside.fall _ _ c.self.invariant c.settle.ensures.moved c.gather.ensures.merged).waiting in
    let servers : length c.gather.new.self.own ≡ c.args.self.now.servers =
    (gathers (lines_of c.self.inside.queues) (lines_of c.settle.new.queues) (lines_of c.gather.new.self) c.self.inside.fall _ _ c.self.invariant c.settle.ensures.moved c.gather.ensures.merged).servers ∙ ap (λ (l : Waitlist). l.servers) (ap list_of c.self.view_is) in
    let within = subst (λ n. IsQueueOf n c.args.queue) (sym servers) c.requires in
    let first =
    first_of_node g.Q.PendQueue.pair_of _ c.pop.result c.in-Some.node c.pair.result.0.now c.pair.result.1.now c.pop.ensures.first c.in-Some.is
    c.pair.ensures in
    slice_get_within _ _ _ (stands_first (lines_of c.gather.new.self) _ c.args.queue c.pair.result.0.now c.pair.result.1.now up.lined_up within first).1

pub unreachable-requires : goal.unreachable-requires
unreachable-requires g c =
    let up = (gathers (lines_of c.self.inside.queues) (lines_of c.settle.new.queues) (lines_of c.gather.new.self) c.self.inside.fall _ _ c.self.invariant c.settle.ensures.moved c.gather.ensures.merged).waiting in
    let servers : length c.gather.new.self.own ≡ c.args.self.now.servers =
    (gathers (lines_of c.self.inside.queues) (lines_of c.settle.new.queues) (lines_of c.gather.new.self) c.self.inside.fall _ _ c.self.invariant c.settle.ensures.moved c.gather.ensures.merged).servers ∙ ap (λ (l : Waitlist). l.servers) (ap list_of c.self.view_is) in
    let within = subst (λ n. IsQueueOf n c.args.queue) (sym servers) c.requires in
    let first =
    first_of_node g.Q.PendQueue.pair_of _ c.pop.result c.in-Some.node c.pair.result.0.now c.pair.result.1.now c.pop.ensures.first c.in-Some.is
    c.pair.ensures in
    let it = stands_first (lines_of c.gather.new.self) _ c.args.queue c.pair.result.0.now c.pair.result.1.now up.lined_up within first in
    missing c.self.inside.waiters.items c.pair.result.1.now it.0 c.take.result it.1 c.take.ensures.taken c.in_default-take.is

pub invariant_of-self-2 : goal.invariant_of-self-2
invariant_of-self-2 g c =
    let up = (gathers (lines_of c.self.inside.queues) (lines_of c.settle.new.queues) (lines_of c.gather.new.self) c.self.inside.fall _ _ c.self.invariant c.settle.ensures.moved c.gather.ensures.merged).waiting in
    let none : c.gather.new.self.moved ≡ [] = ap (λ (l : Lined). l.moved) c.gather.ensures.merged in
    let servers : length c.gather.new.self.own ≡ c.args.self.now.servers =
    (gathers (lines_of c.self.inside.queues) (lines_of c.settle.new.queues) (lines_of c.gather.new.self) c.self.inside.fall _ _ c.self.invariant c.settle.ensures.moved c.gather.ensures.merged).servers ∙ ap (λ (l : Waitlist). l.servers) (ap list_of c.self.view_is) in
    let within = subst (λ n. IsQueueOf n c.args.queue) (sym servers) c.requires in
    let first =
    first_of_node g.Q.PendQueue.pair_of _ c.pop.result c.in-Some.node c.pair.result.0.now c.pair.result.1.now c.pop.ensures.first c.in-Some.is
    c.pair.ensures in
    let kept = take_kept (lines_of c.gather.new.self) _ c.self.inside.waiters.items _ c.self.inside.order _ c.pair.result.1.now c.in-Some-take.waiter c.args.queue
    c.pair.result.0.now up none within first c.in-Some-take.ensures.taken c.pop.ensures.rest c.in-Some-take.ensures.emptied c.remove.ensures in
    kept_anew _ _ c.self.inside.fall _ c.self.inside.waiters.items _ kept c.settle.ensures.ended
    (ap (λ (l : Waiters). length l) c.in-Some-take.ensures.emptied ∙ length-set c.self.inside.waiters.items c.pair.result.1.now None) c.self.invariant.listing

pub returns-clause-first : goal.returns-clause-first
returns-clause-first g c =
    let up = (gathers (lines_of c.self.inside.queues) (lines_of c.settle.new.queues) (lines_of c.gather.new.self) c.self.inside.fall _ _ c.self.invariant c.settle.ensures.moved c.gather.ensures.merged).waiting in
    let none : c.gather.new.self.moved ≡ [] = ap (λ (l : Lined). l.moved) c.gather.ensures.merged in
    let servers : length c.gather.new.self.own ≡ c.args.self.now.servers =
    (gathers (lines_of c.self.inside.queues) (lines_of c.settle.new.queues) (lines_of c.gather.new.self) c.self.inside.fall _ _ c.self.invariant c.settle.ensures.moved c.gather.ensures.merged).servers ∙ ap (λ (l : Waitlist). l.servers) (ap list_of c.self.view_is) in
    let within = subst (λ n. IsQueueOf n c.args.queue) (sym servers) c.requires in
    let first =
    first_of_node g.Q.PendQueue.pair_of _ c.pop.result c.in-Some.node c.pair.result.0.now c.pair.result.1.now c.pop.ensures.first c.in-Some.is
    c.pair.ensures in
    let it = takes (lines_of c.gather.new.self) _ c.args.queue c.pair.result.0.now c.pair.result.1.now c.in-Some-take.waiter up.lined_up within
    (gathered_whole (lines_of c.gather.new.self) c.args.queue none) first c.in-Some-take.ensures.taken in
    subst (λ (l : Waitlist). WaitsFirstIn c.args.queue l.waiters c.pair.result.1.now c.in-Some-take.waiter) (ap list_of c.self.view_is) it.0.first

pub returns-clause-pair : goal.returns-clause-pair
returns-clause-pair g c =
    let up = (gathers (lines_of c.self.inside.queues) (lines_of c.settle.new.queues) (lines_of c.gather.new.self) c.self.inside.fall _ _ c.self.invariant c.settle.ensures.moved c.gather.ensures.merged).waiting in
    let none : c.gather.new.self.moved ≡ [] = ap (λ (l : Lined). l.moved) c.gather.ensures.merged in
    let servers : length c.gather.new.self.own ≡ c.args.self.now.servers =
    (gathers (lines_of c.self.inside.queues) (lines_of c.settle.new.queues) (lines_of c.gather.new.self) c.self.inside.fall _ _ c.self.invariant c.settle.ensures.moved c.gather.ensures.merged).servers ∙ ap (λ (l : Waitlist). l.servers) (ap list_of c.self.view_is) in
    let within = subst (λ n. IsQueueOf n c.args.queue) (sym servers) c.requires in
    let first =
    first_of_node g.Q.PendQueue.pair_of _ c.pop.result c.in-Some.node c.pair.result.0.now c.pair.result.1.now c.pop.ensures.first c.in-Some.is
    c.pair.ensures in
    let it = takes (lines_of c.gather.new.self) _ c.args.queue c.pair.result.0.now c.pair.result.1.now c.in-Some-take.waiter up.lined_up within
    (gathered_whole (lines_of c.gather.new.self) c.args.queue none) first c.in-Some-take.ensures.taken in
    c.pair.ensures ∙ ap (λ k. (k, c.pair.result.1.now)) (sym it.1)
