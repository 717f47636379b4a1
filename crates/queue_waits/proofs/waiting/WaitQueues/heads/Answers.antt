use Rattle.std.proofs.Common.{◌<◌, ◌≤◌, ◌+◌, length, refl, ap, sym, ◌∙◌, subst, arith}
use Rattle.queue_waits.specs.Lines.{lines_of}
use Rattle.queue_waits.specs.Waitlists.{Waitlist, WaitingQueues, list_of}
use Rattle.queue_waits.proofs.Kept.{settle_kept, gathers, kept_anew, ended_fall, none_falls}
use Rattle.queue_waits.proofs.Changes.{heads_first}
use Rattle.queue_waits.proofs.Lineup.{gather_room}
use Rattle.queue_waits.proofs.waiting.WaitQueues.heads.Goals as goal

pub gather-requires-clause-room : goal.gather-requires-clause-room
gather-requires-clause-room g c = gather_room _ _ (settle_kept _ _ _ _ _ c.self.invariant c.settle.ensures.moved).lined_up

pub gather-requires-clause-apart : goal.gather-requires-clause-apart
gather-requires-clause-apart g c = (settle_kept _ _ _ _ _ c.self.invariant c.settle.ensures.moved).lined_up.apart

pub invariant_of-self : goal.invariant_of-self
invariant_of-self g c =
    let it = gathers (lines_of c.self.inside.queues) (lines_of c.settle.new.queues) (lines_of c.gather.new.self) c.self.inside.fall _ _ c.self.invariant
    c.settle.ensures.moved c.gather.ensures.merged in
    kept_anew _ _ c.self.inside.fall _ c.self.inside.waiters.items _ it.waiting c.settle.ensures.ended refl c.self.invariant.listing

pub returns-clause-heads : goal.returns-clause-heads
returns-clause-heads g c =
    let it = gathers (lines_of c.self.inside.queues) (lines_of c.settle.new.queues) (lines_of c.gather.new.self) c.self.inside.fall _ _ c.self.invariant
    c.settle.ensures.moved c.gather.ensures.merged in
    let within = subst (λ n. c.args.server < n) (sym it.servers) (subst (λ (w : Waitlist). c.args.server < w.servers) (sym (ap list_of c.self.view_is)) c.requires) in
    heads_first (lines_of c.gather.new.self) c.self.inside.order _ c.args.server c.heads.result it.waiting it.none within c.heads.ensures.own c.heads.ensures.backend

pub returns-clause-same : goal.returns-clause-same
returns-clause-same g c =
    let it = gathers (lines_of c.self.inside.queues) (lines_of c.settle.new.queues) (lines_of c.gather.new.self) c.self.inside.fall _ _ c.self.invariant
    c.settle.ensures.moved c.gather.ensures.merged in
    ap (λ n. record { waiters = c.self.inside.waiters.items; order = c.self.inside.order.places; servers = n }) it.servers ∙ ap list_of c.self.view_is

pub returns-clause-links : goal.returns-clause-links
returns-clause-links g c =
    let up = (settle_kept _ _ _ _ _ c.self.invariant c.settle.ensures.moved).lined_up in (
      length c.settle.new.queues.backend,
      length c.settle.new.queues.moved,
      subst (λ n. length c.settle.new.queues.backend + length c.settle.new.queues.moved ≤ n)
          (up.room ∙ ap (λ (w : WaitingQueues). length w.waiters) c.self.view_is) (gather_room _ _ up),
      c.gather.ensures.links
          ∙ ap (λ n. n + g.Q.PendQueue.links_of_merge (length c.settle.new.queues.backend) (length c.settle.new.queues.moved))
          (c.settle.ensures.links ∙ ap (λ (w : WaitingQueues). w.links) c.self.view_is),
    )

pub returns-clause-alone : goal.returns-clause-alone
returns-clause-alone g c none =
    let told = none_falls c.self.inside.fall.server c.self.inside.fall.told (ap (λ (w : WaitingQueues). w.falling) c.self.view_is ∙ none) in
    let all = ap (λ (w : WaitingQueues). w.all_links) c.self.view_is in
    let backend = ap (λ (w : WaitingQueues). w.links) c.self.view_is in
    omega (arith, all, backend, c.settle.ensures.all_links told, c.settle.ensures.links, c.gather.ensures.links, c.gather.ensures.all_links)

pub returns-clause-falling : goal.returns-clause-falling
returns-clause-falling g c = ended_fall _ c.self.inside.fall c.settle.ensures.ended
