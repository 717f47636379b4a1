use Rattle.std.proofs.Common.{◌≡◌, ◌<◌, None, Some, slice_get, length, ap, sym, ◌∙◌, subst}
use Rattle.std.proofs.Math.ListN.{length-set}
use Rattle.std.proofs.lemmas.Option.{slice_get_within}
use Rattle.due_key.specs.declared.key.Key.{Key}
use Rattle.due_key.specs.Order.{key_cmp}
use Rattle.pend_queue.specs.Pairs.{KeyIsAbsent}
use Rattle.log_entries.specs.Queues.{IsQueueOf}
use Rattle.queue_waits.specs.Lines.{line_at, lines_of}
use Rattle.queue_waits.specs.Waitlists.{Waitlist, Waiters, HasNoKey, list_of}
use Rattle.queue_waits.proofs.Kept.{settle_kept, gathers, kept_anew, ended_fall}
use Rattle.queue_waits.proofs.Changes.{join_kept}
use Rattle.queue_waits.proofs.Lineup.{gather_room, join_room, absent_line}
use Rattle.queue_waits.proofs.Orders.{vacant_absent}
use Rattle.queue_waits.proofs.waiting.WaitQueues.join.Goals as goal

pub gather-requires-clause-room : goal.gather-requires-clause-room
gather-requires-clause-room g c = gather_room _ _ (settle_kept _ _ _ _ _ c.self.invariant c.settle.ensures.moved).lined_up

pub gather-requires-clause-apart : goal.gather-requires-clause-apart
gather-requires-clause-apart g c = (settle_kept _ _ _ _ _ c.self.invariant c.settle.ensures.moved).lined_up.apart

pub push-requires-clause-room : goal.push-requires-clause-room
push-requires-clause-room g c =
    let up = (gathers (lines_of c.self.inside.queues) (lines_of c.settle.new.queues) (lines_of c.gather.new.self) c.self.inside.fall _ _ c.self.invariant c.settle.ensures.moved c.gather.ensures.merged).waiting.lined_up in
    let servers : length c.gather.new.self.own ≡ c.args.self.now.servers =
    (gathers (lines_of c.self.inside.queues) (lines_of c.settle.new.queues) (lines_of c.gather.new.self) c.self.inside.fall _ _ c.self.invariant c.settle.ensures.moved c.gather.ensures.merged).servers ∙ ap (λ (l : Waitlist). l.servers) (ap list_of c.self.view_is) in
    let vacant = subst (λ (l : Waitlist). slice_get l.waiters c.args.place ≡ Some None) (sym (ap list_of c.self.view_is)) c.requires.vacant in
    join_room (lines_of c.gather.new.self) _ c.args.waiter.queue c.args.place up (subst (λ n. IsQueueOf n c.args.waiter.queue) (sym servers) c.requires.within) vacant
    c.args.waiter.key

pub push-requires-clause-absent : goal.push-requires-clause-absent
push-requires-clause-absent g c =
    let up = (gathers (lines_of c.self.inside.queues) (lines_of c.settle.new.queues) (lines_of c.gather.new.self) c.self.inside.fall _ _ c.self.invariant c.settle.ensures.moved c.gather.ensures.merged).waiting.lined_up in
    let servers : length c.gather.new.self.own ≡ c.args.self.now.servers =
    (gathers (lines_of c.self.inside.queues) (lines_of c.settle.new.queues) (lines_of c.gather.new.self) c.self.inside.fall _ _ c.self.invariant c.settle.ensures.moved c.gather.ensures.merged).servers ∙ ap (λ (l : Waitlist). l.servers) (ap list_of c.self.view_is) in
    let fresh = subst (λ (l : Waitlist). HasNoKey l.waiters c.args.waiter.key) (sym (ap list_of c.self.view_is)) c.requires.own_key in
    subst (λ (k : Key). KeyIsAbsent key_cmp k (line_at (lines_of c.gather.new.self) c.args.waiter.queue)) (sym (ap (λ pair. pair.0) c.requires.pair))
    (absent_line (lines_of c.gather.new.self) _ c.args.waiter.queue c.args.waiter.key up
    (subst (λ n. IsQueueOf n c.args.waiter.queue) (sym servers) c.requires.within) fresh)

pub put-requires : goal.put-requires
put-requires g c = slice_get_within _ _ _ (subst (λ (l : Waitlist). slice_get l.waiters c.args.place ≡ Some None) (sym (ap list_of c.self.view_is)) c.requires.vacant)

pub append-requires-clause-room : goal.append-requires-clause-room
append-requires-clause-room g c =
    let within = slice_get_within c.self.inside.waiters.items c.args.place None
    (subst (λ (l : Waitlist). slice_get l.waiters c.args.place ≡ Some None) (sym (ap list_of c.self.view_is)) c.requires.vacant) in
    subst (λ n. c.args.place < n) (sym c.self.invariant.waiting.order_room) within

pub append-requires-clause-absent : goal.append-requires-clause-absent
append-requires-clause-absent g c =
    vacant_absent _ _ c.args.place c.self.invariant.waiting.in_order
    (subst (λ (l : Waitlist). slice_get l.waiters c.args.place ≡ Some None) (sym (ap list_of c.self.view_is)) c.requires.vacant)

pub invariant_of-self : goal.invariant_of-self
invariant_of-self g c =
    let it = gathers (lines_of c.self.inside.queues) (lines_of c.settle.new.queues) (lines_of c.gather.new.self) c.self.inside.fall _ _ c.self.invariant
    c.settle.ensures.moved c.gather.ensures.merged in
    let servers : length c.gather.new.self.own ≡ c.args.self.now.servers = it.servers ∙ ap (λ (l : Waitlist). l.servers) (ap list_of c.self.view_is) in
    let vacant = subst (λ (l : Waitlist). slice_get l.waiters c.args.place ≡ Some None) (sym (ap list_of c.self.view_is)) c.requires.vacant in
    let fresh = subst (λ (l : Waitlist). HasNoKey l.waiters c.args.waiter.key) (sym (ap list_of c.self.view_is)) c.requires.own_key in
    let kept = join_kept (lines_of c.gather.new.self) _ c.self.inside.waiters.items _ c.self.inside.order _ c.args.place c.args.waiter _ it.waiting it.none c.requires.pair
    (subst (λ n. IsQueueOf n c.args.waiter.queue) (sym servers) c.requires.within) vacant fresh c.push.ensures c.put.ensures c.append.ensures in
    kept_anew _ _ c.self.inside.fall _ c.self.inside.waiters.items _ kept c.settle.ensures.ended
    (ap (λ (l : Waiters). length l) c.put.ensures ∙ length-set c.self.inside.waiters.items c.args.place (Some c.args.waiter)) c.self.invariant.listing

pub returns-clause-falling : goal.returns-clause-falling
returns-clause-falling g c = ended_fall _ c.self.inside.fall c.settle.ensures.ended
