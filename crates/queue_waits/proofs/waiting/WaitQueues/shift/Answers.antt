use Rattle.std.proofs.Common.{◌≡◌, ◌<◌, ◌++◌, ◌∷◌, [], Contains, drop, length, slice_get, vec_capacity, refl, ap, sym, ◌∙◌, subst, arith}
use Rattle.std.proofs.Math.ListN.{length-set}
use Rattle.std.proofs.lemmas.Option.{slice_get_within}
use Rattle.due_key.specs.declared.key.Key.{Key}
use Rattle.due_key.specs.Order.{key_cmp}
use Rattle.log_entries.specs.declared.queue.Queue.TheVariants.{Backend, Server}
use Rattle.pend_queue.specs.Pairs.{inserted}
use Rattle.queue_waits.specs.declared.waiters.Waiter.{Waiter}
use Rattle.queue_waits.specs.Falls.{lines_in}
use Rattle.queue_waits.specs.Lines.{Line, line_at, with_line, with_moved, lines_of}
use Rattle.queue_waits.specs.Order.{Order, with_places}
use Rattle.queue_waits.specs.Waitlists.{Waitlist, Waiters, NoneWaitsIn, WaitsFirstIn, list_of}
use Rattle.queue_waits.proofs.Changes.{shifted_view, shift_kept}
use Rattle.queue_waits.proofs.Falling.{fallen_servers}
use Rattle.queue_waits.proofs.Kept.{moves, fallen_empty, falls_still}
use Rattle.queue_waits.proofs.Lineup.{server_whole, none_in}
use Rattle.queue_waits.proofs.Orders.{place_gone}
use Rattle.queue_waits.proofs.waiting.WaitQueues.shift.Goals as goal

pub returns-then-is_empty-clause-shifted : goal.returns-then-is_empty-clause-shifted
returns-then-is_empty-clause-shifted g c =
    let lined = lines_in (lines_of c.self.inside.queues) c.self.inside.fall in
    let empty = fallen_empty (lines_of c.self.inside.queues) c.self.inside.fall.server c.self.inside.fall.told c.args.server (c.is_empty.ensures.0 c.if-is_empty.true) in (
      subst (λ (l : Waitlist). NoneWaitsIn (Server c.args.server) l.waiters) (ap list_of c.self.view_is)
          (none_in lined c.self.inside.waiters.items (Server c.args.server) c.self.invariant.waiting.lined_up (server_whole lined c.args.server)
          (ap (λ (l : Line). slice_get l 0) empty)),
      refl,
    )

pub put-requires : goal.put-requires
put-requires g c =
    let by = moves (lines_of c.self.inside.queues) (lines_of c.look_at.new.queues) (lines_in (lines_of c.move_next-key.new.queues) c.move_next-key.new.fall) c.self.inside.fall
    c.look_at.new.fall c.self.inside.waiters.items c.self.inside.order (list_of c.args.self.now) c.args.server c.move_next-key.result c.self.invariant
    (ap list_of c.self.view_is) c.requires c.look_at.ensures.lines c.look_at.ensures.server c.move_next-key.ensures.first c.move_next-key.ensures.moved in
    slice_get_within _ _ _ by.its.take.first.waits

pub remove-requires : goal.remove-requires
remove-requires g c =
    let by = moves (lines_of c.self.inside.queues) (lines_of c.look_at.new.queues) (lines_in (lines_of c.move_next-key.new.queues) c.move_next-key.new.fall) c.self.inside.fall
    c.look_at.new.fall c.self.inside.waiters.items c.self.inside.order (list_of c.args.self.now) c.args.server c.move_next-key.result c.self.invariant
    (ap list_of c.self.view_is) c.requires c.look_at.ensures.lines c.look_at.ensures.server c.move_next-key.ensures.first c.move_next-key.ensures.moved in
    c.self.invariant.waiting.in_order.all c.move_next-key.result.1 by.its.waiter by.its.take.first.waits

pub append-requires-clause-room : goal.append-requires-clause-room
append-requires-clause-room g c =
    let by = moves (lines_of c.self.inside.queues) (lines_of c.look_at.new.queues) (lines_in (lines_of c.move_next-key.new.queues) c.move_next-key.new.fall) c.self.inside.fall
    c.look_at.new.fall c.self.inside.waiters.items c.self.inside.order (list_of c.args.self.now) c.args.server c.move_next-key.result c.self.invariant
    (ap list_of c.self.view_is) c.requires c.look_at.ensures.lines c.look_at.ensures.server c.move_next-key.ensures.first c.move_next-key.ensures.moved in
    subst (λ (o : Order). c.move_next-key.result.1 < o.room) (sym c.remove.ensures)
    (subst (λ n. c.move_next-key.result.1 < n) (sym c.self.invariant.waiting.order_room) (slice_get_within _ _ _ by.its.take.first.waits))

pub append-requires-clause-absent : goal.append-requires-clause-absent
append-requires-clause-absent g c =
    subst (λ (o : Order). Contains o.places c.move_next-key.result.1 → ⊥) (sym c.remove.ensures) (place_gone c.self.inside.order.places c.move_next-key.result.1)

pub invariant_of-self : goal.invariant_of-self
invariant_of-self g c =
    let by = moves (lines_of c.self.inside.queues) (lines_of c.look_at.new.queues) (lines_in (lines_of c.move_next-key.new.queues) c.move_next-key.new.fall) c.self.inside.fall
    c.look_at.new.fall c.self.inside.waiters.items c.self.inside.order (list_of c.args.self.now) c.args.server c.move_next-key.result c.self.invariant
    (ap list_of c.self.view_is) c.requires c.look_at.ensures.lines c.look_at.ensures.server c.move_next-key.ensures.first c.move_next-key.ensures.moved in
    let joins = c.append.ensures ∙ ap (λ (o : Order). with_places o (o.places ++ c.move_next-key.result.1 ∷ [])) c.remove.ensures in
    let listed : vec_capacity c.move_next-key.new.fall.sorted ≡ vec_capacity c.self.inside.fall.sorted = ap (λ v. vec_capacity v) c.move_next-key.ensures.same.1 ∙ c.look_at.ensures.listing in
    let long : length c.put.new.cells.items ≡ length c.self.inside.waiters.items =
    ap (λ (l : Waiters). length l) c.put.ensures ∙ length-set c.self.inside.waiters.items c.move_next-key.result.1 _ in record {
      waiting = shift_kept (lines_in (lines_of c.self.inside.queues) c.self.inside.fall) _ c.self.inside.waiters.items _ c.self.inside.order _ c.move_next-key.result.1
          c.args.server by.its.waiter c.moved.result c.move_next-key.result c.self.invariant.waiting by.its.take (ap (λ k. (k, c.move_next-key.result.1)) (sym by.its.named))
          (ap (λ (w : Waiter). w.key) c.moved.ensures ∙ sym by.its.named) (ap (λ (w : Waiter). w.queue) c.moved.ensures) by.goes c.put.ensures joins;
      falling = c.move_next-key.ensures.falling;
      listing = let room = c.self.invariant.listing in omega arith;
    }

pub returns-clause-shifted : goal.returns-clause-shifted
returns-clause-shifted g c =
    let by = moves (lines_of c.self.inside.queues) (lines_of c.look_at.new.queues) (lines_in (lines_of c.move_next-key.new.queues) c.move_next-key.new.fall) c.self.inside.fall
    c.look_at.new.fall c.self.inside.waiters.items c.self.inside.order (list_of c.args.self.now) c.args.server c.move_next-key.result c.self.invariant
    (ap list_of c.self.view_is) c.requires c.look_at.ensures.lines c.look_at.ensures.server c.move_next-key.ensures.first c.move_next-key.ensures.moved in
    let lined = lines_in (lines_of c.self.inside.queues) c.self.inside.fall in
    let pair = ap (λ k. (k, c.move_next-key.result.1)) (sym by.its.named) in
    let joins = c.append.ensures ∙ ap (λ (o : Order). with_places o (o.places ++ c.move_next-key.result.1 ∷ [])) c.remove.ensures in
    let before : record { waiters = c.self.inside.waiters.items; order = c.self.inside.order.places; servers = length lined.own } ≡ list_of c.args.self.now =
    ap (λ n. record { waiters = c.self.inside.waiters.items; order = c.self.inside.order.places; servers = n })
    (fallen_servers (lines_of c.self.inside.queues) c.self.inside.fall.server c.self.inside.fall.told) ∙ ap list_of c.self.view_is in (
      by.its.waiter,
      subst (λ (l : Waitlist). WaitsFirstIn (Server c.args.server) l.waiters c.move_next-key.result.1 by.its.waiter) (ap list_of c.self.view_is) by.its.take.first,
      ap (λ n. record { waiters = c.put.new.cells.items; order = c.append.new.self.places; servers = n })
          (sym (fallen_servers (lines_of c.move_next-key.new.queues) c.move_next-key.new.fall.server c.move_next-key.new.fall.told))
          ∙ shifted_view lined (lines_in (lines_of c.move_next-key.new.queues) c.move_next-key.new.fall) c.self.inside.waiters.items _ c.self.inside.order c.append.new.self
          (list_of c.args.self.now) c.move_next-key.result.1 c.args.server c.args.joined by.its.waiter c.moved.result _ before
          (by.goes ∙ ap (λ x. with_moved (with_line lined (Server c.args.server) (drop 1 (line_at lined (Server c.args.server)))) (inserted key_cmp x lined.moved)) pair)
          c.put.ensures joins (c.moved.ensures ∙ ap (λ (k : Key). record { key = k; queue = Backend; joined = c.args.joined }) (sym by.its.named)),
    )

pub returns-clause-falling : goal.returns-clause-falling
returns-clause-falling g c alone =
    falls_still _ c.move_next-key.new.fall _ _ c.args.server (invariant_of-self g c) (c.move_next-key.ensures.same.0 ∙ c.look_at.ensures.server)
