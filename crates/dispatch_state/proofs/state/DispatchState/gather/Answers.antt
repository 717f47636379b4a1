use Rattle.std.proofs.Common.{◌≡◌, ℕ, ◌+◌, ◌<◌, length, refl, ap, sym, ◌∙◌, subst, arith, nat_cmp}
use Rattle.pend_queue.proofs.Inserted.{length-inserted}
use Rattle.dispatch_state.proofs.Expiring.{walk_begins, place_there, walks_less, fits_more, after_has_row, ticket_absent, walks_on, walk_ends, first_has_row}
use Rattle.dispatch_state.proofs.Expiring.{row_there, row_read, last_moment, in_turn_there, stays_there, walked_to, has_row_here}
use Rattle.dispatch_state.proofs.state.DispatchState.gather.Goals as goal

pub expired_at-oldest-requires : goal.expired_at-oldest-requires
expired_at-oldest-requires g c =
    first_has_row c.args.self.now _ (in_turn_there _ _ c.self.invariant c.args.self.now c.self.view_is) c.oldest.result c.oldest.ensures.oldest

pub walking-init : goal.walking-init
walking-init g c = record {
  walked =
      walk_begins c.args.self.now c.self.inside.waiting.order c.self.inside.position.last c.args.tickets.now.pairs c.oldest.result
      c.expired_at-oldest.result c.requires.none c.oldest.ensures.oldest c.expired_at-oldest.ensures;
  kept = refl;
}

pub row-requires : goal.row-requires
row-requires g c =
    let stays = stays_there _ _ c.self.invariant _ c.self.view_is c.oldest.ensures.order.once in
    let walked = walked_to _ _ _ _ _ _ c.walking.invariant.walked c.in-Some.is in
    row_there _ _ c.self.invariant _ c.self.view_is c.in-Some.place (has_row_here _ _ stays _ _ _ walked)

pub push-requires-clause-room : goal.push-requires-clause-room
push-requires-clause-room g c =
    let stays = stays_there _ _ c.self.invariant _ c.self.view_is c.oldest.ensures.order.once in
    let walked = walked_to _ _ _ _ _ _ c.walking.invariant.walked c.in-Some.is in
    subst (λ (n : ℕ). length c.walking.tickets.pairs < n) (sym c.walking.invariant.kept)
    (fits_more _ _ stays _ _ _ walked c.args.tickets.now.room c.requires.room)

pub push-requires-clause-absent : goal.push-requires-clause-absent
push-requires-clause-absent g c =
    let stays = stays_there _ _ c.self.invariant _ c.self.view_is c.oldest.ensures.order.once in
    let walked = walked_to _ _ _ _ _ _ c.walking.invariant.walked c.in-Some.is in
    let row = row_read _ _ c.self.invariant _ c.self.view_is c.in-Some.place c.row.result c.row.ensures in
    ticket_absent _ _ stays _ _ _ walked c.row.result row

pub after-requires : goal.after-requires
after-requires g c =
    let stays = stays_there _ _ c.self.invariant _ c.self.view_is c.oldest.ensures.order.once in
    let walked = walked_to _ _ _ _ _ _ c.walking.invariant.walked c.in-Some.is in
    place_there _ _ stays _ _ _ walked

pub expired_at-oldest-requires-in-Some : goal.expired_at-oldest-requires-in-Some
expired_at-oldest-requires-in-Some g c =
    let stays = stays_there _ _ c.self.invariant _ c.self.view_is c.oldest.ensures.order.once in
    let walked = walked_to _ _ _ _ _ _ c.walking.invariant.walked c.in-Some.is in
    after_has_row _ _ stays _ _ _ walked c.after.result c.after.ensures

pub walking-smaller : goal.walking-smaller
walking-smaller g c =
    let stays = stays_there _ _ c.self.invariant _ c.self.view_is c.oldest.ensures.order.once in
    let walked = walked_to _ _ _ _ _ _ c.walking.invariant.walked c.in-Some.is in
    let row = row_read _ _ c.self.invariant _ c.self.view_is c.in-Some.place c.row.result c.row.ensures in
    let less = walks_less _ _ stays _ _ _ walked in
    let absent = ticket_absent _ _ stays _ _ _ walked c.row.result row in
    let more : length c.push.new.self.pairs ≡ length c.walking.tickets.pairs + 1 =
    ap length c.push.ensures.pairs ∙ length-inserted nat_cmp (c.row.result.key.ticket, c.in-Some.place) c.walking.tickets.pairs absent in
    omega arith

pub walking-preserved : goal.walking-preserved
walking-preserved g c =
    let stays = stays_there _ _ c.self.invariant _ c.self.view_is c.oldest.ensures.order.once in
    let walked = walked_to _ _ _ _ _ _ c.walking.invariant.walked c.in-Some.is in
    let row = row_read _ _ c.self.invariant _ c.self.view_is c.in-Some.place c.row.result c.row.ensures in
    record {
      walked =
          walks_on _ _ stays _ _ _ walked c.row.result row c.push.new.self.pairs c.after.result c.expired_at-oldest-in-Some.result
          c.push.ensures.pairs c.push.ensures.ascending c.after.ensures c.expired_at-oldest-in-Some.ensures;
      kept = c.push.ensures.room ∙ c.walking.invariant.kept;
    }

pub returns-clause-expired : goal.returns-clause-expired
returns-clause-expired g c =
    walk_ends _ _ _ _ (in_turn_there _ _ c.self.invariant _ c.self.view_is) (last_moment _ _ c.self.invariant _ c.self.view_is)
    (walked_to _ _ _ _ _ _ c.walking.invariant.walked c.in_default.is)

pub returns-clause-ascending : goal.returns-clause-ascending
returns-clause-ascending g c = c.walking.invariant.walked.ascending

pub returns-clause-room : goal.returns-clause-room
returns-clause-room g c = c.walking.invariant.kept
