use Rattle.std.proofs.Common.{◌<◌, ◌+◌, [], ◌∷◌, ◌++◌, ap, ◌∙◌, arith, rules}
use Rattle.queue_waits.specs.Order.{Order, with_places}
use borrow.Author.Rules.{get_or_read}
use Rattle.queue_waits.proofs.Cells.{last_within, addition, kept, shown}
use Rattle.queue_waits.proofs.order.JoinOrder.append.Goals as goal

pub link-requires-clause-from : goal.link-requires-clause-from
link-requires-clause-from c =
    let low : c.index-last.result.now < c.self.inside.room + 1 = last_within _ _ _ _ c.self.view_is c.self.invariant c.args.place _ c.index-last.ensures in
    let cells = c.self.invariant.next_cells in
    omega arith

pub invariant_of-self : goal.invariant_of-self
invariant_of-self c =
    kept _ _ _ _
    (addition _ _ _ _ c.self.view_is c.self.invariant c.args.place _ c.index-last.ensures c.requires.room c.requires.absent _ _ _ _ c.link.ensures.next
    c.link.ensures.previous c.link-2.ensures.next c.link-2.ensures.previous)

pub returns : goal.returns
returns c =
    shown _ _ _ _
    (addition _ _ _ _ c.self.view_is c.self.invariant c.args.place _ c.index-last.ensures c.requires.room c.requires.absent _ _ _ _ c.link.ensures.next
    c.link.ensures.previous c.link-2.ensures.next c.link-2.ensures.previous)
    ∙ ap (λ (order : Order). with_places order (c.args.self.now.places ++ c.args.place ∷ [])) c.self.view_is

pub link-requires-clause-to : goal.link-requires-clause-to
link-requires-clause-to c = search (rules, get_or_read, c.requires-raw)
