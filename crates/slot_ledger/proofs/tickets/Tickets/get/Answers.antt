use Rattle.std.proofs.Common.{List, MatchOption, Contains, subst}
use Rattle.slot_ledger.specs.declared.tickets.TicketPlace.{TicketPlace}
use Rattle.slot_ledger.specs.Tickets.{Indexed, TicketIsAbsent, IsInStretches}
use Rattle.slot_ledger.proofs.Searching.{place_tells}
use Rattle.slot_ledger.proofs.tickets.Tickets.get.Goals as goal

pub returns : goal.returns
returns c =
    let there = subst (λ (l : List TicketPlace). IsInStretches c.args.ticket c.self.inside.kept c.self.inside.next l c.in_ok-at.at) c.deref.ensures.value
    c.in_ok-at.ensures in
    subst (λ (i : Indexed). MatchOption c.index.result.now.place (TicketIsAbsent c.args.ticket i.pairs)
    (λ place. Contains i.pairs (c.args.ticket, place))) c.self.view_is
    (place_tells c.args.ticket c.self.inside.kept c.self.inside.next c.in_ok-at.at c.self.inside.pairs.items c.index.result.now c.self.invariant there
    c.index.ensures)
