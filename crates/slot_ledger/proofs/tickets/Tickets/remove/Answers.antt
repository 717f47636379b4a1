use Rattle.std.proofs.Common.{List, None, Contains, refl, sym, subst}
use Rattle.slot_ledger.specs.declared.tickets.TicketPlace.{TicketPlace}
use Rattle.slot_ledger.specs.Tickets.{Indexed, IsInStretches}
use Rattle.slot_ledger.proofs.Searching.{still_stretches, place_taken}
use Rattle.slot_ledger.proofs.tickets.Tickets.remove.Goals as goal

pub invariant_of-self : goal.invariant_of-self
invariant_of-self c =
    let there = subst (λ (l : List TicketPlace). IsInStretches c.args.ticket c.self.inside.kept c.self.inside.next l c.in-Some.at) c.deref.ensures.value
    c.in-Some.ensures in
    still_stretches c.args.ticket c.self.inside.kept c.self.inside.next c.in-Some.at c.self.inside.pairs.items c.index_mut.result.now c.self.invariant there
    c.index_mut.ensures.value _ refl

pub returns-in-Some-clause-removed : goal.returns-in-Some-clause-removed
returns-in-Some-clause-removed c =
    let there = subst (λ (l : List TicketPlace). IsInStretches c.args.ticket c.self.inside.kept c.self.inside.next l c.in-Some.at) c.deref.ensures.value
    c.in-Some.ensures in
    let among = subst (λ (i : Indexed). Contains i.pairs (c.args.ticket, c.requires.0)) (sym c.self.view_is) c.requires.1 in
    rw (← c.self.view_is)
    (place_taken c.args.ticket c.self.inside.kept c.self.inside.next c.in-Some.at c.self.inside.pairs.items c.index_mut.result.now c.self.invariant there
    c.index_mut.ensures.value (record { ticket = c.args.ticket; place = None }) c.requires.0 refl among)
