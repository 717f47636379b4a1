use Rattle.std.proofs.Common.{◌≡◌, ◌+◌, ◌^◌, ◌<◌, None, count_by, is_some, ap, sym, ◌∙◌, subst, arith}
use Rattle.log_entries.specs.declared.setup.Setup.{Setup}
use Rattle.log_entries.specs.Histories.{History, refuses_arrival}
use Rattle.log_entries.specs.Refusals.{pins_to_none}
use Rattle.dispatch_state.specs.Histories.{HasEntryRoom}
use Rattle.dispatch_state.proofs.Beginning.{none_refuses}
use Rattle.dispatch_state.proofs.state.DispatchState.refuses_arrival.Goals as goal

pub returns : goal.returns
returns g c =
    let room = subst (λ (h : History). HasEntryRoom h) (sym c.self.view_is) (c.has_room.ensures.0 c.if-not-has_room.false) in
    let known = ap (λ (h : History). pins_to_none h.setup c.args.pin) c.self.view_is ∙ sym c.pins_to_none.ensures ∙ c.if-pins_to_none.false in
    let few : c.self.inside.position.ticket + 1 < 2 ^ 40 = omega arith in
    let some : count_by is_some c.self.inside.ledger.cells < c.self.inside.ledger.setup.places =
    (let same : c.setup.result.now.places ≡ c.self.inside.ledger.setup.places = ap (λ (s : Setup). s.places) c.setup.ensures.setup in
    let few = c.if-len-setup.false in let counted = c.len.ensures in omega arith) in
    subst (λ (h : History). None ≡ refuses_arrival h c.args.pin) c.self.view_is (none_refuses _ _ c.args.pin c.self.invariant room known few some)
