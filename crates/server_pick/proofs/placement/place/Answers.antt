use Rattle.std.proofs.Common.{◌≡◌, refl, sym, ◌∙◌, subst}
use Rattle.slot_ledger.specs.Ledgers.{scene_in}
use Rattle.server_pick.specs.declared.placement.Placement.{Placement}
use Rattle.server_pick.specs.Picked.{IsPlacement, cursor_placed}
use Rattle.server_pick.proofs.Chosen.{picked_placed, cursor_picked, none_has_room}
use Rattle.server_pick.proofs.placement.place.Goals as goal

pub returns-in-Some-pick-clause-placed : goal.returns-in-Some-pick-clause-placed
returns-in-Some-pick-clause-placed g c =
    let scene = scene_in c.args.ledger.now in
    let none = sym c.working_pin.ensures ∙ c.in_default.is in
    subst (λ (p : Placement). IsPlacement scene c.args.cursor.now c.args.pin c.args.avoid p) (sym c.put_on-in-Some-pick.ensures)
    (picked_placed scene c.args.cursor.now c.args.pin c.args.avoid c.candidates.result c.in-Some-pick.server none c.candidates.ensures
    c.in-Some-pick.ensures.picked)

pub returns-in-Some-pick-clause-cursor : goal.returns-in-Some-pick-clause-cursor
returns-in-Some-pick-clause-cursor g c =
    let scene = scene_in c.args.ledger.now in
    let none = sym c.working_pin.ensures ∙ c.in_default.is in
    let candidate = (c.candidates.ensures c.in-Some-pick.server).0 c.in-Some-pick.ensures.picked.member in
    subst (λ (p : Placement). c.pick.new.cursor ≡ cursor_placed c.args.pin p c.args.cursor.now) (sym c.put_on-in-Some-pick.ensures)
    (cursor_picked scene c.args.cursor.now c.pick.new.cursor c.args.pin c.in-Some-pick.server none candidate.0 c.in-Some-pick.ensures.moved)

pub returns-in-None-clause-placed : goal.returns-in-None-clause-placed
returns-in-None-clause-placed g c = (
  sym c.working_pin.ensures ∙ c.in_default.is,
  c.if-some_usable.ensures.yes refl,
  none_has_room (scene_in c.args.ledger.now) c.args.avoid (λ server candidate. c.in-None.ensures.picked server ((c.candidates.ensures server).1 candidate)),
)
