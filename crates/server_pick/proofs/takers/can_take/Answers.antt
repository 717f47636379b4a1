use Rattle.std.proofs.Common.{sym, ◌∙◌}
use Rattle.slot_ledger.specs.Ledgers.{scene_in}
use Rattle.server_pick.proofs.Taking.{stay_may_go}
use Rattle.server_pick.proofs.takers.can_take.Goals as goal

pub returns-then-is_free : goal.returns-then-is_free
returns-then-is_free g c =
    let free = sym c.is_free.ensures ∙ c.if-is_free.true in
    let both = stay_may_go (scene_in c.args.ledger.now) c.args.server in
    ((λ stay. (free, both.0 (sym c.has_stay.ensures ∙ stay))), (λ can. c.has_stay.ensures ∙ both.1 can.1))
