use Rattle.std.proofs.Common.{refl, ap, ◌∙◌}
use Rattle.slot_ledger.specs.Ledgers.{Kept}
use Rattle.server_pick.proofs.Alone.{heads_of_one, one_stands}
use Rattle.test_dispatch.proofs.picks.take_past_a_fall.Goals as goal

pub next_queue-requires : goal.next_queue-requires
next_queue-requires g c =
    let now = ap (λ (k : Kept _). k.cells) c.set_up.ensures ∙ ap (λ (k : Kept _). k.cells) c.admit.ensures.admitted in
    let one = one_stands _ _ 4 _ _ c.requires.empty c.admit.ensures.vacant now in
    record { heads = heads_of_one _ 1 _ c.admit.result _ _ one.0 one.1 refl refl refl }
