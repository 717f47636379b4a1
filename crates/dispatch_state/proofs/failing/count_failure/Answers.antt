use Rattle.std.proofs.Common.{ap, sym, ◌∙◌}
use Rattle.slot_ledger.specs.Ledgers.{Kept}
use Rattle.slot_ledger.proofs.Standing.{still_stands}
use Rattle.dispatch_state.proofs.Failures.{counted_once, counted_unpinned}
use Rattle.dispatch_state.proofs.failing.count_failure.Goals as goal

pub unpin-requires : goal.unpin-requires
unpin-requires g c = still_stands _ _ _ c.args.place (c.requires.0, c.requires.1) (ap (λ (k : Kept _). k.cells) c.fail.ensures)

pub returns-then-redispatches-clause-counted : goal.returns-then-redispatches-clause-counted
returns-then-redispatches-clause-counted g c =
    counted_unpinned c.args.ledger.now c.fail.new.self _ c.setup.result.now c.args.place c.row-failures.result c.fail.ensures c.setup.ensures.setup
    c.unpin.ensures c.row-failures.ensures (sym c.redispatches.ensures ∙ c.if-redispatches.true)

pub returns-else-redispatches-clause-counted : goal.returns-else-redispatches-clause-counted
returns-else-redispatches-clause-counted g c =
    counted_once c.args.ledger.now c.fail.new.self c.setup.result.now c.args.place c.row-failures.result c.fail.ensures c.setup.ensures.setup
    c.row-failures.ensures (sym c.redispatches.ensures ∙ c.if-redispatches.false)
