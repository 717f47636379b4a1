use Rattle.std.proofs.Common.{None, not, get_or, ap, ◌∙◌}
use Rattle.std.proofs.lemmas.Option.{slice_get-get_or}
use Rattle.base_lists.proofs.Options.{none_from_test}
use Rattle.slot_ledger.proofs.Stretches.{pass_dropped}
use Rattle.slot_ledger.proofs.tickets.keep_if_placed.Goals as goal

-- an pair without a place stays behind
pub returns-then-is_none : goal.returns-then-is_none
returns-then-is_none c =
    let pair = get_or c.args.pairs.now c.args.next (record { ticket = 0; place = None }) in
    pass_dropped c.args.kept c.args.next c.args.pairs.now pair c.requires.stretches (slice_get-get_or c.args.pairs.now c.args.next _ c.requires.within)
    (none_from_test pair.place (c.is_none.ensures ∙ ap not c.if-is_none.true))
