use Rattle.std.proofs.Common.{drop, arith, length-drop}
use Rattle.std.proofs.lemmas.List.{take_rest}
use Rattle.std.proofs.lemmas.Option.{slice_get_within}
use Rattle.slot_ledger.proofs.Searching.{first_rises, second_rises, in_first, in_second, in_neither}
use Rattle.slot_ledger.proofs.tickets.position.Goals as goal

pub search-requires : goal.search-requires
search-requires c = first_rises c.args.ticket _ _ _ c.requires

pub returns-in-Some-search : goal.returns-in-Some-search
returns-in-Some-search c = in_first c.args.ticket c.args.kept c.args.next c.args.pairs.now c.in-Some-search.at c.in-Some-search.ensures

-- a part up to the end is the rest
pub search-requires-2 : goal.search-requires-2
search-requires-2 c = rw (take_rest c.args.pairs.now c.args.next) (second_rises c.args.ticket _ _ _ c.requires)

pub returns-in_err-at : goal.returns-in_err-at
returns-in_err-at c =
    rw c.from_residual.ensures
    (in_neither c.args.ticket c.args.kept c.args.next c.args.pairs.now c.requires c.in_default-search.ensures
    (rw (take_rest c.args.pairs.now c.args.next) at c.in_err-at.ensures))

pub overflow_add-result-2 : goal.overflow_add-result-2
overflow_add-result-2 c =
    let has = rw (take_rest c.args.pairs.now c.args.next) at c.in_ok-at.ensures in
    let within = slice_get_within (drop c.args.next c.args.pairs.now) c.in_ok-at.at has.0 has.1 in
    let long = length-drop c.args.next c.args.pairs.now in
    omega arith

pub returns : goal.returns
returns c = in_second c.args.ticket c.args.kept c.args.next c.args.pairs.now c.in_ok-at.at
    (rw (take_rest c.args.pairs.now c.args.next) at c.in_ok-at.ensures)
