use Rattle.std.proofs.Common.{rules}
use Rattle.std.proofs.lemmas.List.Sorted.{answers_always}
use Rattle.slot_ledger.proofs.Searching.{searched}
use Rattle.slot_ledger.proofs.tickets.search.Goals as goal

-- the closure gives an pair's ticket
pub returns : goal.returns
returns c =
    let facts = c.binary_search_by_key.ensures in
    let by_ticket = facts.position (λ e. e.ticket) (answers_always _ _ _ (λ f a r g called. search rules)) in
    rw c.ok.ensures.value (searched c.args.ticket c.args.pairs.now c.requires c.binary_search_by_key.result facts.bound by_ticket)
