use Rattle.std.proofs.Common.{None, not, ap, sym, ◌∙◌}
use Rattle.std.proofs.lemmas.Result.{IfOk-at_ok}
use Rattle.base_lists.proofs.Options.{none_from_test}
use Rattle.dispatch_core.proofs.Calls.{legal_places}
use Rattle.dispatch_state.proofs.Placing.{newcomer_put, arrival_places, arrival_room}
use Rattle.test_dispatch.proofs.traces.arrive.Goals as goal

pub put-requires-clause-may_put : goal.put-requires-clause-may_put
put-requires-clause-may_put g c =
    let begun = IfOk-at_ok _ c.expect-it.ensures c.arrive-answer.ensures.ok in
    let pin = IfOk-at_ok _ c.expect-it.ensures c.arrive-answer.ensures.pin in
    newcomer_put c.arrive-answer.new.self _ None (arrival_places c.args.trace.now c.arrive-answer.new.self _ _ begun) pin

pub grant-requires-clause-room : goal.grant-requires-clause-room
grant-requires-clause-room g c =
    let accepted = sym c.refuses_arrival.ensures ∙ none_from_test c.refuses_arrival.result (c.is_none.ensures ∙ ap not c.holds.ensures) in
    let begun = IfOk-at_ok _ c.expect-it.ensures c.arrive-answer.ensures.ok in
    arrival_room c.args.trace.now c.arrive-answer.new.self c.put.new.trace _ _ None _
    (legal_places c.args.trace.now c.requires) accepted begun c.put.ensures.1
