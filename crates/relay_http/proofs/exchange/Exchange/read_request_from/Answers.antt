use Rattle.std.proofs.Common.{refl}
use Rattle.http_texts.specs.Heads.{LacksRequest}
use Rattle.relay_http.proofs.Failing.{fails_after}
use Rattle.relay_http.proofs.Turning.{moves_turns, fails_turns, fails_spent, fails_unwritten}
use Rattle.req_view.specs.Heads.{HasNoHead}
use Rattle.relay_http.proofs.exchange.Exchange.read_request_from.Goals as goal

pub returns-in-Err-clause-err : goal.returns-in-Err-clause-err
returns-in-Err-clause-err g c = λ open_still w. fails_after LacksRequest HasNoHead c.forget_waiting.new.self c.forget_waiting.ensures.turns (c.in-Err.ensures.err w)

pub returns-in-Ok-clause-same_source : goal.returns-in-Ok-clause-same_source
returns-in-Ok-clause-same_source g c = (c.in-Ok.ensures.ok.4 (g.S.Source.stream c.args.source.now)).reads.same_source

pub returns-in-Err-clause-same_source : goal.returns-in-Err-clause-same_source
returns-in-Err-clause-same_source g c = (c.in-Err.ensures.err (g.S.Source.stream c.args.source.now)).reads.same_source

pub returns-in-Ok-clause-turns : goal.returns-in-Ok-clause-turns
returns-in-Ok-clause-turns g c = moves_turns (c.in-Ok.ensures.ok.4 (g.S.Source.stream c.args.source.now))

pub returns-in-Err-clause-turns : goal.returns-in-Err-clause-turns
returns-in-Err-clause-turns g c =
    let part = c.in-Err.ensures.err (g.S.Source.stream c.args.source.now) in
    let after = fails_after LacksRequest HasNoHead c.forget_waiting.new.self c.forget_waiting.ensures.turns part in
    fails_turns after

pub returns-in-Err-clause-spent : goal.returns-in-Err-clause-spent
returns-in-Err-clause-spent g c = λ is.
    let part = c.in-Err.ensures.err (g.S.Source.stream c.args.source.now) in
    let after = fails_after LacksRequest HasNoHead c.forget_waiting.new.self c.forget_waiting.ensures.turns part in
    fails_spent c.in-Err.fault after is

pub returns-in-Err-clause-unwritten : goal.returns-in-Err-clause-unwritten
returns-in-Err-clause-unwritten g c =
    fails_unwritten c.in-Err.fault (c.in-Err.ensures.err (g.S.Source.stream c.args.source.now)) refl
