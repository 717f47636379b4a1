use Rattle.std.proofs.Common.{refl}
use Rattle.http_bodies.specs.Steps.{LacksNothing}
use Rattle.relay_http.specs.Failures.{NoCause}
use Rattle.relay_http.proofs.Failing.{fails_after}
use Rattle.relay_http.proofs.Turning.{moves_turns, fails_turns, fails_spent, fails_unread}
use Rattle.relay_http.proofs.exchange.Exchange.go_on_to.Goals as goal

pub returns-in-Err-clause-err : goal.returns-in-Err-clause-err
returns-in-Err-clause-err g c = λ open_still s. fails_after NoCause LacksNothing c.forget_waiting.new.self c.forget_waiting.ensures.turns (c.in-Err.ensures.err s)

pub returns-in-Ok-clause-same_sink : goal.returns-in-Ok-clause-same_sink
returns-in-Ok-clause-same_sink g c = (c.in-Ok.ensures.ok (g.K.Sink.stream c.args.sink.now)).reads.same_sink

pub returns-in-Err-clause-same_sink : goal.returns-in-Err-clause-same_sink
returns-in-Err-clause-same_sink g c = (c.in-Err.ensures.err (g.K.Sink.stream c.args.sink.now)).reads.same_sink

pub returns-in-Ok-clause-turns : goal.returns-in-Ok-clause-turns
returns-in-Ok-clause-turns g c = moves_turns (c.in-Ok.ensures.ok (g.K.Sink.stream c.args.sink.now))

pub returns-in-Err-clause-turns : goal.returns-in-Err-clause-turns
returns-in-Err-clause-turns g c =
    let after = fails_after NoCause LacksNothing c.forget_waiting.new.self c.forget_waiting.ensures.turns (c.in-Err.ensures.err (g.K.Sink.stream c.args.sink.now)) in
    fails_turns after

pub returns-in-Err-clause-spent : goal.returns-in-Err-clause-spent
returns-in-Err-clause-spent g c = λ is.
    let after = fails_after NoCause LacksNothing c.forget_waiting.new.self c.forget_waiting.ensures.turns (c.in-Err.ensures.err (g.K.Sink.stream c.args.sink.now)) in
    fails_spent c.in-Err.fault after is

pub returns-in-Err-clause-unread : goal.returns-in-Err-clause-unread
returns-in-Err-clause-unread g c = λ open_still. fails_unread c.in-Err.fault (c.in-Err.ensures.err (g.K.Sink.stream c.args.sink.now)) refl
