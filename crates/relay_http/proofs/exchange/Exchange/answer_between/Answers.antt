-- The answer is handed on by a pipe that holds nothing, and what was written is known by how many writes succeeded.
use Rattle.std.proofs.Common.{◌<◌, ◌∙◌, ℕ, length, arith, ap, length-append}
use Rattle.http_texts.specs.Messages.{LacksAnswer}
use Rattle.std.proofs.lemmas.Grind.{common_steps}
use Rattle.relay_http.specs.Calls.{HandsAnswer}
use Rattle.relay_http.specs.Wants.{WantsAnswer}
use Rattle.relay_http.proofs.Failing.{fails_after, fails_from}
use Rattle.relay_http.proofs.Marking.{marks, begun_by, pipe_emptied, answered_some}
use Rattle.relay_http.proofs.Turning.{moves_turns, fails_turns, fails_spent}
use Rattle.relay_http.proofs.exchange.Exchange.answer_between.Goals as goal

pub returns-in-Ok-clause-ok : goal.returns-in-Ok-clause-ok
returns-in-Ok-clause-ok g c =
    let empty = pipe_emptied c.args.self.now.pipe c.hold.new.self c.hold.ensures.inbox c.hold.ensures.outbox c.hold.ensures.turns in
    let whole = c.in-Ok.ensures.ok in (
      whole.0,
      whole.1,
      whole.2,
      rw (← empty) whole.3,
      whole.4,
      whole.5,
    )

pub returns-in-Ok-clause-marks : goal.returns-in-Ok-clause-marks
returns-in-Ok-clause-marks g c = λ open_still.
    marks c.args.self.now.begun c.has_begun-self.result c.successes-before.result c.successes.result c.successes-before.ensures c.successes.ensures
    c.in-Ok.ensures.ok.3.writes c.has_begun-self.ensures

pub returns-in-Ok-clause-begun : goal.returns-in-Ok-clause-begun
returns-in-Ok-clause-begun g c =
    let whole = c.in-Ok.ensures.ok in
    let moves = whole.3 in
    let some : 0 < length moves.front =
    omega (
      arith,
      answered_some whole.2,
      ap (length {A = ℕ}) moves.waiting,
      length-append c.hold.new.self.outbox whole.1,
      length-append moves.front c.forward_answer-result.new.pipe.outbox,
      ap (length {A = ℕ}) c.in-Ok.ensures.empty,
    ) in
    begun_by c.args.self.now.begun c.has_begun-self.result c.successes-before.result c.successes.result c.successes-before.ensures c.successes.ensures
    moves.writes c.has_begun-self.ensures some

pub returns-in-Err-clause-err : goal.returns-in-Err-clause-err
unfolding fails_after
returns-in-Err-clause-err g c =
    let empty = pipe_emptied c.args.self.now.pipe c.hold.new.self c.hold.ensures.inbox c.hold.ensures.outbox c.hold.ensures.turns in
    let part = c.in-Err.ensures.err in
    let method = c.args.view.now.method in
    let after = fails_after (LacksAnswer method) (WantsAnswer method) c.hold-in-Err.new.self (c.hold-in-Err.ensures.turns ∙ c.forget_waiting.ensures.turns) part.3 in
    let from = fails_from (LacksAnswer method) (WantsAnswer method) (HandsAnswer part.2) empty after part.5 in
    λ open_still. (
      part.0,
      part.1,
      part.2,
      from.0,
      λ at. part.4 at c.hold.ensures.inbox (c.hold.ensures.outbox ∙ c.args.self.now.drained),
      from.1,
    )

pub returns-in-Err-clause-marks : goal.returns-in-Err-clause-marks
returns-in-Err-clause-marks g c = λ open_still.
    marks c.args.self.now.begun c.has_begun-self.result c.successes-before.result c.successes.result c.successes-before.ensures c.successes.ensures
    c.in-Err.ensures.err.3.writes.wrote c.has_begun-self.ensures

pub returns-in-Ok-clause-same_source : goal.returns-in-Ok-clause-same_source
returns-in-Ok-clause-same_source g c = c.in-Ok.ensures.ok.3.reads.same_source

pub returns-in-Ok-clause-same_sink : goal.returns-in-Ok-clause-same_sink
returns-in-Ok-clause-same_sink g c = c.in-Ok.ensures.ok.3.reads.same_sink

pub returns-in-Err-clause-same_source : goal.returns-in-Err-clause-same_source
returns-in-Err-clause-same_source g c = c.in-Err.ensures.err.3.reads.same_source

pub returns-in-Err-clause-same_sink : goal.returns-in-Err-clause-same_sink
returns-in-Err-clause-same_sink g c = c.in-Err.ensures.err.3.reads.same_sink

pub returns-in-Ok-clause-turns : goal.returns-in-Ok-clause-turns
returns-in-Ok-clause-turns g c = omega (arith, moves_turns c.in-Ok.ensures.ok.3, c.hold.ensures.turns)

pub returns-in-Err-clause-turns : goal.returns-in-Err-clause-turns
returns-in-Err-clause-turns g c =
    let after = fails_after (LacksAnswer c.args.view.now.method) (WantsAnswer c.args.view.now.method) c.hold-in-Err.new.self (c.hold-in-Err.ensures.turns ∙ c.forget_waiting.ensures.turns) c.in-Err.ensures.err.3 in
    omega (arith, fails_turns after, c.hold.ensures.turns)

pub returns-in-Err-clause-spent : goal.returns-in-Err-clause-spent
returns-in-Err-clause-spent g c = λ is.
    let after = fails_after (LacksAnswer c.args.view.now.method) (WantsAnswer c.args.view.now.method) c.hold-in-Err.new.self (c.hold-in-Err.ensures.turns ∙ c.forget_waiting.ensures.turns) c.in-Err.ensures.err.3 in
    fails_spent c.in-Err.fault after is

pub returns-in-Err-clause-stays : goal.returns-in-Err-clause-stays
returns-in-Err-clause-stays g c = grind (arith, common_steps)
