use Rattle.std.proofs.Common.{◌≡◌, ◌≢◌, [], None, Some, refl, ◌∙◌}
use Rattle.grant_board.specs.Views.{Grant}
use Rattle.relay_http.specs.States.{forwarded_on}
use Rattle.relay_http.specs.declared.exchange.Stage.TheVariants.{Asked, Failed}
use Rattle.relay_http.specs.declared.exchange.Stage.{Stage}
use Rattle.relay_workers.proofs.Handing.{noted, asks, leaves, stops, answers, breaks}
use Rattle.relay_workers.proofs.finishing.hand_on.Goals as goal

still_open : {stage : Stage} → stage ≡ Asked → stage ≢ Failed
still_open asked = λ failed. cc

still_sent : {stage : Stage} (pass : Grant) → stage ≡ forwarded_on pass → stage ≢ Failed
still_sent pass sent = λ failed. cc

pub returns-in-Err-clause-handed : goal.returns-in-Err-clause-handed
returns-in-Err-clause-handed g c = (
  c.go_on.new.writer,
  noted g.C.Read.remaining g.C.Write.contents g.S.Read.remaining g.S.Write.contents _ _ _ _ _ _ (c.in-Err.ensures.closes (still_open c.requires.asked.0))
      (leaves g.C.Read.remaining g.C.Write.contents g.S.Read.remaining g.S.Write.contents c.parts.ensures.same.1
      (c.in-Err.ensures.err (still_open c.requires.asked.0) None)),
  refl,
)

pub returns-in-Err-forward-clause-handed : goal.returns-in-Err-forward-clause-handed
returns-in-Err-forward-clause-handed g c = (
  c.forward.new.reader,
  noted g.C.Read.remaining g.C.Write.contents g.S.Read.remaining g.S.Write.contents _ _ _ _ _ _
      (c.answer_refusal.ensures.closing ∙ c.in-Err-forward.ensures.closes (still_open c.in-Ok.ensures.asked))
      (stops g.C.Read.remaining g.C.Write.contents g.S.Read.remaining g.S.Write.contents c.parts.ensures.same.1 (c.in-Ok.ensures.ok (Some []))
      (c.in-Err-forward.ensures.err (still_open c.in-Ok.ensures.asked))),
  c.answer_refusal.ensures.told,
)

pub returns-in-Ok-answer-clause-handed : goal.returns-in-Ok-answer-clause-handed
returns-in-Ok-answer-clause-handed g c = (
  c.answer.new.writer,
  noted g.C.Read.remaining g.C.Write.contents g.S.Read.remaining g.S.Write.contents _ _ _ _ _ _
      (c.in-Ok-answer.ensures.unclosed ∙ c.in-Ok-forward.ensures.unclosed ∙ c.in-Ok.ensures.unclosed
      ∙ (c.args.exchange.now.unclosed (still_open c.requires.asked.0)).0)
      (answers g.C.Read.remaining g.C.Write.contents g.S.Read.remaining g.S.Write.contents c.parts.ensures.same.1
      (asks g.C.Read.remaining g.C.Write.contents g.S.Read.remaining g.S.Write.contents c.parts.ensures.same.1 (c.in-Ok.ensures.ok (Some []))
      c.in-Ok-forward.ensures.ok) c.in-Ok-answer.ensures.ok),
  refl,
)

pub returns-in-Err-answer-clause-handed : goal.returns-in-Err-answer-clause-handed
returns-in-Err-answer-clause-handed g c = (
  c.answer.new.writer,
  noted g.C.Read.remaining g.C.Write.contents g.S.Read.remaining g.S.Write.contents _ _ _ _ _ _
      (c.in-Err-answer.ensures.closes (still_sent c.parts.result.0.now c.in-Ok-forward.ensures.forwarded))
      (breaks g.C.Read.remaining g.C.Write.contents g.S.Read.remaining g.S.Write.contents c.answer.new.self.begun c.parts.ensures.same.1
      (asks g.C.Read.remaining g.C.Write.contents g.S.Read.remaining g.S.Write.contents c.parts.ensures.same.1 (c.in-Ok.ensures.ok (Some []))
      c.in-Ok-forward.ensures.ok) (c.in-Err-answer.ensures.err (still_sent c.parts.result.0.now c.in-Ok-forward.ensures.forwarded))),
  refl,
)

pub returns-in-Err-2-clause-handed : goal.returns-in-Err-2-clause-handed
returns-in-Err-2-clause-handed g c = (
  c.answer.new.writer,
  noted g.C.Read.remaining g.C.Write.contents g.S.Read.remaining g.S.Write.contents _ _ _ _ _ _
      (c.answer_refusal-in-Err-2.ensures.closing ∙ c.in-Err-2.ensures.closes (still_sent c.parts.result.0.now c.in-Ok-forward.ensures.forwarded))
      (breaks g.C.Read.remaining g.C.Write.contents g.S.Read.remaining g.S.Write.contents c.answer.new.self.begun c.parts.ensures.same.1
      (asks g.C.Read.remaining g.C.Write.contents g.S.Read.remaining g.S.Write.contents c.parts.ensures.same.1 (c.in-Ok.ensures.ok (Some []))
      c.in-Ok-forward.ensures.ok) (c.in-Err-2.ensures.err (still_sent c.parts.result.0.now c.in-Ok-forward.ensures.forwarded))),
  c.answer_refusal-in-Err-2.ensures.told,
)
