use Rattle.std.proofs.Common.{rules, arith}
use Rattle.std.proofs.lemmas.Result.{IfErr-weaker}
use Rattle.http_texts.specs.Messages.{PartOfAnswered, LacksAnswer}
use Rattle.http_texts.specs.Texts.{framed_for}
use Rattle.std.proofs.lemmas.Grind.{common_steps}
use Rattle.relay_http.specs.Calls.{HandsAnswer}
use Rattle.relay_http.specs.Wants.{WantsAnswer}
use Rattle.relay_http.proofs.Thinning.{thin_answer, thin_both_fault, thin_same}
use Rattle.http_texts.specs.declared.persistence.Persistence.TheVariants.{Close}
use Rattle.relay_http.proofs.exchange.Exchange.answer.Goals as goal

pub returns-clause-ok : goal.returns-clause-ok
returns-clause-ok g c =
    thin_answer _ c.args.view.now.method (framed_for c.args.view.now.version) _ _ _ _ _ _ (search rules) (search rules) (search rules)
    (search rules) c.args.self.now.drained
    c.answer_between.new.self.drained c.answer_between.ensures.ok

pub returns-clause-err : goal.returns-clause-err
returns-clause-err g c = λ open_still.
    thin_both_fault _ (PartOfAnswered Close c.args.view.now.method (framed_for c.args.view.now.version)) (λ x y part. HandsAnswer part) (LacksAnswer c.args.view.now.method)
    (WantsAnswer c.args.view.now.method) _ _ _ _ _ _
    (search rules) (search rules) (search rules) (search rules)
    c.args.self.now.drained (IfErr-weaker c.answer_between.result _ _ (λ fault part. (part.0, part.1, part.2, part.3, part.5)) (c.answer_between.ensures.err open_still))

pub returns-clause-untouched : goal.returns-clause-untouched
returns-clause-untouched g c = λ failed. (
  (c.answer_between.ensures.untouched failed).0,
  thin_same _ _ _ _ (search rules) (search rules) (c.answer_between.ensures.untouched failed).1,
  thin_same _ _ _ _ (search rules) (search rules) (c.answer_between.ensures.untouched failed).2,
)

pub answer_between-requires-clause-ready : goal.answer_between-requires-clause-ready
answer_between-requires-clause-ready g c = grind (arith, common_steps)

pub returns-clause-closed : goal.returns-clause-closed
returns-clause-closed g c = grind (arith, common_steps)
