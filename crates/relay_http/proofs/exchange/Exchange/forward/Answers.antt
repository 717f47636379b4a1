-- The streams count from 0 on.
use Rattle.std.proofs.Common.{arith, rules}
use Rattle.std.proofs.lemmas.Result.{IfErr-weaker}
use Rattle.http_texts.specs.Messages.{PartOfForwarded, LacksForwarded}
use Rattle.http_texts.specs.Texts.{unnamed}
use Rattle.relay_http.specs.Calls.{HandsRequest}
use Rattle.relay_http.specs.Wants.{WantsBody}
use Rattle.relay_http.proofs.Thinning.{thin_both_fault, thin_same}
use Rattle.http_texts.specs.declared.persistence.Persistence.TheVariants.{Close}
use Rattle.relay_http.proofs.exchange.Exchange.forward.Goals as goal

pub forward_between-requires-clause-countable : goal.forward_between-requires-clause-countable
forward_between-requires-clause-countable g c = record {
  reads = omega (arith, c.new-source.ensures.calls, c.turns-turns.ensures);
  writes = omega (arith, c.new-sink.ensures.calls, c.turns-turns.ensures);
}

pub returns-clause-err : goal.returns-clause-err
returns-clause-err g c = λ open_still.
    thin_both_fault _ (PartOfForwarded (unnamed Close) c.args.view.now) (λ x y part. HandsRequest part) (LacksForwarded c.args.view.now) (WantsBody c.args.view.now) _ _ _ _ _ _ (search rules) (search rules) (search rules)
    (search rules)
    c.args.self.now.drained (IfErr-weaker c.forward_between.result _ _ (λ fault part. (part.0, part.1, part.2, part.3, part.5)) (c.forward_between.ensures.err open_still))

pub returns-clause-untouched : goal.returns-clause-untouched
returns-clause-untouched g c = λ failed. (
  (c.forward_between.ensures.untouched failed).0,
  thin_same _ _ _ _ (search rules) (search rules) (c.forward_between.ensures.untouched failed).1,
  thin_same _ _ _ _ (search rules) (search rules) (c.forward_between.ensures.untouched failed).2,
)

pub returns-clause-unread : goal.returns-clause-unread
returns-clause-unread g c = λ whole. thin_same _ _ _ _ (search rules) (search rules) (c.forward_between.ensures.unread whole)
