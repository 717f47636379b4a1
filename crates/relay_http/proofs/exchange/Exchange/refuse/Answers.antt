use Rattle.std.proofs.Common.{rules}
use Rattle.http_texts.specs.Replies.{refusal_text}
use Rattle.relay_http.proofs.Thinning.{thin_wrote, thin_prefix, keeps_as}
use Rattle.relay_http.proofs.exchange.Exchange.refuse.Goals as goal

pub returns-clause-ok : goal.returns-clause-ok
returns-clause-ok g c = thin_wrote _ _ _ _ _ (refusal_text c.args.code) (search rules) (search rules) c.refuse_to.ensures.ok

pub returns-clause-err : goal.returns-clause-err
returns-clause-err g c = λ unasked. thin_prefix _ _ _ _ _ (refusal_text c.args.code) (search rules) (search rules) (c.refuse_to.ensures.err unasked)

pub returns-clause-silent : goal.returns-clause-silent
returns-clause-silent g c = λ no. keeps_as (search rules) (search rules) (c.refuse_to.ensures.marks.unset no)
