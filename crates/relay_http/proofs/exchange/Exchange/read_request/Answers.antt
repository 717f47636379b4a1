use Rattle.std.proofs.Common.{rules}
use Rattle.http_texts.specs.Heads.{LacksRequest}
use Rattle.relay_http.proofs.Keeping.{kept_as}
use Rattle.relay_http.proofs.Thinning.{thin_read, thin_read_fault, thin_same}
use Rattle.req_view.specs.Heads.{HasNoHead}
use Rattle.relay_http.proofs.exchange.Exchange.read_request.Goals as goal

pub returns-clause-ok : goal.returns-clause-ok
returns-clause-ok g c =
    thin_read _ _ _ _ _ _ _ (search rules) (search rules) c.args.self.now.drained c.read_request_from.new.self.drained c.read_request_from.ensures.ok

pub returns-clause-err : goal.returns-clause-err
returns-clause-err g c = λ open_still.
    thin_read_fault _ LacksRequest HasNoHead _ _ _ _ _ _ (search rules) (search rules) c.args.self.now.drained (c.read_request_from.ensures.err open_still)

pub returns-clause-untouched : goal.returns-clause-untouched
returns-clause-untouched g c = λ failed. (
  (c.read_request_from.ensures.untouched failed).0,
  thin_same _ _ _ _ (search rules) (search rules) (c.read_request_from.ensures.untouched failed).1,
)

pub returns-clause-kept : goal.returns-clause-kept
returns-clause-kept g c = kept_as _ _ _ _ _ _ _ (search rules) (search rules) c.read_request_from.ensures.kept
