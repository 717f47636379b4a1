use Rattle.std.proofs.Common.{rules}
use Rattle.http_bodies.specs.Steps.{LacksNothing}
use Rattle.relay_http.specs.Failures.{NoCause}
use Rattle.http_texts.specs.Replies.{leave_text}
use Rattle.relay_http.proofs.Thinning.{thin_write, thin_write_fault, thin_same}
use Rattle.relay_http.proofs.exchange.Exchange.go_on.Goals as goal

pub returns-clause-ok : goal.returns-clause-ok
returns-clause-ok g c =
    thin_write _ (leave_text c.args.view.now) _ _ _ _ _ _ (search rules)
    (search rules) c.args.self.now.drained c.go_on_to.new.self.drained c.go_on_to.ensures.ok

pub returns-clause-err : goal.returns-clause-err
returns-clause-err g c = λ open_still.
    thin_write_fault _ NoCause LacksNothing (leave_text c.args.view.now) _ _ _ _ _ _ (search rules) (search rules) c.args.self.now.drained
    (c.go_on_to.ensures.err open_still)

pub returns-clause-untouched : goal.returns-clause-untouched
returns-clause-untouched g c = λ failed. (
  (c.go_on_to.ensures.untouched failed).0,
  thin_same _ _ _ _ (search rules) (search rules) (c.go_on_to.ensures.untouched failed).1,
)
