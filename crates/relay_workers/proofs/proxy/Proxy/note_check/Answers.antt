use Rattle.relay_workers.proofs.Retold.{answered}
use Rattle.shared_desk.specs.Answers.{AnswersCheck}
use Rattle.relay_workers.proofs.proxy.Proxy.note_check.Goals as goal

pub returns : goal.returns
returns g c =
    answered g.N.BoardName.terms g.N.DeskName.setup (AnswersCheck g.N.BoardName.terms g.N.DeskName.setup c.args.server c.args.ok) c.moment-moment.result c.retry_in_new_window.result
    (g.G.Gate.notes c.args.gate.now) (g.G.Gate.notes c.moment-moment.new.self) (g.G.Gate.notes c.retry_in_new_window.new.gate) c.moment-moment.ensures.told
    c.retry_in_new_window.ensures
