use Rattle.log_lines.proofs.Steps.{of_less}
use Rattle.log_lines.proofs.follower.Follower.take.Goals as goal

pub returns-clause-log : goal.returns-clause-log
returns-clause-log c = λ log is. of_less log c.args.self.now _ c.args.ticket c.remove.ensures.same.0 c.remove.ensures.others is
