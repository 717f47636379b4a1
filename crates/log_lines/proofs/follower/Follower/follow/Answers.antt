use Rattle.std.proofs.lemmas.Result.{on_ok_weaker}
use Rattle.log_lines.proofs.Steps.{of_step}
use Rattle.log_lines.proofs.follower.Follower.follow.Goals as goal

pub returns-clause-log : goal.returns-clause-log
returns-clause-log c = on_ok_weaker c.go_on.result (λ follows log is. of_step log c.args.self.now c.args.entry c.go_on.new.self follows is) c.go_on.ensures
