use Rattle.std.proofs.Common.{arith}
use Rattle.std.proofs.lemmas.Grind.{common_steps}
use Rattle.dispatch_reports.proofs.dispatcher.ReportingCore.make_room.Goals as goal

pub returns-in_err-reports-clause-err : goal.returns-in_err-reports-clause-err
returns-in_err-reports-clause-err g c = grind (arith, common_steps)

pub returns-in_err-servers-clause-err : goal.returns-in_err-servers-clause-err
returns-in_err-servers-clause-err g c = grind (arith, common_steps)

pub returns-clause-some : goal.returns-clause-some
returns-clause-some g c = grind (arith, common_steps)
