use Rattle.std.proofs.Common.{List, ◌++◌, length}
use Rattle.late_cert.specs.declared.report.Report.{Report}
use Rattle.late_cert.specs.Groups.{AreGroups}
use Rattle.late_cert.proofs.making.reports_of.Given as goal

abbrev pub invariant-groups : goal.invariant-groups
invariant-groups l = (more : List Report) → AreGroups l.rest more → AreGroups l.grants (l.reports.items ++ more)

abbrev pub decreases-groups : goal.decreases-groups
decreases-groups l = length l.rest
