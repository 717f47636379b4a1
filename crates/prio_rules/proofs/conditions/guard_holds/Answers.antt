use Rattle.std.proofs.Common.{tests, rules}
use Rattle.prio_rules.proofs.conditions.guard_holds.Goals as goal

pub returns-in-Unless : goal.returns-in-Unless
returns-in-Unless c = search (tests, rules)
