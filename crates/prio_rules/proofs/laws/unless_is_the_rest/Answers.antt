use Rattle.prio_rules.specs.Truth.{term_holds, condition_holds}
use Rattle.prio_rules.proofs.Orders.{list_any-all, not_true}
use Rattle.prio_rules.proofs.laws.unless_is_the_rest.Goals as goal

pub returns-clause-alternatives : goal.returns-clause-alternatives
returns-clause-alternatives c acls request condition = list_any-all (term_holds acls request) condition.alternatives

pub returns-clause-rest : goal.returns-clause-rest
returns-clause-rest c acls request condition = not_true (condition_holds acls request condition)
