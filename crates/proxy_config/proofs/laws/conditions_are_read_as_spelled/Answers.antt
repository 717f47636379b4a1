use Rattle.proxy_config.proofs.ConditionWords.{condition-found, condition-again}
use Rattle.proxy_config.proofs.laws.conditions_are_read_as_spelled.Goals as goal

pub returns-clause-found : goal.returns-clause-found
returns-clause-found c = condition-found

pub returns-clause-only : goal.returns-clause-only
returns-clause-only c = condition-again
