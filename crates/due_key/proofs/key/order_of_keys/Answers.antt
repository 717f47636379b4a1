use Rattle.due_key.proofs.KeyOrder.{key_cmp_total, key_cmp_exact}
use Rattle.due_key.proofs.key.order_of_keys.Goals as goal

pub returns-clause-total : goal.returns-clause-total
returns-clause-total c = key_cmp_total

pub returns-clause-exact : goal.returns-clause-exact
returns-clause-exact c = key_cmp_exact
