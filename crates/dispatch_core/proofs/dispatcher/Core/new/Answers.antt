use Rattle.std.proofs.Common.{List, [], length, replicate, subst}
use Rattle.log_entries.specs.declared.setup.ServerSet.{ServerSet}
use Rattle.dispatch_core.specs.Checks.{AreHealths}
use Rattle.dispatch_core.proofs.Checking.{core_new}
use Rattle.dispatch_core.proofs.dispatcher.Core.new.Goals as goal

pub invariant_of-result : goal.invariant_of-result
invariant_of-result g c =
    core_new c.in_ok-new.field-0 c.args.setup c.in_ok-healths.healths _ c.in_ok-spare.spare c.in_ok-new.ensures
    (subst (λ (l : List ServerSet). AreHealths l (replicate (length l) []) c.in_ok-healths.healths) c.as_slice.ensures c.in_ok-healths.ensures)
    c.in_ok-expiring.ensures.empty c.in_ok-expiring.ensures.room c.in_ok-spare.ensures
