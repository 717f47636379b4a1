use Rattle.std.proofs.Common.{◌∙◌, Ok, sym, ap}
use Rattle.proxy_config.specs.Conditions.{acl_index}
use Rattle.proxy_config.proofs.AclLists.{with_test-at, with_test-new}
use Rattle.proxy_config.proofs.rules.add_test.Goals as goal

pub returns-in_ok-push-in-Some : goal.returns-in_ok-push-in-Some
returns-in_ok-push-in-Some c =
    rw (c.in_ok-push-in-Some.ensures.ok, ← c.acls.view_is)
    (ap Ok (with_test-at c.args.name.now c.args.test c.acls.inside.items.items c.in-Some.i c.index_mut.result.now
    (ap (acl_index c.args.name.now) c.acls.view_is ∙ sym c.in-Some.ensures) c.index_mut.ensures.value))

pub returns-in_ok-push-in-None : goal.returns-in_ok-push-in-None
returns-in_ok-push-in-None c =
    rw (c.in_ok-push-in-None.ensures.ok, c.in_ok-acl-in-None.ensures)
    (ap Ok (with_test-new c.args.name.now c.args.test c.args.acls.now (sym c.in-None.ensures)))
