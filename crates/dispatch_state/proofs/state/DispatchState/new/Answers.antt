use Rattle.std.proofs.Common.{◌-◌, ◌∙◌, [], ap}
use Rattle.dispatch_state.proofs.Beginning.{new_is}
use Rattle.dispatch_state.proofs.state.DispatchState.new.Goals as goal

pub invariant_of-result : goal.invariant_of-result
invariant_of-result g c =
    new_is _ c.args.setup _ c.len-servers.result c.requires c.len-servers.ensures c.in_ok-ledger.ensures (c.in_ok-log.ensures
    ∙ ap (λ b. record { base = b; entries = []; room = c.args.setup.log }) c.in_ok-base.ensures) c.in_ok-waiting.ensures.nobody
    (ap (λ n. record { cursor = n; last = c.zero.result; ticket = 0 }) c.new-3.ensures
    ∙ ap (λ n. record { cursor = c.len-servers.result - 1; last = n; ticket = 0 }) c.zero.ensures)
