use Rattle.std.proofs.Common.{◌-◌, None, replicate, ap, ◌∙◌}
use Rattle.log_reading.proofs.Bases.{opened}
use Rattle.log_reading.proofs.base.Base.opening.Goals as goal

pub returns : goal.returns
returns c =
    opened c.args.setup.now c.in_ok-nothing.field-0.items c.in_ok-nothing-2.field-0.items c.in_ok-opening_limits.field-0.items c.zero.result
    c.saturating_sub.result
    c.in_ok-nothing.ensures (c.in_ok-nothing-2.ensures
    ∙ ap (λ n. replicate n None) c.len-servers.ensures) c.in_ok-opening_limits.ensures c.zero.ensures (c.saturating_sub.ensures
    ∙ ap (λ n. n - 1) c.len-servers.ensures)
