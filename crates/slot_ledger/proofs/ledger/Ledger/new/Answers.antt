use Rattle.std.proofs.Common.{true, ap, length, ◌∙◌}
use Rattle.std.proofs.Math.ListN.{length-replicate}
use Rattle.slot_ledger.proofs.Counting.{ledger_new}
use Rattle.log_entries.proofs.Limiting.{opening_limits-length}
use Rattle.slot_ledger.proofs.ledger.Ledger.new.Goals as goal

pub invariant_of-result : goal.invariant_of-result
invariant_of-result g c = record {
  ledger = ledger_new c.args.setup c.len.result _ _ c.requires c.in_ok-places.ensures c.in_ok-counts.ensures c.len.ensures;
  each = ap length c.in_ok-ups.ensures.ups ∙ length-replicate (length c.args.setup.servers) true;
  limited = ap length c.in_ok-ups.ensures.limits ∙ opening_limits-length c.args.setup.servers;
}
