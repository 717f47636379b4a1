use Rattle.std.proofs.Common.{◌≡◌, ◌<◌, None, Some, [], length, slice_get, slice_index_or, vec_capacity, ℕ}
use Rattle.log_entries.specs.declared.setup.ServerSet.{ServerSet}
use Rattle.dispatch_core.specs.Checks.{IsHealthBy}
use Rattle.dispatch_core.proofs.healths.Healths.new.Given as goal

-- the healths of the servers so far
abbrev pub invariant-loop-server : goal.invariant-loop-server
invariant-loop-server l = record {
  many : length l.list.items ≡ l.server-index;
  room : vec_capacity l.list ≡ length l.servers;
  each : (server : ℕ) (it : ServerSet) → server < l.server-index → slice_get l.servers server ≡ Some it
      → IsHealthBy it.rise_fall [] (slice_index_or l.list.items server None);
}
