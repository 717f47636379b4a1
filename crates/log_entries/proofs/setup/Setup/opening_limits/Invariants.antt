use Rattle.std.proofs.Common.{◌≡◌, length, take, vec_capacity}
use Rattle.log_entries.specs.States.{opening_limits}
use Rattle.log_entries.proofs.setup.Setup.opening_limits.Given as goal

-- those of the servers so far
abbrev pub invariant-loop-server : goal.invariant-loop-server
invariant-loop-server l = record {
  many : length l.limits.items ≡ l.server-index;
  room : vec_capacity l.limits ≡ length l.servers;
  made : l.limits.items ≡ opening_limits (take l.server-index l.servers);
}
