use Rattle.std.proofs.Common.{◌≡◌, map, take}
use Rattle.config_setup.proofs.setup.configured_limits_of.Given as goal

-- those of the servers so far
abbrev pub invariant-loop-server : goal.invariant-loop-server
invariant-loop-server l = l.limits.items ≡ map (λ server. server.maxconn) (take l.server-index l.servers)
