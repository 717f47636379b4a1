use Rattle.std.proofs.Common.{◌≡◌, map, take}
use Rattle.config_setup.specs.Setups.{set_of}
use Rattle.config_setup.proofs.setup.servers_of.Given as goal

-- the servers so far
abbrev pub invariant-loop-server : goal.invariant-loop-server
invariant-loop-server l = l.sets.items ≡ map set_of (take l.server-index l.servers)
