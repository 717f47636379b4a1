use Rattle.std.proofs.Common.{◌≡◌, map, take}
use Rattle.run_gate.specs.Names.{name_sought, name_to_find}
use Rattle.run_gate.proofs.addresses.Addresses.new.Given as goal

-- the servers so far have their names
abbrev pub invariant-loop-server : goal.invariant-loop-server
invariant-loop-server l = map name_sought l.names.items ≡ map (λ server. name_to_find server.address) (take l.server-index l.servers)
