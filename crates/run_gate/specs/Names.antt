-- The names of a configuration's servers.
use Rattle.std.specs.Prelude.{ℕ, ◌≡◌, List, Option, None, Some, map}
use Rattle.std.specs.Arc.{arc_value}
use Rattle.std.specs.Option.{option_map}
use Rattle.std.specs.declared.sync.Arc.{Arc}
use Rattle.proxy_config.specs.declared.parts.Address.{Address}
use Rattle.proxy_config.specs.declared.parts.Host.{Host}
use Rattle.proxy_config.specs.declared.parts.Host.TheVariants as hosts
use Rattle.proxy_config.specs.declared.parts.Config.{Config}
use Rattle.run_gate.specs.declared.addresses.Addresses.{Addresses}
use Rattle.run_gate.specs.declared.name.Name.{Name}

-- the name of a host, where it isn't given in numbers
abbrev pub name_in : Host → Option (List ℕ)
name_in (hosts.Ip octets) = None
name_in (hosts.Name text) = Some text

-- the name and the port of an address
abbrev pub name_to_find : Address → Option (List ℕ × ℕ)
name_to_find address = option_map (λ name. (name, address.port)) (name_in address.host)

-- the name and the port that are looked up
abbrev pub sought : Name → List ℕ × ℕ
sought name = (name.host.items, name.port)

-- the same of a server that may have none
abbrev pub name_sought : {A : Type 0} → Option (Arc Name A) → Option (List ℕ × ℕ)
name_sought name = option_map (λ it. sought (arc_value it)) name

-- the names that are looked up are those of the configuration's servers
abbrev pub LooksUpNames : Config → Addresses → Type 0
LooksUpNames config addresses = map name_sought addresses.names.items ≡ map (λ server. name_to_find server.address) config.servers
