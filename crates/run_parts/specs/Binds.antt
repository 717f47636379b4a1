-- Where a proxy listens.
use Rattle.std.specs.Prelude.{ℕ, ◌≡◌, List, [], ◌∷◌, Option, None, Some}
use Rattle.std.specs.Net.Addr.{ipv4_octets}
use Rattle.std.specs.Net.Socket.{v4_ip, v4_port}
use Rattle.std.specs.declared.net.socket_addr.SocketAddrV4.{SocketAddrV4}
use Rattle.proxy_config.specs.declared.parts.Bind.{Bind}

-- the octets of an address; where none is given, of all addresses of the machine
abbrev pub octets_at : Option (List ℕ) → List ℕ
octets_at None = 0 ∷ 0 ∷ 0 ∷ 0 ∷ []
octets_at (Some octets) = octets

-- the address at which a configuration lets a proxy listen
abbrev pub ListensAt : Bind → SocketAddrV4 → Type 0
ListensAt bind address = (ipv4_octets (v4_ip address) ≡ octets_at bind.ip) × (v4_port address ≡ bind.port)
