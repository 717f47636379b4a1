-- Addresses that a configuration gives in numbers.
use Rattle.std.specs.Prelude.{ℕ, ◌≡◌, List, Option, IsSomeAnd}
use Rattle.std.specs.declared.net.ipv4_addr.Ipv4Addr.{Ipv4Addr}
use Rattle.std.specs.declared.net.ip_addr.IpAddr.TheVariants.{V4}
use Rattle.std.specs.declared.net.socket_addr.SocketAddr.{SocketAddr}
use Rattle.std.specs.Net.Addr.{ipv4_octets}
use Rattle.std.specs.Net.Socket.{socket_ip, IsPlainSocket}
use Rattle.proxy_config.specs.declared.parts.Address.{Address}
use Rattle.proxy_config.specs.declared.parts.Host.TheVariants.{Ip}

-- the socket address of this IPv4 address and this port
abbrev pub IsSocketAddress : List ℕ → ℕ → SocketAddr → Type 0
IsSocketAddress octets port address = (ip : Ipv4Addr) × (ipv4_octets ip ≡ octets) × (socket_ip address ≡ V4 ip) × IsPlainSocket address port

-- an address in numbers is found as it is given
abbrev pub IsAddressOf : Address → Option SocketAddr → Type 0
IsAddressOf address found = (octets : List ℕ) → address.host ≡ Ip octets → IsSomeAnd found (IsSocketAddress octets address.port)
