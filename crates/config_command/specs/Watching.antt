-- The addresses at which a proxy may be asked for its state.
use Rattle.std.specs.Prelude.{◌≡◌, ℕ, Bool, false, List}
use Rattle.std.specs.declared.net.socket_addr.SocketAddr.{SocketAddr}
use Rattle.std.specs.Net.Addr.{MatchIp, IsLoopbackV4, IsLoopbackV6}
use Rattle.std.specs.Net.Socket.{socket_ip}
use Rattle.std.specs.Net.Grammar.{IsSocketText}
use Rattle.config_command.specs.declared.watching.AdminFault.{AdminFault}
use Rattle.config_command.specs.declared.watching.AdminFault.TheVariants.{NoAddress, Reached}

-- an address that no other machine reaches
abbrev pub IsOfMachine : SocketAddr → Type 0
IsOfMachine address = MatchIp (socket_ip address) IsLoopbackV4 IsLoopbackV6

-- why a word is refused: it is no address, or other machines may reach it and weren't allowed to
abbrev pub Excuses : List ℕ → Bool → AdminFault → Type 0
Excuses word is_open NoAddress = (address : SocketAddr) → IsSocketText word address → ⊥
Excuses word is_open Reached = (is_open ≡ false) × ((address : SocketAddr) × IsSocketText word address × (IsOfMachine address → ⊥))
