-- What a gate of sockets notes, and what is known of its sockets' bytes: nothing.
use Rattle.std.specs.Prelude.{ℕ, List, Option, None}
use Rattle.std.specs.declared.net.tcp.TcpStream.{TcpStream}
use Rattle.relay_workers.specs.Gates.{Notice}

-- the notes of a gate that notes nothing
abbrev pub no_notes : Option (List (Notice TcpStream TcpStream))
no_notes = None

-- the bytes of a socket, which nobody knows
abbrev pub no_bytes : TcpStream → Option (List ℕ)
no_bytes stream = None
