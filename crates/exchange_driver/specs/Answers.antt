-- The answers of reads and writes.
use Rattle.std.specs.Prelude.{ℕ, Bool, true, false, ◌&&◌, not, List, [], ◌∷◌, ◌++◌, Option, None, Some}
use Rattle.exchange_driver.specs.declared.socket.ReadResult.{ReadResult}
use Rattle.exchange_driver.specs.declared.socket.ReadResult.TheVariants.{Bytes, Nothing}
use Rattle.exchange_driver.specs.declared.socket.WriteResult.{WriteResult}
use Rattle.exchange_driver.specs.declared.socket.WriteResult.TheVariants as said

-- the number of bytes that a read returned
abbrev pub came : ReadResult → ℕ
came (Bytes count) = count
came _ = 0

abbrev pub is_nothing : ReadResult → Bool
is_nothing Nothing = true
is_nothing _ = false

-- the number of bytes that a write took
abbrev pub went : WriteResult → ℕ
went (said.Bytes count) = count
went _ = 0

abbrev pub is_full : WriteResult → Bool
is_full said.Full = true
is_full _ = false

-- the last answer still stands, since nothing was reported since
abbrev pub is_still : Bool → Bool → Bool
is_still answered told = answered && not told

-- an answer of a socket, to a read or to a write
pub data SocketAnswer : Type 0 where
  Heard : ReadResult → SocketAnswer
  Said : WriteResult → SocketAnswer

-- the answers of a socket with these behind them; one that remembers none says nothing
abbrev pub with_answers : List SocketAnswer → Option (List SocketAnswer) → Option (List SocketAnswer)
with_answers answers None = None
with_answers answers (Some before) = Some (before ++ answers)

-- nothing was there, as the last of these answers to a read says; as before where none is one to a read
abbrev pub dry_after : List SocketAnswer → Bool → Bool
dry_after [] before = before
dry_after (Heard result ∷ answers) before = dry_after answers (is_nothing result)
dry_after (Said result ∷ answers) before = dry_after answers before

-- it was full, as the last of these answers to a write says; as before where none is one to a write
abbrev pub full_after : List SocketAnswer → Bool → Bool
full_after [] before = before
full_after (Heard result ∷ answers) before = full_after answers before
full_after (Said result ∷ answers) before = full_after answers (is_full result)
