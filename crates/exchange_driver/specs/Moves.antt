-- What is told to an exchange while it is driven.
use Rattle.std.specs.Prelude.{◌≡◌, ◌≢◌, ◌≤◌, ◌<◌, ◌*◌, ◌⊎◌, ℕ, Bool, true, false, List, [], ◌∷◌, length, Option}
use Rattle.exchange_driver.specs.Answers.{SocketAnswer, Heard, Said, with_answers}
use Rattle.exchange_driver.specs.declared.driving.Rest.{Rest}
use Rattle.exchange_driver.specs.declared.driving.Rest.TheVariants.{Again}
use Rattle.exchange_driver.specs.declared.socket.ReadResult.TheVariants as reads
use Rattle.exchange_driver.specs.declared.socket.WriteResult.TheVariants as writes
use Rattle.exchange_events.specs.Answers.{HasHeardEnd, HasServed, RelayHears, HearsClient, HearsServer, IsCutOff, IsHalfClosed, LosesClient, TellsClient}
use Rattle.exchange_events.specs.Steps.{reads_client, reads_server, to_client, writes_server}
use Rattle.exchange_events.specs.declared.exchange.Exchange.{Exchange}
use Rattle.exchange_events.specs.declared.exchange.Outcome.{Outcome}
use Rattle.exchange_events.specs.declared.exchange.Outcome.TheVariants.{Quiet}

-- a socket answered, of the client or of the server; or bytes that waited were looked at; or there
-- was no memory to read more
pub data Move : Type 0 where
  OfClient : SocketAnswer → Move
  OfServer : SocketAnswer → Move
  ClientWaited : Move
  ServerWaited : Move
  ClientLacksMemory : Move
  ServerLacksMemory : Move

-- The exchange wants this move: it takes more bytes of the side that is read, or whose waiting bytes
-- are looked at; or it has bytes for the client; or it has some for a server that takes them.
abbrev pub IsWanted : Exchange → Move → Type 0
IsWanted x (OfClient (Heard result)) = reads_client x ≡ true
IsWanted x (OfClient (Said result)) = to_client x ≢ []
IsWanted x (OfServer (Heard result)) = reads_server x ≡ true
IsWanted x (OfServer (Said result)) = writes_server x ≡ true
IsWanted x ClientWaited = reads_client x ≡ true
IsWanted x ServerWaited = reads_server x ≡ true
IsWanted x ClientLacksMemory = reads_client x ≡ true
IsWanted x ServerLacksMemory = reads_server x ≡ true

-- What a move makes of an exchange: where nothing is there, or a socket is full, nothing. Else bytes
-- came, as many as the socket said, or some waited, or some were taken; a side came to its end, without an error or with one; or it takes no more.
abbrev pub Makes : Bool → Exchange → Move → Outcome → Exchange → Type 0
Makes aborts x (OfClient (Heard (reads.Bytes count))) outcome y = (input : List ℕ) × (length input ≡ count) × (used : ℕ) × HearsClient input x used outcome y
Makes aborts x (OfClient (Heard reads.Nothing)) outcome y = (y ≡ x) × (outcome ≡ Quiet)
Makes aborts x (OfClient (Heard (reads.Ended true))) outcome y = (used : ℕ) × IsHalfClosed aborts x used outcome y
Makes aborts x (OfClient (Heard (reads.Ended false))) outcome y = LosesClient x outcome y
Makes aborts x (OfClient (Said (writes.Bytes count))) outcome y = (used : ℕ) × TellsClient count x used outcome y
Makes aborts x (OfClient (Said writes.Full)) outcome y = (y ≡ x) × (outcome ≡ Quiet)
Makes aborts x (OfClient (Said writes.Failed)) outcome y = LosesClient x outcome y
Makes aborts x (OfServer (Heard (reads.Bytes count))) outcome y = (input : List ℕ) × (length input ≡ count) × (used : ℕ) × HearsServer input x used outcome y
Makes aborts x (OfServer (Heard reads.Nothing)) outcome y = (y ≡ x) × (outcome ≡ Quiet)
Makes aborts x (OfServer (Heard (reads.Ended well))) outcome y = (used : ℕ) × RelayHears (HasHeardEnd well) x used outcome y
Makes aborts x (OfServer (Said (writes.Bytes count))) outcome y = (used : ℕ) × RelayHears (HasServed count) x used outcome y
Makes aborts x (OfServer (Said writes.Full)) outcome y = (y ≡ x) × (outcome ≡ Quiet)
Makes aborts x (OfServer (Said writes.Failed)) outcome y = (used : ℕ) × RelayHears IsCutOff x used outcome y
Makes aborts x ClientWaited outcome y = (input : List ℕ) × (0 < length input) × (used : ℕ) × HearsClient input x used outcome y
Makes aborts x ServerWaited outcome y = (input : List ℕ) × (0 < length input) × (used : ℕ) × HearsServer input x used outcome y
Makes aborts x ClientLacksMemory outcome y = LosesClient x outcome y
Makes aborts x ServerLacksMemory outcome y = (used : ℕ) × RelayHears (HasHeardEnd false) x used outcome y

-- these moves, one after the other, each of which was wanted; only the last one gave something away
abbrev pub MakeAll : Bool → Exchange → List Move → Outcome → Exchange → Type 0
MakeAll aborts x [] outcome y = (y ≡ x) × (outcome ≡ Quiet)
MakeAll aborts x (move ∷ moves) outcome y =
    (next : Exchange) × (given : Outcome) × IsWanted x move × Makes aborts x move given next
    × (((given ≡ Quiet) × MakeAll aborts next moves outcome y) ⊎ ((moves ≡ []) × (outcome ≡ given) × (y ≡ next)))

-- the answers of the client's socket among them, and of the server's
abbrev pub told_by_client : List Move → List SocketAnswer
told_by_client [] = []
told_by_client (OfClient answer ∷ moves) = answer ∷ told_by_client moves
told_by_client (OfServer answer ∷ moves) = told_by_client moves
told_by_client (ClientWaited ∷ moves) = told_by_client moves
told_by_client (ServerWaited ∷ moves) = told_by_client moves
told_by_client (ClientLacksMemory ∷ moves) = told_by_client moves
told_by_client (ServerLacksMemory ∷ moves) = told_by_client moves

abbrev pub told_by_server : List Move → List SocketAnswer
told_by_server [] = []
told_by_server (OfClient answer ∷ moves) = told_by_server moves
told_by_server (OfServer answer ∷ moves) = answer ∷ told_by_server moves
told_by_server (ClientWaited ∷ moves) = told_by_server moves
told_by_server (ServerWaited ∷ moves) = told_by_server moves
told_by_server (ClientLacksMemory ∷ moves) = told_by_server moves
told_by_server (ServerLacksMemory ∷ moves) = told_by_server moves

-- By this number of moves an exchange was told just what its two sockets answered, in the order in
-- which they did, and gave this away. (The answers of both sockets, before and behind, where they
-- remember them.)
pub record IsDriven (count : ℕ) (aborts : Bool) (client client_then server server_then : Option (List SocketAnswer)) (x : Exchange) (outcome : Outcome) (next : Exchange) : Type 0 where
  pub moves : List Move
  pub number : length moves ≡ count
  pub make : MakeAll aborts x moves outcome next
  pub client_is : client_then ≡ with_answers (told_by_client moves) client
  pub server_is : server_then ≡ with_answers (told_by_server moves) server

-- A turn makes at most two moves. Where there is more to do at once, each turn made a move, or
-- something was given away; and where something was, there is.
pub record KeepsTurns (turns count : ℕ) (rest : Rest) (outcome : Outcome) : Type 0 where
  pub most : count ≤ 2 * turns
  pub spent : rest ≡ Again → outcome ≡ Quiet → turns ≤ count
  pub gave : outcome ≢ Quiet → rest ≡ Again
