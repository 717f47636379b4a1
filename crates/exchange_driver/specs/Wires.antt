-- One side of an exchange: a socket, and the bytes from it that wait to be taken.
use Rattle.std.specs.Prelude.{◌≡◌, ◌<◌, ◌⊎◌, ℕ, Bool, true, false, List, [], ◌∷◌, ◌++◌, length, Option, Some, None}
use Rattle.std.specs.Io.KnownBytes.{Consumes, Appends}
use Rattle.exchange_driver.specs.Answers.{SocketAnswer, Heard, is_nothing, is_still, with_answers, dry_after, full_after}
use Rattle.exchange_driver.specs.declared.socket.ReadResult.{ReadResult}
use Rattle.exchange_driver.specs.declared.socket.ReadResult.TheVariants.{Ended}

-- Whether there is a socket; the bytes that it has left to give and those that it took, where they
-- are known; the bytes that wait, and the most that can; whether nothing was there at the last
-- read, and whether it was full at the last write; and the answers that the socket gave, where it
-- remembers them.
pub record Wire : Type 0 where
  pub there : Bool
  pub left : Option (List ℕ)
  pub taken : Option (List ℕ)
  pub waits : List ℕ
  pub room : ℕ
  pub dry : Bool
  pub full : Bool
  pub answers : Option (List SocketAnswer)

-- what is known of a socket, where there is one
abbrev pub known_of : {S A : Type 0} → (S → Option A) → Option S → Option A
known_of known None = None
known_of known (Some socket) = known socket

-- without a socket nothing is there and nothing is taken
abbrev pub told_of : {S : Type 0} → (S → Bool) → Option S → Bool
told_of told None = true
told_of told (Some socket) = told socket

-- there is a socket
abbrev pub is_there : {S : Type 0} → Option S → Bool
is_there None = false
is_there (Some socket) = true

-- the last answer stands where nothing was reported since; without a socket always
abbrev pub is_still_at : Bool → Bool → Bool → Bool
is_still_at false answered told = answered
is_still_at true answered told = is_still answered told

-- The bytes that the socket gave have come, or wait to be taken; the bytes that it took are those
-- that were sent; and bytes moved exactly where these aren't empty. Without a socket none appears,
-- nothing moves, and nothing more waits.
pub record Carries (old new : Wire) (came_old came_new sent_old sent_new : List ℕ) (moved : Bool) : Type 0 where
  pub gave : List ℕ
  pub gone : Consumes old.left new.left gave
  pub came : came_new ++ new.waits ≡ (came_old ++ old.waits) ++ gave
  pub took : List ℕ
  pub added : Appends old.taken new.taken took
  pub sent : sent_new ≡ sent_old ++ took
  pub some : moved ≡ true → 0 < length (gave ++ took)
  pub none : 0 < length (gave ++ took) → moved ≡ true
  pub same : new.there ≡ old.there
  pub idle : old.there ≡ false → moved ≡ false
  pub still : old.there ≡ false → old.waits ≡ [] → new.waits ≡ []

-- Its socket gave this answer to a read, which says whether nothing is there. Or there was no memory
-- to read, which counts as a failure, and the socket wasn't asked.
abbrev pub HasHeard : ReadResult → Wire → Wire → Type 0
HasHeard result old new = ((new.answers ≡ with_answers (Heard result ∷ []) old.answers) × (new.dry ≡ is_nothing result))
    ⊎ ((new.answers ≡ old.answers) × (new.dry ≡ old.dry) × (result ≡ Ended false))

-- A line stands as its socket's answers left it: nothing was there at the last read, and it was full
-- at the last write, just as the last of them say. So nothing woke it behind them.
pub record IsAsAnswered (old new : Wire) : Type 0 where
  pub answers : List SocketAnswer
  pub gave : new.answers ≡ with_answers answers old.answers
  pub dry : new.dry ≡ dry_after answers old.dry
  pub full : new.full ≡ full_after answers old.full
