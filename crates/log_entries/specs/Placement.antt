-- The placement of a request that has no phase yet.
use Rattle.std.specs.Prelude.{◌≡◌, ℕ, IsTrue, Option, None, Some, MatchOption}
use Rattle.log_entries.specs.declared.queue.Queue.{Queue}
use Rattle.log_entries.specs.declared.queue.Queue.TheVariants.{Backend, Server}
use Rattle.log_entries.specs.Picks.{IsPick}
use Rattle.log_entries.specs.Scenes.{Scene, is_usable, is_free, has_room, working_pin}

-- no other server than this one has room
abbrev pub NoOtherHasRoom : Scene → ℕ → Type 0
NoOtherHasRoom scene server = (other : ℕ) → IsTrue (has_room scene other) → other ≡ server

-- a server that balancing may choose: a usable one with room, and the avoided one only where no other has room
abbrev pub IsCandidate : Scene → Option ℕ → ℕ → Type 0
IsCandidate scene avoid server = IsTrue (has_room scene server) × (avoid ≡ Some server → NoOtherHasRoom scene server)

-- the server that a request is put on: its pin's where that one takes the request, else the pick of the candidates
abbrev pub IsChosen : Scene → ℕ → Option ℕ → Option ℕ → ℕ → Type 0
IsChosen scene cursor pin avoid server =
    MatchOption (working_pin scene pin) (IsPick scene cursor (IsCandidate scene avoid) server) (λ own. own ≡ server)

-- the request takes a slot of that server where one is free
abbrev pub IsDirect : Scene → ℕ → Option ℕ → Option ℕ → ℕ → Type 0
IsDirect scene cursor pin avoid server = IsChosen scene cursor pin avoid server × IsTrue (is_free scene server)

-- else it joins that server's queue; where its pin doesn't work, some server is usable and none has
-- room, it joins the backend's queue
abbrev pub IsJoining : Scene → ℕ → Option ℕ → Option ℕ → Queue → Type 0
IsJoining scene cursor pin avoid (Server server) = IsChosen scene cursor pin avoid server × (IsTrue (is_free scene server) → ⊥)
IsJoining scene cursor pin avoid Backend =
    (working_pin scene pin ≡ None)
    × ((server : ℕ) × IsTrue (is_usable scene server))
    × ((server : ℕ) → IsTrue (has_room scene server) → ⊥)

-- where its pin doesn't work and no server is usable, the request is told so
abbrev pub IsTurnedAway : Scene → Option ℕ → Type 0
IsTurnedAway scene pin = (working_pin scene pin ≡ None) × ((server : ℕ) → IsTrue (is_usable scene server) → ⊥)
