-- The servers that balancing looks at, and its order of preference.
use Rattle.std.specs.Prelude.{◌≢◌, ℕ, IsTrue, ◌*◌, nat_lt, ◌==◌, ◌&&◌, ◌||◌, Bool, true, Option, None, Some, if◌then◌else◌}
use Rattle.log_entries.specs.Picks.{weight_of, load, steps_after}
use Rattle.log_entries.specs.Scenes.{Scene, has_room}

-- a usable server with room that isn't the one to avoid
abbrev pub HasRoomBut : Scene → Option ℕ → ℕ → Type 0
HasRoomBut scene avoid server = IsTrue (has_room scene server) × (avoid ≢ Some server)

-- a server goes before another: it is less loaded, or equally loaded and nearer after the cursor
abbrev pub goes_before : Scene → ℕ → ℕ → ℕ → Bool
goes_before scene cursor server other =
    nat_lt (load scene server * weight_of scene other) (load scene other * weight_of scene server)
    || ((load scene server * weight_of scene other == load scene other * weight_of scene server)
    && nat_lt (steps_after scene cursor server) (steps_after scene cursor other))

-- a server goes before the best so far
abbrev pub beats : Scene → ℕ → ℕ → Option ℕ → Bool
beats scene cursor server None = true
beats scene cursor server (Some best) = goes_before scene cursor server best

-- the best so far, or the next server where it is in the set and goes before
abbrev pub better_of : Scene → ℕ → Option ℕ → Bool → ℕ → Option ℕ
better_of scene cursor best own server = if own && beats scene cursor server best then Some server else best
