-- The results of balancing.
use Rattle.std.specs.Prelude.{◌≡◌, ℕ, ◌<◌, ◌≤◌, Option, MatchOption, if◌then◌else◌}
use Rattle.log_entries.specs.declared.queue.Queue.TheVariants.{Server, Backend}
use Rattle.log_entries.specs.Placement.{IsDirect, IsJoining, IsTurnedAway}
use Rattle.log_entries.specs.Picks.{weight_of}
use Rattle.log_entries.specs.States.{cursor_after_placing}
use Rattle.log_entries.specs.Scenes.{Scene, is_free}
use Rattle.server_pick.specs.declared.placement.Placement.{Placement}
use Rattle.server_pick.specs.declared.placement.Placement.TheVariants.{Slot, OwnQueue, BackendQueue, Nowhere}

-- the placement of a request with a pin and a server to avoid
abbrev pub IsPlacement : Scene → ℕ → Option ℕ → Option ℕ → Placement → Type 0
IsPlacement scene cursor pin avoid (Slot server) = IsDirect scene cursor pin avoid server
IsPlacement scene cursor pin avoid (OwnQueue server) = IsJoining scene cursor pin avoid (Server server)
IsPlacement scene cursor pin avoid BackendQueue = IsJoining scene cursor pin avoid Backend
IsPlacement scene cursor pin avoid Nowhere = IsTurnedAway scene pin

-- the cursor after it: a server that was chosen by a pin doesn't move it
abbrev pub cursor_placed : Option ℕ → Placement → ℕ → ℕ
cursor_placed pin (Slot server) cursor = cursor_after_placing server pin cursor
cursor_placed pin (OwnQueue server) cursor = cursor_after_placing server pin cursor
cursor_placed pin BackendQueue cursor = cursor
cursor_placed pin Nowhere cursor = cursor

-- the cursor after a pick, or after none
abbrev pub IsMoved : ℕ → ℕ → Option ℕ → Type 0
IsMoved cursor now picked = MatchOption picked (now ≡ cursor) (λ server. now ≡ server)

-- a slot of a server where one is free, otherwise its queue
abbrev pub placed_on : Scene → ℕ → Placement
placed_on scene server = if is_free scene server then Slot server else OwnQueue server

-- the first server of weight 0 in a set, where it has one
abbrev pub IsFirstWeightless : Scene → (ℕ → Type 0) → Option ℕ → Type 0
IsFirstWeightless scene among found =
    MatchOption found ((server : ℕ) → among server → 0 < weight_of scene server)
    (λ server. among server × (weight_of scene server ≡ 0) × ((other : ℕ) → among other → weight_of scene other ≡ 0 → server ≤ other))
