-- How an order is kept: each cell leads to the next one, and back to the one before it.
use Rattle.std.specs.Prelude.{◌≡◌, ℕ, zero, suc, ◌+◌, ◌<◌, ◌==◌, List, [], ◌∷◌, length, Contains, slice_index, if◌then◌else◌}
use Rattle.base_lists.specs.Once.{ComeOnce}

-- the links lead from one cell over the places, in turn, to another cell, and back
abbrev pub AreLinked : (ℕ → ℕ) → (ℕ → ℕ) → ℕ → List ℕ → ℕ → Type 0
AreLinked next previous from [] to = (next from ≡ to) × (previous to ≡ from)
AreLinked next previous from (place ∷ later) to = (next from ≡ place) × (previous place ≡ from) × AreLinked next previous place later to

-- the cells that a walk passes before the end, in at most this many steps
abbrev pub walk : (ℕ → ℕ) → ℕ → ℕ → ℕ → List ℕ
walk next end zero at = []
walk next end (suc steps) at = if at == end then [] else at ∷ walk next end steps (next at)

-- the places on the ring, from the one after the cell at `room` on
abbrev pub places_of : List ℕ → ℕ → List ℕ
places_of next room = walk (slice_index next) room room (slice_index next room)

-- the cells hold these places: the ring goes from the cell at `room` over them and back to it,
-- and each other place leads to itself
pub record IsLinked (next previous : List ℕ) (room : ℕ) (places : List ℕ) : Type 0 where
  pub next_cells : length next ≡ room + 1
  pub previous_cells : length previous ≡ room + 1
  pub ring : AreLinked (slice_index next) (slice_index previous) room places room
  pub once : ComeOnce places
  pub below : (place : ℕ) → Contains places place → place < room
  pub others : (place : ℕ) → place < room → ¬ (Contains places place) → slice_index next place ≡ place
