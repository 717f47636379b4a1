-- An order of places, as contracts see it.
use Rattle.std.specs.Prelude.{ℕ, ◌<◌, ◌==◌, not, List, [], ◌∷◌, Option, None, Contains, filter, slice_get, if◌then◌else◌}
use Rattle.base_lists.specs.Once.{ComeOnce}

-- the places, the one that joined first at the front, and the bound of all places
pub record Order : Type 0 where
  pub places : List ℕ
  pub room : ℕ

-- no place stands twice, and each is below the room
pub record IsOrder (order : Order) : Type 0 where
  pub once : ComeOnce order.places
  pub below : (place : ℕ) → Contains order.places place → place < order.room

-- the places without one of them
abbrev pub places_without : ℕ → List ℕ → List ℕ
places_without place places = filter (λ other. not (other == place)) places

-- the place after one
abbrev pub next_after : ℕ → List ℕ → Option ℕ
next_after place [] = None
next_after place (other ∷ later) = if other == place then slice_get later 0 else next_after place later

-- the same room with other places
abbrev pub with_places : Order → List ℕ → Order
with_places order places = record { places = places; room = order.room }
