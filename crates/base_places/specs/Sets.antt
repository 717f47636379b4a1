-- Sets of places: a set is a list of words, and each bit is a place.
use Rattle.std.specs.Prelude.{◌≡◌, ℕ, ◌-◌, ◌/◌, ◌%◌, ◌<◌, ◌≤◌, List, slice_index}
use Rattle.std.specs.Int.{bit_at}

-- the place is in the set
abbrev pub Has : List ℕ → ℕ → Type 0
Has words place = bit_at (slice_index words (place / 64)) (place % 64) ≡ 1

-- the first place of the set that isn't below a number
pub record IsNextPlace (words : List ℕ) (from place : ℕ) : Type 0 where
  pub in_range : place < 4096
  pub there : Has words place
  pub no_lower : from ≤ place
  pub first : (other : ℕ) → from ≤ other → other < place → Has words other → ⊥

-- the places that a walk hasn't come to yet: the bits of a number, whose first bit is this place's
pub record Ahead : Type 0 where
  pub first : ℕ
  pub bits : ℕ

-- the place is one of them
abbrev pub HasAhead : Ahead → ℕ → Type 0
HasAhead ahead place = (ahead.first ≤ place) × (bit_at ahead.bits (place - ahead.first) ≡ 1)

-- the first of them
pub record IsFirstAhead (ahead : Ahead) (place : ℕ) : Type 0 where
  pub in_range : place < 4096
  pub there : HasAhead ahead place
  pub first : (other : ℕ) → HasAhead ahead other → place ≤ other
