-- The places that are out.
use Rattle.std.specs.Prelude.{ℕ, ◌*◌, ◌<◌, ◌≤◌, ◌↔◌, List}
use Rattle.grant_board.specs.Views.{Grant, KeeperView, count_at}
use Rattle.base_places.specs.Sets.{Has}

-- a set has exactly the places of the grants that are out
abbrev pub AreBusy : List Grant → List ℕ → Type 0
AreBusy out places = (place : ℕ) → Has places place ↔ (0 < count_at place out)

-- a seat's places fit into this many blocks of 64, each is out at most once, and the set has exactly those
pub record SetIsKept (view : KeeperView) (places : List ℕ) (blocks : ℕ) : Type 0 where
  pub few : view.terms.places ≤ 4096
  pub in_blocks : view.terms.places ≤ 64 * blocks
  pub few_blocks : blocks ≤ 64
  pub within : (place : ℕ) → 0 < count_at place view.out → place < view.terms.places
  pub once : (place : ℕ) → count_at place view.out ≤ 1
  pub busy : AreBusy view.out places
