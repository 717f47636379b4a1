-- A turn: the blocks of 64 places are walked by rising number, and in each the places that are out
-- when the walk comes to it are looked at by rising number, each once; the returns there are
-- collected.
use Rattle.std.specs.Prelude.{◌≡◌, ◌⊎◌, ◌↔◌, ℕ, zero, suc, ◌+◌, ◌*◌, ◌/◌, ◌<◌, ◌≤◌, List, [], ◌∷◌, Contains, None, Some}
use Rattle.grant_board.specs.declared.returned.Return.{Return}
use Rattle.grant_board.specs.Views.{count_at}
use Rattle.grant_board.specs.KeeperCalls.{FindsUnposted}
use Rattle.log_entries.specs.declared.entry.Entry.TheVariants.{Tick}
use Rattle.log_entries.specs.declared.refusal.Refusal.TheVariants.{LogFull}
use Rattle.log_entries.specs.Histories.{effective, SomeExpires, refuses_tick}
use Rattle.log_entries.specs.Legal.{AddsEvent}
use Rattle.locked_book.specs.Calls.{Booked, TakesBack, CarriesOut}

-- a place that is out was looked at, and the return there was collected, or there was none
pub record Visits (moment place : ℕ) (old : Booked) (woken : List ℕ) (new : Booked) (woken_then : List ℕ) : Type 0 where
  pub out : 0 < count_at place old.view.out
  pub found : ((back : Return) × TakesBack old new place (effective old.history moment) back woken woken_then)
      ⊎ ((new.history ≡ old.history) × FindsUnposted old.view new.view place × (woken_then ≡ woken))

-- these places were visited, one after the other and by rising number, the first of them no lower than a number
abbrev pub VisitsFrom : ℕ → ℕ → List ℕ → Booked → List ℕ → Booked → List ℕ → Type 0
VisitsFrom moment first [] old woken new woken_then = (new ≡ old) × (woken_then ≡ woken)
VisitsFrom moment first (place ∷ places) old woken new woken_then =
    (first ≤ place) × ((next : Booked) × (woken_next : List ℕ) × Visits moment place old woken next woken_next
    × VisitsFrom moment (place + 1) places next woken_next new woken_then)

-- a block of 64 places was walked: those of its places that were out when the walk came to it were
-- visited, and no others
pub record WalksBlock (moment number : ℕ) (old : Booked) (woken : List ℕ) (new : Booked) (woken_then : List ℕ) : Type 0 where
  pub places : List ℕ
  pub visits : VisitsFrom moment (64 * number) places old woken new woken_then
  pub exact : (place : ℕ) → Contains places place ↔ ((place / 64 ≡ number) × (0 < count_at place old.view.out))

-- as many blocks as a number says were walked, by rising number from 0, each from what the block
-- before it left
abbrev pub WalksBlocks : ℕ → ℕ → Booked → List ℕ → Booked → List ℕ → Type 0
WalksBlocks moment zero old woken new woken_then = (new ≡ old) × (woken_then ≡ woken)
WalksBlocks moment (suc number) old woken new woken_then =
    (between : Booked) × (woken_between : List ℕ) × WalksBlocks moment number old woken between woken_between
    × WalksBlock moment number between woken_between new woken_then

-- the walk over a block stopped at one of its places, which was out when the walk came to the block
-- and is out still: those of the block's places below it that were out then were visited, and no
-- others
pub record StopsInBlock (moment number : ℕ) (old : Booked) (woken : List ℕ) (new : Booked) (woken_then : List ℕ) : Type 0 where
  pub places : List ℕ
  pub visits : VisitsFrom moment (64 * number) places old woken new woken_then
  pub next : ℕ
  pub in_block : next / 64 ≡ number
  pub exact : (place : ℕ) → Contains places place ↔ ((place / 64 ≡ number) × (place < next) × (0 < count_at place old.view.out))
  pub was_out : 0 < count_at next old.view.out
  pub out : 0 < count_at next new.view.out

-- the blocks below one were walked, and the walk over that one stopped
pub record Stops (moment : ℕ) (old : Booked) (woken : List ℕ) (new : Booked) (woken_then : List ℕ) : Type 0 where
  pub number : ℕ
  pub between : Booked
  pub woken_between : List ℕ
  pub walks : WalksBlocks moment number old woken between woken_between
  pub stops : StopsInBlock moment number between woken_between new woken_then

-- the blocks were walked in which all of the board's places lie, and all that are out
pub record WalksAll (moment : ℕ) (old : Booked) (woken : List ℕ) (new : Booked) (woken_then : List ℕ) : Type 0 where
  pub blocks : ℕ
  pub in_blocks : old.view.terms.places ≤ 64 * blocks
  pub all : (place : ℕ) → 0 < count_at place old.view.out → place < 64 * blocks
  pub walks : WalksBlocks moment blocks old woken new woken_then

-- why a turn was halted: the log had no room at first; or the walk over a block stopped at a place
-- that was next; or all blocks were walked, and a tick was due, since some request had waited too
-- long
pub record Halts (moment : ℕ) (old : Booked) (woken : List ℕ) (new : Booked) (woken_then : List ℕ) : Type 0 where
  pub cause : ((refuses_tick old.history ≡ Some LogFull) × (new ≡ old) × (woken_then ≡ woken))
      ⊎ (Stops moment old woken new woken_then
      ⊎ (SomeExpires new.history moment × WalksAll moment old woken new woken_then))

-- the log had room for an event, and all blocks were walked; then the requests that waited too long
-- were told so, where one had
pub record Turns (moment : ℕ) (old : Booked) (woken : List ℕ) (new : Booked) (woken_then : List ℕ) : Type 0 where
  pub asked : refuses_tick old.history ≡ None
  pub between : Booked
  pub woken_between : List ℕ
  pub walks : WalksAll moment old woken between woken_between
  pub tick : (SomeExpires between.history moment × AddsEvent between.history new.history (Tick (effective between.history moment))
      × CarriesOut between new woken_between woken_then)
      ⊎ ((SomeExpires between.history moment → ⊥) × (new ≡ between) × (woken_then ≡ woken_between))
