-- What a call of a desk changed.
use Rattle.std.specs.Prelude.{◌≡◌, ℕ, List, Option}
use Rattle.base_places.specs.Sets.{Has}
use Rattle.locked_book.specs.Calls.{Booked, CarriesOut}
use Rattle.log_reading.specs.Tails.{Waiting}

-- what waited to be read before a call and after it, where a reader follows the log
pub record TailChange : Type 0 where
  pub old : Option Waiting
  pub new : Option Waiting

abbrev pub tail_change : Option Waiting → Option Waiting → TailChange
tail_change old new = record { old = old; new = new }

-- what a read changed of what waited, and what the lock of the book held where the read looked at it
pub record LogRead : Type 0 where
  pub tail : TailChange
  pub seen : Option Booked

-- what the lock held before a call and after it; what the call changed of what waits to be read,
-- where it reached that; and the places with its offers
pub record Change : Type 0 where
  pub old : Booked
  pub new : Booked
  pub tail : Option TailChange
  pub places : List ℕ

-- no places
abbrev pub AreNone : List ℕ → Type 0
AreNone places = (place : ℕ) → Has places place → ⊥

-- nothing was changed, and nothing was offered
pub record ChangesNothing (change : Change) : Type 0 where
  pub same : change.new ≡ change.old
  pub quiet : AreNone change.places

-- the verdicts of an event were offered, and these are the places with its offers
abbrev pub Offers : Change → Type 0
Offers change = (woken : List ℕ) × AreNone woken × CarriesOut change.old change.new woken change.places
