-- What a call on a dispatcher beside a board's keeper leaves.
use Rattle.std.specs.Prelude.{◌≡◌, ◌⊎◌, ◌↔◌, ℕ, List, ◌++◌, Contains, drop, length, map}
use Rattle.base_verdict.specs.declared.Ending.{Ending}
use Rattle.base_verdict.specs.declared.Ending.TheVariants as ending
use Rattle.grant_board.specs.declared.returned.Return.{Return}
use Rattle.grant_board.specs.Views.{Grant, KeeperView}
use Rattle.grant_board.specs.KeeperCalls.{Collects, limit_after}
use Rattle.base_places.specs.Sets.{Has}
use Rattle.log_entries.specs.declared.entry.Entry.{Entry}
use Rattle.log_entries.specs.declared.entry.Entry.TheVariants.{Done, Fail}
use Rattle.log_entries.specs.Histories.{History, state_of}
use Rattle.log_entries.specs.Legal.{AddsEvent}
use Rattle.locked_book.specs.Outstanding.{grants_of}
use Rattle.locked_book.specs.Verdicts.{verdicts}

-- a dispatcher's history, and the keeper's view of its board
pub record Booked : Type 0 where
  pub history : History
  pub view : KeeperView

-- the entries that a call added
abbrev pub added : History → History → List Entry
added old new = drop (length old.log) new.log

-- the verdicts of entries, at the places where their requests are in the end
abbrev pub grants_in : History → List Entry → List Grant
grants_in history entries = grants_of (state_of history).rows (verdicts entries)

-- grants are offered, one after the other
abbrev pub with_offers : KeeperView → List Grant → KeeperView
with_offers view grants = record view { out = view.out ++ grants; offers = view.offers ++ grants }

-- a set of places gets those of these grants, and no others
abbrev pub Wakes : List Grant → List ℕ → List ℕ → Type 0
Wakes grants old new = (place : ℕ) → Has new place ↔ (Contains (map (λ g. g.place) grants) place ⊎ Has old place)

-- an event's verdicts are offered, and their places are added to a set; nothing is collected meanwhile
pub record CarriesOut (old new : Booked) (woken woken_then : List ℕ) : Type 0 where
  pub view : new.view ≡ with_offers old.view (grants_in new.history (added old.history new.history))
  pub wakes : Wakes (grants_in new.history (added old.history new.history)) woken woken_then

-- the event of a return: the exchange is over, or its connection failed
abbrev pub ended_by : Ending → ℕ → ℕ → Entry
ended_by ending.Done moment ticket = Done moment ticket
ended_by ending.Failed moment ticket = Fail moment ticket

abbrev pub event_of : ℕ → Return → Entry
event_of moment back = ended_by back.ending moment back.ticket

-- a return is collected at a place and becomes the next event, whose verdicts are offered
pub record TakesBack (old new : Booked) (place moment : ℕ) (back : Return) (woken woken_then : List ℕ) : Type 0 where
  pub between : KeeperView
  pub collects : Collects old.view between place back
  pub event : AddsEvent old.history new.history (event_of moment back)
  pub view : new.view ≡ with_offers between (grants_in new.history (added old.history new.history))
  pub wakes : Wakes (grants_in new.history (added old.history new.history)) woken woken_then

-- a server's bound is set, and then an event's verdicts are offered
pub record SetsBound (old new : Booked) (server bound : ℕ) (woken woken_then : List ℕ) : Type 0 where
  pub view : new.view ≡ with_offers (limit_after old.view server bound) (grants_in new.history (added old.history new.history))
  pub wakes : Wakes (grants_in new.history (added old.history new.history)) woken woken_then
