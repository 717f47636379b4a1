-- Requests that have a place.
use Rattle.std.specs.Prelude.{ℕ, ◌<◌, pos, ◌+ℤ◌, Option}
use Rattle.queue_outside.specs.Admission.{due_at}
use Rattle.log_entries.specs.declared.entry.Entry.{Entry}
use Rattle.log_entries.specs.declared.entry.Entry.TheVariants.{Arrive}
use Rattle.log_entries.specs.declared.refusal.Refusal.{Refusal}
use Rattle.log_entries.specs.declared.setup.Setup.{Setup}
use Rattle.log_entries.specs.Histories.{effective, refuses_arrival, RefusedOrNoMemory}
use Rattle.log_entries.specs.Legal.{AddsEvent}
use Rattle.dispatch_state.specs.declared.position.Ticketed.{Ticketed}
use Rattle.grant_board.specs.Views.{Terms}
use Rattle.shared_desk.specs.Replies.{SomeHeld, SomeStep}
use Rattle.locked_book.specs.declared.book.Deferred.{Deferred}
use Rattle.prio_rules.specs.Wishes.{wish}
use Rattle.prio_rules.specs.declared.wish.Wish.{Wish}
use Rattle.proxy_config.specs.declared.parts.Config.{Config}
use Rattle.relay_workers.specs.Boards.{IsBoardOf}
use Rattle.req_view.specs.Request.{Request}

-- the event of its arrival with this wish: its class, its offset and its pin
abbrev pub arrival : Wish → Ticketed → ℕ → Entry
arrival wished it moment = Arrive moment (record {
  ticket = it.ticket;
  class = wished.class;
  due = pos moment +ℤ wished.offset;
  pin = wished.pin;
  place = it.place;
})

-- a request arrived at some moment with this wish
abbrev pub ArrivesAs : Wish → Ticketed → Terms → Setup → Type 0
ArrivesAs wished it terms setup =
    (moment : ℕ) × SomeStep terms setup (λ old new. AddsEvent old.history new.history (arrival wished it (effective old.history moment)))

-- it has a place of the board and arrived so
pub record IsAdmittedAs (terms : Terms) (setup : Setup) (wished : Wish) (it : Ticketed) : Type 0 where
  pub place : it.place < terms.places
  pub arrives : ArrivesAs wished it terms setup

-- the same with the wish of the rules, at a board of the configuration whose rules they are
abbrev pub IsAdmitted : Terms → Setup → Config → Request → Ticketed → Type 0
IsAdmitted terms setup config request it = IsBoardOf config terms × IsAdmittedAs terms setup (wish config request) it

-- the same by some configuration
abbrev pub IsRequestAt : Terms → Setup → Request → Ticketed → Type 0
IsRequestAt terms setup request it = ∥ ((config : Config) × IsAdmitted terms setup config request it) ∥₁

-- the event of the arrival of one that waited elsewhere: with its old due date, or the nearest one
-- that is possible at that moment
abbrev pub late_arrival : Deferred → Ticketed → ℕ → Entry
late_arrival deferred it moment = Arrive moment (record {
  ticket = it.ticket;
  class = deferred.class;
  due = due_at deferred.due moment;
  pin = deferred.pin;
  place = it.place;
})

-- a request that waited elsewhere arrived at some moment
abbrev pub ArrivesLate : Deferred → Ticketed → Terms → Setup → Type 0
ArrivesLate deferred it terms setup =
    (moment : ℕ) × SomeStep terms setup (λ old new. AddsEvent old.history new.history (late_arrival deferred it (effective old.history moment)))

-- it has a place of the board and arrived so
pub record IsAdmittedLate (terms : Terms) (setup : Setup) (deferred : Deferred) (it : Ticketed) : Type 0 where
  pub place : it.place < terms.places
  pub arrives : ArrivesLate deferred it terms setup

-- in some state that the lock may hold an arrival with this pin is refused for this cause, or there was no memory
abbrev pub IsRefusedFor : Terms → Setup → Option ℕ → Refusal → Type 0
IsRefusedFor terms setup pin refusal = SomeHeld terms setup (λ held. RefusedOrNoMemory (refuses_arrival held.history pin) refusal)

-- the same with the pin of the rules, at a board of the configuration whose rules they are
abbrev pub WishIsTurnedAway : Terms → Setup → Config → Request → Refusal → Type 0
WishIsTurnedAway terms setup config request refusal = IsBoardOf config terms × IsRefusedFor terms setup (wish config request).pin refusal
