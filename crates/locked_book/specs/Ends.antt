-- Returns that become events, and the events that come otherwise.
use Rattle.std.specs.Prelude.{◌≡◌, ℕ, Bool, true, false, Option, None}
use Rattle.base_verdict.specs.declared.Ending.{Ending}
use Rattle.base_verdict.specs.declared.Ending.TheVariants.{Done, Failed}
use Rattle.grant_board.specs.declared.returned.Return.{Return}
use Rattle.log_entries.specs.declared.refusal.Refusal.{Refusal}
use Rattle.log_entries.specs.Histories.{History, refuses_done, refuses_failure}
use Rattle.dispatch_core.specs.declared.event.Event.{Event}
use Rattle.dispatch_core.specs.declared.event.Event.TheVariants as events

-- why the event of a return is refused, if it is
abbrev pub refuses_end : History → Ending → ℕ → Option Refusal
refuses_end history Done ticket = refuses_done history ticket
refuses_end history Failed ticket = refuses_failure history ticket

-- nothing refuses it
abbrev pub IsAcceptable : History → Return → Type 0
IsAcceptable history back = refuses_end history back.ending back.ticket ≡ None

-- an event that ends no request and sets no limit
abbrev pub neither_ends_nor_limits : Event → Bool
neither_ends_nor_limits (events.Abort moment ticket) = true
neither_ends_nor_limits (events.Tick moment) = true
neither_ends_nor_limits (events.Check moment server answered) = true
neither_ends_nor_limits event = false
