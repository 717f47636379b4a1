-- Events but arrivals: what refuses one, and which entry of the log it becomes.
use Rattle.std.specs.Prelude.{Option}
use Rattle.log_entries.specs.declared.entry.Entry.{Entry}
use Rattle.log_entries.specs.declared.entry.Entry.TheVariants as entries
use Rattle.log_entries.specs.declared.refusal.Refusal.{Refusal}
use Rattle.log_entries.specs.Histories.{History, effective, refuses_done, refuses_failure, refuses_abort, refuses_tick, refuses_check, refuses_limit}
use Rattle.dispatch_core.specs.declared.event.Event.{Event}
use Rattle.dispatch_core.specs.declared.event.Event.TheVariants.{Done, Fail, Abort, Tick, Check, Limit}

-- what refuses an event now
abbrev pub refuses : History → Event → Option Refusal
refuses history (Done moment ticket) = refuses_done history ticket
refuses history (Fail moment ticket) = refuses_failure history ticket
refuses history (Abort moment ticket) = refuses_abort history ticket
refuses history (Tick moment) = refuses_tick history
refuses history (Check moment server answered) = refuses_check history server
refuses history (Limit moment server limit) = refuses_limit history server

-- the entry of the log that an event becomes: it says the same, at the event's effective moment
abbrev pub entry_of : History → Event → Entry
entry_of history (Done moment ticket) = entries.Done (effective history moment) ticket
entry_of history (Fail moment ticket) = entries.Fail (effective history moment) ticket
entry_of history (Abort moment ticket) = entries.Abort (effective history moment) ticket
entry_of history (Tick moment) = entries.Tick (effective history moment)
entry_of history (Check moment server answered) = entries.Check (effective history moment) server answered
entry_of history (Limit moment server limit) = entries.Limit (effective history moment) server limit
