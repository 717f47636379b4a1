-- What the steps of a script ask of a dispatcher, which knows its servers by numbers.
use Rattle.std.specs.Prelude.{ℕ, List}
use Rattle.dispatch_core.specs.declared.event.Event.TheVariants as events
use Rattle.log_texts.specs.declared.step.Step.{Step}
use Rattle.log_texts.specs.declared.step.Step.TheVariants.{Arrive, Done, Fail, Abort, Tick, Check, Limit, Roll}
use Rattle.log_texts.specs.ScriptTexts.{server_number, named_pin}
use Rattle.replay.specs.declared.call.Call.{Call}
use Rattle.replay.specs.declared.call.Call.TheVariants as asks

-- what a step asks: the same, with the numbers that its names stand for
abbrev pub by_numbers : List (List ℕ) → Step → Call
by_numbers names (Arrive moment class offset pin) = asks.Arrive moment class offset (named_pin names pin)
by_numbers names (Done moment ticket) = asks.Event (events.Done moment ticket)
by_numbers names (Fail moment ticket) = asks.Event (events.Fail moment ticket)
by_numbers names (Abort moment ticket) = asks.Event (events.Abort moment ticket)
by_numbers names (Tick moment) = asks.Event (events.Tick moment)
by_numbers names (Check moment server answered) = asks.Event (events.Check moment (server_number names server) answered)
by_numbers names (Limit moment server limit) = asks.Event (events.Limit moment (server_number names server) limit)
by_numbers names Roll = asks.Roll
