-- An exchange over any sequence of events.
use Rattle.std.specs.Prelude.{◌≡◌, ℕ, Bool, List, [], ◌∷◌, ◌++◌}
use Rattle.exchange_machine.specs.Headline.{Sound}
use Rattle.exchange_machine.specs.Histories.{ExchangeHistory}
use Rattle.exchange_events.specs.Answers.{Does}
use Rattle.exchange_events.specs.Steps.{IsAtItsStage, IsRuled, TakesNoMore, history_after}
use Rattle.exchange_events.specs.declared.exchange.Exchange.{Exchange}
use Rattle.exchange_events.specs.declared.exchange.Outcome.{Outcome}
use Rattle.exchange_events.specs.declared.run.Events.{Events}
use Rattle.exchange_events.specs.declared.run.Events.TheVariants.{End, Then'}

-- after each event the exchange became the next one, took this much of it, and gave this away, as
-- the event does; a client that sends no more was given up as the rules say
abbrev pub Runs : Bool → Events → Exchange → ExchangeHistory → List Outcome → Exchange → ExchangeHistory → Type 0
Runs aborts End x h given y g = (given ≡ []) × (y ≡ x) × (g ≡ h)
Runs aborts (Then' event box rest) x h given y g =
    (next : Exchange) × (used : ℕ) × (outcome : Outcome) × (others : List Outcome) × (given ≡ outcome ∷ others) × IsRuled aborts x event next
    × Does aborts x event used outcome next × TakesNoMore event used
    × Runs aborts rest next (history_after x event used outcome h) others y g

-- the history that the events made is sound
pub record Ran (aborts : Bool) (x : Exchange) (h : ExchangeHistory) (events : Events) (before behind : List Outcome) (y : Exchange) : Type 0 where
  pub given : List Outcome
  pub told : behind ≡ before ++ given
  pub history : ExchangeHistory
  pub runs : Runs aborts events x h given y history
  pub at : IsAtItsStage y history
  pub sound : Sound history
