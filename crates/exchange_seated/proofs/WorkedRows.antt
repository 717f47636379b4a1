-- A used connection, and a pass that is to be posted, at worked examples: what must hold, and what
-- must not.
use Rattle.std.proofs.Common.{◌≡◌, inl, inr, ℕ, true, [], ◌∷◌, Some, refl}
use Rattle.base_verdict.specs.declared.Ending.TheVariants.{Done, Failed}
use Rattle.grant_board.specs.Views.{Grant}
use Rattle.exchange_driver.specs.Answers.{Heard}
use Rattle.exchange_driver.specs.Wires.{Wire}
use Rattle.exchange_driver.specs.declared.socket.ReadResult.{ReadResult}
use Rattle.exchange_driver.specs.declared.socket.ReadResult.TheVariants.{Nothing, Ended}
use Rattle.exchange_events.specs.declared.exchange.Exchange.TheVariants.{Over}
use Rattle.exchange_events.specs.declared.exchange.Outcome.TheVariants.{Posts}
use Rattle.exchange_seated.specs.Connections.{HasSpoken, StillHolds, WantsNoUsed}
use Rattle.exchange_seated.specs.Seats.{IsPosted}

-- an end is something
end_is_something : Ended true ≡ Nothing → ⊥
end_is_something is = cc

speaks : HasSpoken (Some []) (Some (Heard (Ended true) ∷ []))
speaks = (Ended true, end_is_something, refl)

-- nothing isn't
said_nothing : (answer : ReadResult) → Some (Heard Nothing ∷ []) ≡ Some (Heard answer ∷ []) → answer ≡ Nothing
said_nothing answer is = cc

quiet : ¬ (HasSpoken (Some []) (Some (Heard Nothing ∷ [])))
quiet spoken = spoken.1 (said_nothing spoken.0 spoken.2)

-- who holds no pass wants no connection
ended_wants_none : (server : ℕ) (line : Wire) → WantsNoUsed server Over line
ended_wants_none server line = inl (inr refl)

-- a pass is posted with its own ending
posts : (pass : Grant) → IsPosted (Posts pass Done) pass Done
posts pass = inl refl

done_isnt_failed : (pass : Grant) → Posts pass Done ≡ Posts pass Failed → ⊥
done_isnt_failed pass is = cc

-- a pass that was there is there, or gone, and no other comes
holds_on : (pass : Grant) → StillHolds (pass ∷ []) []
holds_on pass = inl refl
