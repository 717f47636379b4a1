-- The passes of an exchange: those that it holds, those that were handed in, and those that it gave away.
use Rattle.std.specs.Prelude.{ℕ, zero, suc, List, [], ◌∷◌}
use Rattle.grant_board.specs.Views.{Grant}
use Rattle.exchange_events.specs.declared.event.Event.{Event}
use Rattle.exchange_events.specs.declared.event.Event.TheVariants as Events
use Rattle.exchange_events.specs.declared.exchange.Exchange.{Exchange}
use Rattle.exchange_events.specs.declared.exchange.Exchange.TheVariants.{Asking, Waiting, Dialing, Forwarding, Settling, Leaving, Telling, Over}
use Rattle.exchange_events.specs.declared.exchange.Outcome.{Outcome}
use Rattle.exchange_events.specs.declared.exchange.Outcome.TheVariants as Outcomes

-- the passes that it holds: at most one
abbrev pub held_by : Exchange → List Grant
held_by (Asking a) = []
held_by (Waiting w) = []
held_by (Dialing d) = d.pass ∷ []
held_by (Forwarding p) = p.pass ∷ []
held_by (Settling s) = []
held_by (Leaving l) = []
held_by (Telling t) = []
held_by Over = []

-- the pass where it was taken
abbrev pub if_taken : ℕ → Grant → List Grant
if_taken zero pass = []
if_taken (suc n) pass = pass ∷ []

-- the passes handed in with an event, of which the exchange took this many
abbrev pub came_with : Event → ℕ → List Grant
came_with (Events.ClientBytes input) used = []
came_with (Events.ServerBytes input) used = []
came_with (Events.ClientTook count) used = []
came_with (Events.ServerTook count) used = []
came_with (Events.Granted pass) used = if_taken used pass
came_with Events.Unserved used = []
came_with (Events.Connected terms) used = []
came_with Events.Unreachable used = []
came_with Events.ClientEnd used = []
came_with Events.ClientFailed used = []
came_with Events.ServerEnd used = []
came_with Events.ServerFailed used = []
came_with Events.ServerDeaf used = []
came_with (Events.TimeOver clock) used = []

-- the passes that are to be posted
abbrev pub gone_with : Outcome → List Grant
gone_with Outcomes.Quiet = []
gone_with (Outcomes.Posts pass ending) = pass ∷ []
gone_with Outcomes.Starved = []
gone_with (Outcomes.StarvedPosts pass ending) = pass ∷ []
gone_with Outcomes.Retries = []
gone_with (Outcomes.Returns pass) = []
