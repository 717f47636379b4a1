-- The passes and the seat of an exchange.
use Rattle.std.specs.Prelude.{◌≡◌, ◌⊎◌, ℕ, Bool, true, false, if◌then◌else◌, ◌&&◌, List, [], ◌∷◌, Option, Some, None}
use Rattle.atomic_table.specs.Seated.{TableId}
use Rattle.exchange_machine.specs.Histories.{ExchangeHistory}
use Rattle.exchange_machine.specs.Stages.{IsWaiting, IsDialing}
use Rattle.exchange_machine.specs.declared.dialing.Dialing as dialings
use Rattle.exchange_machine.specs.declared.waiting.Waiting as waitings
use Rattle.grant_board.specs.RelayCalls.{Relay}
use Rattle.grant_board.specs.Views.{Grant, Terms}
use Rattle.exchange_events.specs.declared.exchange.Exchange.{Exchange}
use Rattle.exchange_events.specs.declared.exchange.Exchange.TheVariants.{Asking, Waiting, Dialing, Forwarding, Settling, Leaving, Telling, Over}
use Rattle.exchange_events.specs.declared.exchange.Outcome.{Outcome}
use Rattle.exchange_events.specs.declared.exchange.Outcome.TheVariants.{Posts, StarvedPosts}
use Rattle.exchange_seated.specs.declared.seated.Stage.{Stage}
use Rattle.exchange_seated.specs.declared.seated.Stage.TheVariants as stages
use Rattle.http_bodies.specs.Stops.{is_done}
use Rattle.base_verdict.specs.declared.Ending.{Ending}
use Rattle.base_verdict.specs.declared.Ending.TheVariants.{Done, Failed}
use Rattle.base_verdict.specs.declared.Verdict.{Verdict}
use Rattle.base_verdict.specs.declared.Verdict.TheVariants.{Serve, Told}

-- it waits after some history
abbrev pub HasWaited : waitings.Waiting → Type 0
HasWaited w = ∥ ((h : ExchangeHistory) × IsWaiting w h) ∥₁

abbrev pub has_one : List Grant → Bool
has_one [] = false
has_one (pass ∷ passes) = true

-- the passes of a seat, where there is one
abbrev pub passes_at : Option Relay → List Grant
passes_at None = []
passes_at (Some seat) = seat.view.passes

-- a seat that is there has a pass
abbrev pub is_taken : Option Relay → Bool
is_taken None = true
is_taken (Some seat) = has_one seat.view.passes

-- the board of a seat, and its terms, or else these
abbrev pub board_at : TableId → Option Relay → TableId
board_at board None = board
board_at board (Some seat) = seat.board

abbrev pub terms_at : Terms → Option Relay → Terms
terms_at terms None = terms
terms_at terms (Some seat) = seat.view.terms

-- the verdict of a pass for a server's slot
abbrev pub serves : Verdict → Bool
serves (Serve server) = true
serves (Told cause) = false

abbrev pub all_serve : List Grant → Bool
all_serve [] = true
all_serve (pass ∷ passes) = serves pass.verdict && all_serve passes

-- the server of such a verdict
abbrev pub served_by : Verdict → Option ℕ
served_by (Serve server) = Some server
served_by (Told cause) = None

-- the server of the pass that is held, if one is
abbrev pub server_of : List Grant → Option ℕ
server_of [] = None
server_of (pass ∷ passes) = served_by pass.verdict

-- an exchange with this verdict may end so
abbrev pub may_end : Verdict → Ending → Bool
may_end (Serve server) ending = true
may_end (Told cause) Done = true
may_end (Told cause) Failed = false

-- this pass is to be posted, with this ending
abbrev pub IsPosted : Outcome → Grant → Ending → Type 0
IsPosted outcome pass ending = (outcome ≡ Posts pass ending) ⊎ (outcome ≡ StarvedPosts pass ending)

-- it waits for a pass
abbrev pub is_waiting : Exchange → Bool
is_waiting (Asking a) = false
is_waiting (Waiting w) = true
is_waiting (Dialing d) = false
is_waiting (Forwarding p) = false
is_waiting (Settling s) = false
is_waiting (Leaving l) = false
is_waiting (Telling t) = false
is_waiting Over = false

-- the stage of an exchange
abbrev pub stage_of : Exchange → Stage
stage_of (Asking a) = stages.Asking
stage_of (Waiting w) = stages.Waiting
stage_of (Dialing d) = stages.Dialing
stage_of (Forwarding f) = if f.dialing then stages.Dialing else stages.Forwarding
stage_of (Settling s) = stages.Telling
stage_of (Leaving l) = stages.Telling
stage_of (Telling t) = stages.Telling
stage_of Over = stages.Over

-- its request was read whole, or isn't read before a pass is there
abbrev pub has_asked : Exchange → Bool
has_asked (Asking a) = false
has_asked (Waiting w) = true
has_asked (Dialing d) = true
has_asked (Forwarding f) = is_done f.up.coding
has_asked (Settling s) = false
has_asked (Leaving l) = false
has_asked (Telling t) = false
has_asked Over = false

-- it has a pass and waits for a connection, after this history
abbrev pub IsDialingAt : Exchange → ExchangeHistory → Type 0
IsDialingAt x h = (dialing : dialings.Dialing) × (x ≡ Dialing dialing) × IsDialing dialing h
