-- Which timeout runs for a guest, and how the table of timeouts changes.
use Rattle.std.specs.Prelude.{◌≡◌, ℕ, ◌/◌, min, max, Bool, true, false, ◌&&◌, if◌then◌else◌, nat_lt, ◌-◌, Option, None, Some}
use Rattle.exchange_events.specs.declared.event.TimeoutKind.{TimeoutKind}
use Rattle.exchange_events.specs.declared.event.TimeoutKind.TheVariants as Clocks
use Rattle.loop_events.specs.declared.guest.Keyword.{Keyword}
use Rattle.loop_events.specs.declared.guest.Keyword.TheVariants.{Client, Connect, Server, KeepAlive, Linger, Turnaround, Unused}
use Rattle.loop_events.specs.declared.timing.Expiry.{Expiry}
use Rattle.loop_events.specs.declared.timing.Expiry.TheVariants.{Told, Dials, Ends, Nothing}
use Rattle.loop_events.specs.declared.timing.Keywords.{Keywords}
use Rattle.loop_shared.specs.Timed.{IsTimed, Begins, Stops}
use Rattle.loop_table.specs.Runs.{touched}
use Rattle.loop_table.specs.Timers.{Timeouts, MayRun, Changes, ArePatient, sooner_of}
use Rattle.proxy_config.specs.declared.parts.Config.{Config}
use Rattle.run_gate.specs.Waits as waits

-- The pause before a server that has failed it is tried again; else the one of its exchange's clock,
-- where the next request of a client that is silent has a time of its own.
abbrev pub timeout_for : Bool → Bool → Bool → Option TimeoutKind → Option Keyword
timeout_for true asked_before silent clock = Some Turnaround
timeout_for false asked_before silent None = None
timeout_for false asked_before silent (Some Clocks.Client) = if asked_before && silent then Some KeepAlive else Some Client
timeout_for false asked_before silent (Some Clocks.Queue) = None
timeout_for false asked_before silent (Some Clocks.Connect) = Some Connect
timeout_for false asked_before silent (Some Clocks.Server) = Some Server

-- the number of a timeout in the loop's table; none where it is without limit
abbrev pub number_of : Keywords → Keyword → Option ℕ
number_of keywords Client = keywords.client
number_of keywords Connect = keywords.connect
number_of keywords Server = keywords.server
number_of keywords KeepAlive = keywords.keep_alive
number_of keywords Linger = keywords.linger
number_of keywords Turnaround = keywords.turnaround
number_of keywords Unused = keywords.unused

-- the same of a timeout that may be none
abbrev pub number_at : Keywords → Option Keyword → Option ℕ
number_at keywords None = None
number_at keywords (Some keyword) = number_of keywords keyword

-- how long an unused connection of a server stays open, in milliseconds, where any does
abbrev pub unused_time : Option ℕ → Option ℕ
unused_time None = None
unused_time (Some most) = Some 5000

-- Each timeout has the time of its own setting. A client lingers for two seconds.
pub record AreTimed (timers : Timeouts) (room : ℕ) (config : Config) (keeping reusing : Option ℕ) (it : Keywords) : Type 0 where
  pub client : IsTimed timers room config.client_timeout it.client
  pub connect : IsTimed timers room config.connect_timeout it.connect
  pub server : IsTimed timers room config.server_timeout it.server
  pub keep_alive : IsTimed timers room keeping it.keep_alive
  pub linger : IsTimed timers room (Some 2000) it.linger
  pub turnaround : IsTimed timers room (Some (waits.turnaround config.connect_timeout)) it.turnaround
  pub unused : IsTimed timers room (unused_time reusing) it.unused

-- bytes moved: the timeout with this number begins anew for a cell, where it runs for that
abbrev pub Touches : Timeouts → Timeouts → Option ℕ → ℕ → Type 0
Touches old new None cell = new ≡ old
Touches old new (Some number) cell =
    (MayRun old number cell → Changes old new number (λ runs. touched runs cell old.clock)) × (¬ (MayRun old number cell) → new ≡ old)

-- one is stopped for a cell, and then one begins
pub record Turns (old new : Timeouts) (stop begin : Option ℕ) (cell : ℕ) : Type 0 where
  pub between : Timeouts
  pub stopped : Stops old between stop cell
  pub begun : Begins between new begin cell

-- how soon a loop tries again that was short of something, in milliseconds
abbrev pub retry_of : Bool → Option ℕ
retry_of true = Some 10
retry_of false = None

-- How soon the first loop looks at the queues again, where a request waits there that may time out:
-- after a sixteenth of its time, which is at least a millisecond and at most a second.
abbrev pub look_of : Bool → Option ℕ → Option ℕ
look_of false timeout = None
look_of true None = None
look_of true (Some millis) = Some (min (max (millis / 16) 1) 1000)

-- A poll waits until the first timeout expires, until the loop tries again, or until it looks at the
-- queues, whichever comes first.
abbrev pub IsWait : Timeouts → Bool → Bool → Option ℕ → Option ℕ → Type 0
IsWait timers short looks timeout wait =
    (first : Option ℕ) × ArePatient timers.clock timers.timed first × (wait ≡ sooner_of (sooner_of first (retry_of short)) (look_of looks timeout))

-- what becomes of a guest whose timeout has expired
abbrev pub expiry_of : Option Keyword → Expiry
expiry_of None = Nothing
expiry_of (Some Client) = Told Clocks.Client
expiry_of (Some Connect) = Told Clocks.Connect
expiry_of (Some Server) = Told Clocks.Server
expiry_of (Some KeepAlive) = Ends
expiry_of (Some Linger) = Nothing
expiry_of (Some Turnaround) = Dials
expiry_of (Some Unused) = Nothing

-- a client that began to linger at one moment may linger on at another: within 30 seconds
abbrev pub lingers_on : ℕ → ℕ → Bool
lingers_on since now = nat_lt (now - since) 30000
