-- Checks of servers, each a connection that is begun and looked at later.
use Rattle.std.specs.Prelude.{◌≡◌, ◌≢◌, ℕ, ◌==◌, Bool, true, false, List, Option, Some, None, IsSomeAnd, slice_get, slice_index_or, slice_set}
use Rattle.std.specs.declared.net.socket_addr.SocketAddr.{SocketAddr}
use Rattle.log_lines.specs.declared.events.CheckFailure.TheVariants.{NoAddress, Late}
use Rattle.proxy_config.specs.declared.parts.Config.{Config}
use Rattle.run_gate.specs.Waits.{left, patience}
use Rattle.run_gate.specs.declared.probing.Checked.{Checked}
use Rattle.run_gate.specs.declared.probing.Probe.{Probe}

-- the time of a check has passed, which may have none
abbrev pub is_late : ℕ → Option ℕ → ℕ → Bool
is_late since None now = false
is_late since (Some millis) now = left since millis now == 0

-- a check failed at a server of this address: for want of an address where it has none, and only there
abbrev pub HasFailed : Option SocketAddr → Checked → Type 0
HasFailed None checked = checked.failure ≡ Some NoAddress
HasFailed (Some address) checked = IsSomeAnd checked.failure (λ failure. failure ≢ NoAddress)

-- How a check has ended, by whether the system tells a failure of its connection or anything else,
-- and whether its time has passed: it failed; it passed; it is late; or it isn't over.
abbrev pub EndsBy : Bool → Bool → Bool → Option Checked → Type 0
EndsBy true told late ended = IsSomeAnd ended (λ it. IsSomeAnd it.failure (λ failure. failure ≢ NoAddress))
EndsBy false true late ended = ended ≡ Some (record { failure = None })
EndsBy false false true ended = ended ≡ Some (record { failure = Some Late })
EndsBy false false false ended = ended ≡ None

-- the check of a server that runs, of these by server
abbrev pub running_at : List (Option Probe) → ℕ → Option Probe
running_at probes server = slice_index_or probes server None

-- the check of a server that is looked at now: the one that runs, or one that begins now and may take
-- as long as the configuration says
abbrev pub IsCheckOf : Config → ℕ → ℕ → Option Probe → Probe → Type 0
IsCheckOf config server now (Some running) probe = probe ≡ running
IsCheckOf config server now None probe =
    IsSomeAnd (slice_get config.servers server) (λ it. (probe.since ≡ now) × (probe.patience ≡ patience config.connect_timeout it.check))

-- a check that isn't over runs on, and its time hasn't passed; the others stay
abbrev pub RunsOn : Config → ℕ → ℕ → List (Option Probe) → List (Option Probe) → Type 0
RunsOn config now server old new =
    (probe : Probe) × IsCheckOf config server now (running_at old server) probe × (is_late probe.since probe.patience now ≡ false)
    × (new ≡ slice_set old server (Some probe))
