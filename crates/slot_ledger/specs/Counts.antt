-- The number of requests that each server serves, and that wait in each queue.
use Rattle.std.specs.Prelude.{◌≡◌, ℕ, ◌+◌, ◌<◌, ◌≤◌, Bool, List, slice_index_or, if◌then◌else◌}
use Rattle.log_entries.specs.declared.queue.Queue.{Queue}
use Rattle.log_entries.specs.declared.queue.Queue.TheVariants.{Backend, Server}
use Rattle.log_entries.specs.declared.row.Phase.{Phase}
use Rattle.log_entries.specs.declared.row.Phase.TheVariants.{Loose, Waiting, Serving, Told}
use Rattle.log_entries.specs.Queues.{IsQueueOf}
use Rattle.log_entries.specs.Rows.{Rows, phase_waits_in, phase_is_served_by, served, queued}

-- counts by server, those of the servers' own queues, and that of the backend's
pub record Counted : Type 0 where
  pub served : List ℕ
  pub own : List ℕ
  pub backend : ℕ

abbrev pub served_at : Counted → ℕ → ℕ
served_at counts server = slice_index_or counts.served server 0

abbrev pub queued_at : Counted → Queue → ℕ
queued_at counts Backend = counts.backend
queued_at counts (Server server) = slice_index_or counts.own server 0

-- the counts agree with the rows
pub record AreCounts (counts : Counted) (rows : Rows) : Type 0 where
  pub serving : (server : ℕ) → served_at counts server ≡ served server rows
  pub waiting : (queue : Queue) → queued_at counts queue ≡ queued queue rows

-- 1 where a test holds, otherwise 0
abbrev pub one_if : Bool → ℕ
one_if test = if test then 1 else 0

-- a phase names one of this many servers, or none
abbrev pub IsPhaseOf : ℕ → Phase → Type 0
IsPhaseOf servers Loose = Unit {0}
IsPhaseOf servers (Told cause) = Unit {0}
IsPhaseOf servers (Waiting queue since) = IsQueueOf servers queue
IsPhaseOf servers (Serving server) = server < servers

-- one more request is in a phase
pub record IsOneMore (phase : Phase) (old new : Counted) : Type 0 where
  pub serving : (server : ℕ) → served_at new server ≡ served_at old server + one_if (phase_is_served_by server phase)
  pub waiting : (queue : Queue) → queued_at new queue ≡ queued_at old queue + one_if (phase_waits_in queue phase)

-- a request moves from one phase into another
pub record HasChangedPhase (before after : Phase) (old new : Counted) : Type 0 where
  pub serving : (server : ℕ) → served_at new server + one_if (phase_is_served_by server before)
      ≡ served_at old server + one_if (phase_is_served_by server after)
  pub waiting : (queue : Queue) → queued_at new queue + one_if (phase_waits_in queue before) ≡ queued_at old queue + one_if (phase_waits_in queue after)

-- a request in a phase is counted
pub record Includes (phase : Phase) (counts : Counted) : Type 0 where
  pub serving : (server : ℕ) → one_if (phase_is_served_by server phase) ≤ served_at counts server
  pub waiting : (queue : Queue) → one_if (phase_waits_in queue phase) ≤ queued_at counts queue

-- no count is above a number
pub record AreAtMost (most : ℕ) (counts : Counted) : Type 0 where
  pub serving : (server : ℕ) → served_at counts server ≤ most
  pub waiting : (queue : Queue) → queued_at counts queue ≤ most
