-- The requests that each server was given in a window.
use Rattle.std.specs.Prelude.{◌≡◌, ℕ, ◌==◌, Bool, false, List, count_by, length, slice_get, Some}
use Rattle.log_entries.specs.declared.entry.Entry.{Entry}
use Rattle.log_entries.specs.declared.entry.Entry.TheVariants.{Direct, Granted}
use Rattle.log_entries.specs.Histories.{History}
use Rattle.log_entries.specs.Scenes.{is_up}
use Rattle.dispatch_state.specs.Histories.{scene_of}
use Rattle.dispatch_reports.specs.declared.lines.ServerLine.{ServerLine}

-- an entry puts a request on a server at once
abbrev pub is_direct : ℕ → Entry → Bool
is_direct server (Direct ticket other) = other == server
is_direct server entry = false

-- an entry grants a slot of a server to a request that waited
abbrev pub is_granted : ℕ → Entry → Bool
is_granted server (Granted ticket queue other) = other == server
is_granted server entry = false

-- the line of a server: whether it is up, and how many requests it was given in the window, at once
-- and after a wait
abbrev pub server_line_of : History → ℕ → ServerLine
server_line_of history server = record {
  up = is_up (scene_of history) server;
  direct = count_by (is_direct server) history.log;
  granted = count_by (is_granted server) history.log;
}

-- a line for each server, in order
pub record AreLines (history : History) (lines : List ServerLine) : Type 0 where
  pub each : length lines ≡ length history.setup.servers
  pub line : (server : ℕ) (line : ServerLine) → slice_get lines server ≡ Some line → line ≡ server_line_of history server
