-- The commands that lines stand for. A line isn't a command where a word doesn't fit its place or is missing.
use Rattle.std.specs.Prelude.{ℕ, true, false, List, [], ◌∷◌, Result, Ok, Err, Option, Some, None, ◌||◌, if◌then◌else◌, codes}
use Rattle.std.specs.Str.{bytes_eq}
use Rattle.run_control.specs.declared.command.Command.{Command}
use Rattle.run_control.specs.declared.command.Command.TheVariants.{State, Limit, Drain, Ready, Pause, Resume, Reports, Clients, Reopen, Stop, Help}
use Rattle.run_control.specs.declared.command.Form.TheVariants.{Lines, Json, Stat, Servers}
use Rattle.run_control.specs.declared.pieces.Misfit.{Misfit}
use Rattle.run_control.specs.declared.pieces.Misfit.TheVariants.{Missing, Bad}
use Rattle.run_control.specs.Misfits.{◌>>=◌}
use Rattle.run_control.specs.Pieces.{word_at, fixed_at, name_at, name_below_at, intake_at, millis_at, end_at}

-- the command of one word
abbrev pub plain : List ℕ → Option Command
plain word =
    if bytes_eq word (codes "pause") then Some Pause
    else if bytes_eq word (codes "resume") then Some Resume
    else if bytes_eq word (codes "reports") then Some Reports
    else if bytes_eq word (codes "clients") then Some Clients
    else if bytes_eq word (codes "reopen") then Some Reopen
    else if bytes_eq word (codes "help") then Some Help
    else None

-- the command, where no word stands after it
abbrev pub alone : Command → List (List ℕ) → Result Command Misfit
alone command [] = Ok command
alone command (word ∷ words) = Err (Bad word)

-- the command `state`, by the words after it: `--json` or none
abbrev pub state_command : List (List ℕ) → Result Command Misfit
state_command [] = Ok (State Lines)
state_command (word ∷ words) = if bytes_eq word (codes "--json") then alone (State Json) words else Err (Bad word)

-- the command `limit`, by the words after it: the server's name, and the number of requests that it takes
unfoldable pub limit_command : List (List ℕ) → Result Command Misfit
limit_command words = do
  server ← name_at words
  intake ← intake_at server.1
  alone (Limit server.0 intake.0) intake.1

-- the command `drain`, by the words after the server's name: `--wait` or none
abbrev pub drained : List ℕ → List (List ℕ) → Result Command Misfit
drained server [] = Ok (Drain server false)
drained server (word ∷ words) = if bytes_eq word (codes "--wait") then alone (Drain server true) words else Err (Bad word)

unfoldable pub drain_of : List (List ℕ) → Result Command Misfit
drain_of words = do
  server ← name_at words
  drained server.0 server.1

-- the command `ready`, by the words after it: the server's name
unfoldable pub ready_of : List (List ℕ) → Result Command Misfit
ready_of words = do
  server ← name_at words
  alone (Ready server.0) server.1

-- the command `stop --within`, by the words after it: a number of milliseconds
unfoldable pub within_of : List (List ℕ) → Result Command Misfit
within_of words = do
  millis ← millis_at words
  alone (Stop (Some millis.0)) millis.1

-- the command `stop`, by the words after it: `--within` and a number of milliseconds, or none
abbrev pub stop_of : List (List ℕ) → Result Command Misfit
stop_of [] = Ok (Stop None)
stop_of (word ∷ words) = if bytes_eq word (codes "--within") then within_of words else Err (Bad word)

-- HAProxy's `show servers state`, by the words after `show servers`
unfoldable pub servers_of : List (List ℕ) → Result Command Misfit
servers_of words = do
  others ← fixed_at (codes "state") words
  alone (State Servers) others

-- HAProxy's `show stat` and `show servers state`, by the words after `show`
abbrev pub show_of : List (List ℕ) → Result Command Misfit
show_of [] = Err Missing
show_of (word ∷ words) = if bytes_eq word (codes "stat") then alone (State Stat) words
    else if bytes_eq word (codes "servers") then servers_of words
    else Err (Bad word)

-- HAProxy's `set maxconn server`, by the words after `set maxconn`
unfoldable pub set_limit_of : List (List ℕ) → Result Command Misfit
set_limit_of words = do
  others ← fixed_at (codes "server") words
  server ← name_below_at others
  intake ← intake_at server.1
  alone (Limit server.0 intake.0) intake.1

-- HAProxy's `set server .. state`, by the words after the server's name
abbrev pub stood : List ℕ → List (List ℕ) → Result Command Misfit
stood server [] = Err Missing
stood server (word ∷ words) = if bytes_eq word (codes "ready") then alone (Ready server) words
    else if bytes_eq word (codes "drain") || bytes_eq word (codes "maint") then alone (Drain server false) words
    else Err (Bad word)

-- HAProxy's `set server .. state`, by the words after `set server`
unfoldable pub set_state_of : List (List ℕ) → Result Command Misfit
set_state_of words = do
  server ← name_below_at words
  others ← fixed_at (codes "state") server.1
  stood server.0 others

-- HAProxy's `set` commands, by the words after `set`
abbrev pub set_command : List (List ℕ) → Result Command Misfit
set_command [] = Err Missing
set_command (word ∷ words) = if bytes_eq word (codes "maxconn") then set_limit_of words
    else if bytes_eq word (codes "server") then set_state_of words
    else Err (Bad word)

-- the command of one word, with no word after it
abbrev pub single : List ℕ → List (List ℕ) → Option Command → Result Command Misfit
single word words None = Err (Bad word)
single word words (Some command) = alone command words

-- the commands that begin with one of HAProxy's words, and those of one word
abbrev pub other_of : List ℕ → List (List ℕ) → Result Command Misfit
other_of word words = if bytes_eq word (codes "show") then show_of words
    else if bytes_eq word (codes "set") then set_command words
    else single word words (plain word)

-- the commands that have words after the first, and the others
abbrev pub first_of : List ℕ → List (List ℕ) → Result Command Misfit
first_of word words = if bytes_eq word (codes "state") then state_command words
    else if bytes_eq word (codes "limit") then limit_command words
    else if bytes_eq word (codes "drain") then drain_of words
    else if bytes_eq word (codes "ready") then ready_of words
    else if bytes_eq word (codes "stop") then stop_of words
    else other_of word words

-- the command of these words
abbrev pub command_of : List (List ℕ) → Result Command Misfit
command_of [] = Err Missing
command_of (word ∷ words) = first_of word words
