-- The text of a proxy's state. A line feed ends each line.
use Rattle.std.specs.Prelude.{ℕ, ◌+◌, Bool, true, false, List, [], ◌∷◌, ◌++◌, codes, if◌then◌else◌}
use Rattle.std.specs.Fmt.{decimal}
use Rattle.log_texts.specs.Traces.{health_word, name_of, intake_text}
use Rattle.run_control.specs.declared.state.ServerState.{ServerState}
use Rattle.run_control.specs.declared.state.ProxyState.{ProxyState}

-- a server's name, and whether it is up
abbrev pub head_text : List ℕ → Bool → List ℕ
head_text name up = codes "server " ++ name ++ codes " " ++ health_word up ++ codes " limit "

-- the number of requests that a server serves, and of those that wait for it
abbrev pub counts_text : ServerState → List ℕ
counts_text server = codes " served " ++ decimal server.served ++ codes " waiting " ++ decimal server.waiting ++ codes "\n"

-- the line of a server with this name
abbrev pub server_text : List ℕ → ServerState → List ℕ
server_text name server = head_text name server.up ++ intake_text server.intake ++ counts_text server

-- the lines of servers in file order, the first of which has this number
unfoldable pub servers_text : List (List ℕ) → ℕ → List ServerState → List ℕ
servers_text names number [] = []
servers_text names number (server ∷ servers) = server_text (name_of names number) server ++ servers_text names (1 + number) servers

-- the word for a proxy's phase, by whether it stops and whether it pauses
abbrev pub phase_word : Bool → Bool → List ℕ
phase_word stopping paused = if stopping then codes "stopping" else if paused then codes "paused" else codes "serving"

-- the line of the proxy
abbrev pub sums_text : ProxyState → List ℕ
sums_text state =
    codes "proxy " ++ phase_word state.stopping state.paused ++ codes " waiting " ++ decimal state.waiting ++ codes " places " ++
    decimal state.places ++ codes " clients " ++ decimal state.clients ++ codes "\n"

-- all lines
abbrev pub state_text : List (List ℕ) → ProxyState → List ℕ
state_text names state = servers_text names 0 state.servers.items ++ sums_text state
