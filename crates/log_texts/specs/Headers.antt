-- The settings of a script's header lines.
use Rattle.std.specs.Prelude.{◌≡◌, ℕ, ◌<◌, ◌≤◌, ◌^◌, nat_lt, ◌||◌, Bool, true, false, List, [], ◌∷◌}
use Rattle.std.specs.Prelude.{length, All, filter_map, Option, Some, None, option_map, option_and_then, IfSome, IsTrue, if◌then◌else◌, codes}
use Rattle.std.specs.List.{list_any, last_or}
use Rattle.proxy_words.specs.Text.{words}
use Rattle.proxy_words.specs.Numerals.{numeral}
use Rattle.log_entries.specs.declared.setup.ServerSet.{ServerSet}
use Rattle.log_entries.specs.Setups.{is_within}
use Rattle.log_texts.specs.declared.setting.Setting.{Setting}
use Rattle.log_texts.specs.declared.setting.Setting.TheVariants.{Places, LogRoom, Retries, Redispatch, QueueTimeout, Server}
use Rattle.log_texts.specs.Steps.{named, only, said_by}

-- a number of at most nine digits within these bounds
abbrev pub number_in : ℕ → ℕ → List ℕ → Option ℕ
number_in least most word = option_and_then (λ n. if nat_lt n least || nat_lt most n then None else Some n) (numeral 9 word)

-- the number of places, by the words after `places`
abbrev pub places_line : List (List ℕ) → Option Setting
places_line others = option_and_then (λ word. option_map Places (number_in 1 4096 word)) (only others)

-- the room of the log, by the words after `log`
abbrev pub log_line : List (List ℕ) → Option Setting
log_line others = option_and_then (λ word. option_map LogRoom (number_in 1 262144 word)) (only others)

-- the number of further tries of a request, by the words after `retries`
abbrev pub retries_line : List (List ℕ) → Option Setting
retries_line others = option_and_then (λ word. option_map Retries (numeral 9 word)) (only others)

-- the last try goes to another server: no word stands after `redispatch`
abbrev pub redispatch_line : List (List ℕ) → Option Setting
redispatch_line [] = Some Redispatch
redispatch_line others = None

-- the longest wait of a request in a queue, by the words after `queue-timeout`
abbrev pub timeout_line : List (List ℕ) → Option Setting
timeout_line others = option_and_then (λ word. option_map QueueTimeout (numeral 9 word)) (only others)

-- the numbers of checks in a row that bring a server up and take it down, by their words: at least one
abbrev pub checks_of : List ℕ → List ℕ → Option (ℕ × ℕ)
checks_of rise fall = option_and_then (λ raising. option_map (λ felling. (raising, felling)) (number_in 1 999999999 fall)) (number_in 1 999999999 rise)

-- a server's name, and its maxconn, maxqueue and weight, and its rise and fall where it is checked
abbrev pub server_of : List ℕ → List ℕ → List ℕ → List ℕ → Option (ℕ × ℕ) → Option Setting
server_of name limit maxqueue weight checks =
    option_and_then (λ name. option_and_then (λ most.
    option_and_then (λ waiting. option_map (λ share. Server name (record { limit = most; maxqueue = waiting; weight = share; rise_fall = checks }))
    (number_in 0 256 weight)) (numeral 9 maxqueue)) (numeral 9 limit)) (named name)

-- a server, by the words after `server`: it is checked where rise and fall are given
abbrev pub server_line : List (List ℕ) → Option Setting
server_line (name ∷ limit ∷ maxqueue ∷ weight ∷ []) = server_of name limit maxqueue weight None
server_line (name ∷ limit ∷ maxqueue ∷ weight ∷ rise ∷ fall ∷ []) =
    option_and_then (λ checks. server_of name limit maxqueue weight (Some checks)) (checks_of rise fall)
server_line others = None

-- the header lines, by their keywords
abbrev pub header_lines : List (List ℕ × (List (List ℕ) → Option Setting))
header_lines =
    (codes "places", places_line)
    ∷ (codes "log", log_line)
    ∷ (codes "retries", retries_line)
    ∷ (codes "redispatch", redispatch_line)
    ∷ (codes "queue-timeout", timeout_line)
    ∷ (codes "server", server_line)
    ∷ []

-- what a header line's words set, by its keyword and what stands behind that
abbrev pub set_by : List (List ℕ) → Option Setting
set_by [] = None
set_by (keyword ∷ others) = said_by header_lines keyword others

-- the setting of a line, if it is a header line
abbrev pub setting_of : List ℕ → Option Setting
setting_of line = set_by (words line)

-- the names and the settings of a script's servers, in order; and for each other word the value of
-- a line, if there is one
pub record Settings : Type 0 where
  pub names : List (List ℕ)
  pub servers : List ServerSet
  pub places : Option ℕ
  pub log : Option ℕ
  pub retries : Option ℕ
  pub redispatch : Bool
  pub queue_timeout : Option ℕ

abbrev pub name_in : Setting → Option (List ℕ)
name_in (Server name server) = Some name
name_in other = None

abbrev pub server_in : Setting → Option ServerSet
server_in (Server name server) = Some server
server_in other = None

abbrev pub places_in : Setting → Option ℕ
places_in (Places places) = Some places
places_in other = None

abbrev pub log_in : Setting → Option ℕ
log_in (LogRoom room) = Some room
log_in other = None

abbrev pub retries_in : Setting → Option ℕ
retries_in (Retries retries) = Some retries
retries_in other = None

abbrev pub is_redispatch : Setting → Bool
is_redispatch Redispatch = true
is_redispatch other = false

abbrev pub timeout_in : Setting → Option ℕ
timeout_in (QueueTimeout timeout) = Some timeout
timeout_in other = None

-- the sum of settings: all servers, and for each other word the last line's value
abbrev pub all_of : List Setting → Settings
all_of settings = record {
  names = filter_map name_in settings;
  servers = filter_map server_in settings;
  places = last_or None (filter_map places_in settings);
  log = last_or None (filter_map log_in settings);
  retries = last_or None (filter_map retries_in settings);
  redispatch = list_any is_redispatch settings;
  queue_timeout = last_or None (filter_map timeout_in settings);
}

-- the settings of lines
abbrev pub settings_of : List (List ℕ) → Settings
settings_of lines = all_of (filter_map setting_of lines)

-- the settings are within the limits of a dispatcher, except that there may be no server
pub record SettingsAreWithin (settings : Settings) : Type 0 where
  pub paired : length settings.names ≡ length settings.servers
  pub few : length settings.servers ≤ 64
  pub within : All (λ server. IsTrue (is_within server)) settings.servers
  pub places : IfSome settings.places (λ places. (0 < places) × (places ≤ 4096))
  pub log : IfSome settings.log (λ room. (0 < room) × (room ≤ 262144))
  pub retries : IfSome settings.retries (λ retries. retries ≤ 999999999)
  pub timeout : IfSome settings.queue_timeout (λ timeout. timeout < 2 ^ 62)
