-- The dispatcher that a script is replayed on.
use Rattle.std.specs.Prelude.{ℕ, List, [], ◌∷◌, None, codes}
use Rattle.std.specs.Option.{unwrap_or}
use Rattle.log_entries.specs.declared.setup.ServerSet.{ServerSet}
use Rattle.log_entries.specs.declared.setup.Setup.{Setup}
use Rattle.log_entries.specs.Histories.{History, first_window}
use Rattle.log_texts.specs.Headers.{Settings}

-- one server, which takes one request at a time
abbrev pub default_servers : List ServerSet
default_servers = record { limit = 1; maxqueue = 0; weight = 1; rise_fall = None } ∷ []

abbrev pub default_names : List (List ℕ)
default_names = codes "s1" ∷ []

-- the items, or where there are none the default ones
abbrev pub or_else : {X : Type 0} → List X → List X → List X
or_else [] others = others
or_else (x ∷ xs) others = x ∷ xs

-- the names of the servers: those of the header lines, or the default one
abbrev pub names_of : Settings → List (List ℕ)
names_of settings = or_else settings.names default_names

-- the setup of the dispatcher: that of the header lines, with defaults where they set nothing
abbrev pub script_setup : Settings → Setup
script_setup settings = record {
  servers = or_else settings.servers default_servers;
  places = unwrap_or settings.places 64;
  log = unwrap_or settings.log 262144;
  retries = unwrap_or settings.retries 3;
  redispatch = settings.redispatch;
  queue_timeout = unwrap_or settings.queue_timeout 0;
}

-- the first window, without an event yet
abbrev pub opening : Settings → History
opening settings = first_window (script_setup settings) []
