-- The setup of a dispatcher that a configuration describes.
use Rattle.std.specs.Prelude.{◌≡◌, ℕ, map, Option, Some, None}
use Rattle.std.specs.Option.{unwrap_or}
use Rattle.log_entries.specs.declared.setup.ServerSet.{ServerSet}
use Rattle.log_entries.specs.declared.setup.Setup.{Setup}
use Rattle.proxy_config.specs.declared.parts.Checks.{Checks}
use Rattle.proxy_config.specs.declared.parts.Config.{Config}
use Rattle.proxy_config.specs.declared.parts.Server.{Server}

-- `rise` and `fall` of a server that is checked
abbrev pub rise_fall : Option Checks → Option (ℕ × ℕ)
rise_fall None = None
rise_fall (Some checks) = Some (checks.rise, checks.fall)

-- a server as its line describes it
abbrev pub set_of : Server → ServerSet
set_of server = record { limit = server.maxconn; maxqueue = server.maxqueue; weight = server.weight; rise_fall = rise_fall server.check }

-- the setup for this number of live requests and a log of this number of entries; without `timeout
-- queue` requests wait without limit
abbrev pub setup_of : Config → ℕ → ℕ → Setup
setup_of config places log = record {
  servers = map set_of config.servers;
  places = places;
  log = log;
  retries = config.retries;
  redispatch = config.redispatch;
  queue_timeout = unwrap_or config.queue_timeout 0;
}

-- the configuration describes the setup, whatever its number of places and the size of its log
abbrev pub SetupIsAsked : Config → Setup → Type 0
SetupIsAsked config setup = setup ≡ setup_of config setup.places setup.log
