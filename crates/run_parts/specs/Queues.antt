-- Configurations without waiting requests.
use Rattle.std.specs.Prelude.{◌≡◌, All}
use Rattle.proxy_config.specs.declared.parts.Config.{Config}

-- no server has a limit, so each server that is up is free
abbrev pub NeverQueues : Config → Type 0
NeverQueues config = All (λ server. server.maxconn ≡ 0) config.servers
