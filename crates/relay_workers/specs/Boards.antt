-- Boards of a configuration.
use Rattle.std.specs.Prelude.{◌≡◌, map}
use Rattle.grant_board.specs.Views.{Terms}
use Rattle.proxy_config.specs.declared.parts.Config.{Config}

-- a board was opened for the configuration's servers: as many, each with its limit
abbrev pub IsBoardOf : Config → Terms → Type 0
IsBoardOf config terms = terms.limits ≡ map (λ server. server.maxconn) config.servers
