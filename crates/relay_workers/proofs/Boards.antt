-- The board of a dispatcher whose setup a configuration asks for is one of the configuration.
use Rattle.std.proofs.Common.{◌≡◌, ◌∙◌, ap, map}
use Rattle.std.proofs.lemmas.Simd.{map-map}
use Rattle.config_setup.specs.Setups.{SetupIsAsked, set_of}
use Rattle.log_entries.specs.declared.setup.ServerSet.{ServerSet}
use Rattle.log_entries.specs.declared.setup.Setup.{Setup}
use Rattle.grant_board.specs.Views.{Terms}
use Rattle.locked_book.specs.Books.{terms_for}
use Rattle.proxy_config.specs.declared.parts.Config.{Config}
use Rattle.relay_workers.specs.Boards.{IsBoardOf}

pub board_of : (config : Config) (setup : Setup) (terms : Terms) → terms ≡ terms_for setup → SetupIsAsked config setup → IsBoardOf config terms
board_of config setup terms of asked =
    ap (λ (t : Terms). t.limits) of ∙ ap (λ (s : Setup). map (λ server. server.limit) s.servers) asked
    ∙ map-map (λ (it : ServerSet). it.limit) set_of config.servers
