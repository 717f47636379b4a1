use Rattle.std.proofs.Common.{◌≡◌, ◌∙◌, ap, map, List, ℕ}
use Rattle.std.specs.Option.{unwrap_or}
use Rattle.log_entries.specs.declared.setup.ServerSet.{ServerSet}
use Rattle.log_entries.specs.declared.setup.Setup.{Setup}
use Rattle.config_setup.specs.Setups.{set_of}
use Rattle.config_setup.proofs.Sound.{sound_where_same}
use Rattle.config_setup.proofs.setup.setup_of.Goals as goal

pub returns-clause-sound : goal.returns-clause-sound
returns-clause-sound c =
    let config = c.args.config.now in
    let made : List ServerSet → ℕ → Setup = λ servers timeout. record {
      servers = servers;
      places = c.args.places;
      log = c.args.log;
      retries = config.retries;
      redispatch = config.redispatch;
      queue_timeout = timeout;
    } in
    let servers : c.in_ok-servers.servers ≡ map set_of config.servers = c.in_ok-servers.ensures in
    let timeout : c.unwrap_or.result ≡ unwrap_or config.queue_timeout 0 = c.unwrap_or.ensures in
    sound_where_same config c.args.places c.args.log (made c.in_ok-servers.servers c.unwrap_or.result) c.requires.config c.requires.places c.requires.log
    (ap (λ it. made it c.unwrap_or.result) servers ∙ ap (made (map set_of config.servers)) timeout)
