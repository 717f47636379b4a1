-- What is accepted is within a dispatcher's limits.
use Rattle.std.proofs.Common.{◌≡◌, ◌<◌, ◌≤◌, ◌∙◌, ◌&&◌, ◌^◌, ℕ, true, refl, ap, subst, sym, arith, nat_le, nat_lt, IsTrue, IfSome, Option, None, Some}
use Rattle.std.proofs.lemmas.Bool.Decides.{nat_tests}
use Rattle.std.proofs.lemmas.List.{length-map}
use Rattle.std.proofs.lemmas.List.Elements.{All-map, All-weaker}
use Rattle.std.specs.Option.{unwrap_or}
use Rattle.log_entries.specs.declared.setup.Setup.{Setup}
use Rattle.log_entries.specs.Setups.{IsSound, is_within, has_rise_and_fall}
use Rattle.proxy_config.specs.declared.parts.Checks.{Checks}
use Rattle.proxy_config.specs.declared.parts.Config.{Config}
use Rattle.proxy_config.specs.declared.parts.Server.{Server}
use Rattle.proxy_config.specs.Sound.{IsSoundCheck, IsSoundServer, IsSoundConfig, IsSoundTime}
use Rattle.config_setup.specs.Setups.{rise_fall, set_of, setup_of}

checks_within : (checks : Option Checks) → IfSome checks IsSoundCheck → has_rise_and_fall (rise_fall checks) ≡ true
checks_within None sound = refl
checks_within (Some checks) sound =
    let rise : nat_lt 0 checks.rise ≡ true = (let r = sound.rise in grind (arith, nat_tests)) in
    let fall : nat_lt 0 checks.fall ≡ true = (let f = sound.fall in grind (arith, nat_tests)) in
    ap (λ b. b && nat_lt 0 checks.fall) rise ∙ fall

server_within : (server : Server) → IsSoundServer server → IsTrue (is_within (set_of server))
server_within server sound =
    let weight : nat_le server.weight 256 ≡ true = (let w = sound.weight in grind (arith, nat_tests)) in
    ap (λ b. b && has_rise_and_fall (rise_fall server.check)) weight ∙ checks_within server.check sound.check

timeout_within : (timeout : Option ℕ) → IfSome timeout IsSoundTime → unwrap_or timeout 0 < 2 ^ 62
timeout_within None sound = omega arith
timeout_within (Some millis) sound = sound.within

sound_setup : (config : Config) (places log : ℕ) → IsSoundConfig config → (0 < places) × (places ≤ 4096) → (0 < log) × (log ≤ 262144)
    → IsSound (setup_of config places log)
sound_setup config places log sound within fits = record {
  some_server = (let l = length-map config.servers set_of in let s = sound.some in grind (arith));
  servers = (let l = length-map config.servers set_of in let s = sound.most in grind (arith));
  within = All-map (λ server. IsTrue (is_within server)) set_of config.servers
      (All-weaker IsSoundServer (λ server. IsTrue (is_within (set_of server))) server_within config.servers sound.servers);
  some_place = within.0;
  places = within.1;
  some_log = fits.0;
  log = fits.1;
  retries = sound.retries;
  timeout = timeout_within config.queue_timeout sound.queue_timeout;
}

-- a setup of a configuration that was accepted is within its limits
pub sound_where_same : (config : Config) (places log : ℕ) (setup : Setup) → IsSoundConfig config → (0 < places) × (places ≤ 4096)
    → (0 < log) × (log ≤ 262144) → setup ≡ setup_of config places log → IsSound setup
sound_where_same config places log setup sound within fits same = subst IsSound (sym same) (sound_setup config places log sound within fits)
