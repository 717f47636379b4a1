-- Settings that are collected one by one.
use Rattle.std.specs.Prelude.{◌≡◌, take, drop, ℕ, ◌<◌, ◌≤◌, ◌^◌, ◌||◌, false, IsTrue, List, [], ◌∷◌, ◌++◌, length, Option, None, Some}
use Rattle.std.specs.List.{list_any}
use Rattle.std.specs.Option.{option_map_or, option_or}
use Rattle.log_entries.specs.Setups.{is_within}
use Rattle.log_texts.specs.declared.line.Line.{Line}
use Rattle.log_texts.specs.declared.line.Line.TheVariants as lines
use Rattle.log_texts.specs.declared.setting.Setting.{Setting}
use Rattle.log_texts.specs.declared.setting.Setting.TheVariants.{Places, LogRoom, Retries, QueueTimeout, Server}
use Rattle.log_texts.specs.Faults.{is_step, fault_behind}
use Rattle.log_texts.specs.Headers.{Settings, setting_of, name_in, server_in, places_in, log_in, retries_in, is_redispatch, timeout_in}

-- a setting within the limits of a dispatcher
abbrev pub SettingIsWithin : Setting → Type 0
SettingIsWithin (Places places) = (0 < places) × (places ≤ 4096)
SettingIsWithin (LogRoom room) = (0 < room) × (room ≤ 262144)
SettingIsWithin (Retries retries) = retries ≤ 999999999
SettingIsWithin (QueueTimeout timeout) = timeout < 2 ^ 62
SettingIsWithin (Server name server) = IsTrue (is_within server)
SettingIsWithin other = Unit

abbrev pub IsWithinLine : Line → Type 0
IsWithinLine (lines.Setting setting) = SettingIsWithin setting
IsWithinLine other = Unit

-- the items, and one more if there is one
abbrev pub with_last : {X : Type 0} → List X → Option X → List X
with_last xs None = xs
with_last xs (Some x) = xs ++ x ∷ []

-- the settings with one more: a server comes last, and where a word is repeated its last value counts
abbrev pub with_setting : Settings → Setting → Settings
with_setting settings setting = record {
  names = with_last settings.names (name_in setting);
  servers = with_last settings.servers (server_in setting);
  places = option_or (places_in setting) settings.places;
  log = option_or (log_in setting) settings.log;
  retries = option_or (retries_in setting) settings.retries;
  redispatch = is_redispatch setting || settings.redispatch;
  queue_timeout = option_or (timeout_in setting) settings.queue_timeout;
}

-- the settings with those of a line
abbrev pub with_line : Settings → List ℕ → Settings
with_line settings line = option_map_or (with_setting settings) (setting_of line) settings

-- the settings with those of a line of this kind
abbrev pub with_kind : Settings → Option Line → Settings
with_kind settings (Some (lines.Setting setting)) = with_setting settings setting
with_kind settings other = settings

-- this many lines stand before the first step: there are so many, none of them is a step, after
-- them comes one or nothing, and none of them is the first faulty line
pub record IsHeader (all : List (List ℕ)) (count : ℕ) : Type 0 where
  pub within : count ≤ length all
  pub stepless : list_any is_step (take count all) ≡ false
  pub begins : (line : List ℕ) (rest : List (List ℕ)) → drop count all ≡ line ∷ rest → IsTrue (is_step line)
  pub faultless : fault_behind [] all ≡ fault_behind (take count all) (drop count all)
