-- The setups that a dispatcher can be made for.
use Rattle.std.specs.Prelude.{ℕ, ◌<◌, ◌≤◌, ◌^◌, nat_lt, nat_le, ◌&&◌, Bool, true, IsTrue, Option, None, Some, length, All}
use Rattle.log_entries.specs.declared.setup.ServerSet.{ServerSet}
use Rattle.log_entries.specs.declared.setup.Setup.{Setup}

-- a server that is checked has rise and fall of at least 1
abbrev pub has_rise_and_fall : Option (ℕ × ℕ) → Bool
has_rise_and_fall None = true
has_rise_and_fall (Some it) = nat_lt 0 it.0 && nat_lt 0 it.1

-- the numbers of a server are in range
abbrev pub is_within : ServerSet → Bool
is_within server = nat_le server.weight 256 && has_rise_and_fall server.rise_fall

-- the numbers of a setup are in range
pub record IsSound (setup : Setup) : Type 0 where
  pub some_server : 0 < length setup.servers
  pub servers : length setup.servers ≤ 64
  pub within : All (λ server. IsTrue (is_within server)) setup.servers
  pub some_place : 0 < setup.places
  pub places : setup.places ≤ 4096
  pub some_log : 0 < setup.log
  pub log : setup.log ≤ 262144
  pub retries : setup.retries ≤ 999999999
  pub timeout : setup.queue_timeout < 2 ^ 62
