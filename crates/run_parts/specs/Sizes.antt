-- The sizes of a proxy.
use Rattle.std.specs.Prelude.{ℕ, ◌<◌, ◌≤◌, ◌==◌, if◌then◌else◌, min, List, Option, IfSome}
use Rattle.std.specs.List.{sum_by}
use Rattle.proxy_config.specs.declared.parts.Server.{Server}

-- the number, where it is given, is from 1 to this one
abbrev pub IsOneTo : Option ℕ → ℕ → Type 0
IsOneTo given most = IfSome given (λ number. (0 < number) × (number ≤ most))

-- workers, loops, requests beyond the places, places and clients
pub record LimitsAreWithin (workers loops waiting : Option ℕ) (places requests : ℕ) : Type 0 where
  pub workers_within : IsOneTo workers 256
  pub loops_within : IsOneTo loops 64
  pub waiting_within : IsOneTo waiting 65536
  pub some_place : 0 < places
  pub few_places : places ≤ 4096
  pub few_requests : requests ≤ 999999999

-- the requests that may be at a server at a time, of so many live ones: its limit, or all of them
-- where it has none
abbrev pub share_of : ℕ → Server → ℕ
share_of places server = if server.maxconn == 0 then places else server.maxconn

-- the requests that may be at servers at a time, of so many live ones
abbrev pub slots_of : List Server → ℕ → ℕ
slots_of servers places = min places (sum_by (share_of places) servers)
