-- The longest waits, in milliseconds.
use Rattle.std.specs.Prelude.{ℕ, ◌≡◌, ◌*◌, ◌-◌, min, Option, Some, None, IsSomeAnd}
use Rattle.std.specs.Duration.{as_nanos}
use Rattle.std.specs.declared.time.Duration.{Duration}
use Rattle.proxy_config.specs.declared.parts.Checks.{Checks}

-- the wait before a request tries the server again that failed it: a second, or `timeout connect`
-- where that is less
abbrev pub turnaround : Option ℕ → ℕ
turnaround None = 1000
turnaround (Some connect) = min connect 1000

-- the time of a check: its `inter`, or `timeout connect` where that is less; without limit where neither is set
abbrev pub patience : Option ℕ → Option Checks → Option ℕ
patience None None = None
patience None (Some checks) = Some checks.inter
patience (Some connect) None = Some connect
patience (Some connect) (Some checks) = Some (min checks.inter connect)

-- what is left of a time at one moment, since another
abbrev pub left : ℕ → ℕ → ℕ → ℕ
left since millis now = millis - (now - since)

-- the time of this number of milliseconds, where there is one
abbrev pub IsTimeOf : Option ℕ → Option Duration → Type 0
IsTimeOf None time = time ≡ None
IsTimeOf (Some millis) time = IsSomeAnd time (λ it. as_nanos it ≡ millis * 1_000_000)
