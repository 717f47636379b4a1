-- The number of descriptors for clients.
use Rattle.std.specs.Prelude.{ℕ, ◌-◌, ◌/◌, max}

-- all of these descriptors except those for servers' connections, or half of them where that is more; at least one
abbrev pub most_clients : ℕ → ℕ → ℕ
most_clients descriptors servers = max 1 (max (descriptors / 2) (descriptors - servers))
