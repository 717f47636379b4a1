-- Sets of servers.
use Rattle.std.specs.Prelude.{◌≡◌, ◌==◌, ℕ, Bool, IsTrue, ◌↔◌, ◌⊎◌}
use Rattle.std.specs.Int.{bit_at}

-- a set has a server, by the bits of its marks
abbrev pub has : ℕ → ℕ → Bool
has marks server = bit_at marks server == 1

-- a server is one of a set
abbrev pub IsIn : ℕ → ℕ → Type 0
IsIn marks server = IsTrue (has marks server)

-- the second set has one more server where it is wanted, otherwise the same
abbrev pub HasOneMore : ℕ → Bool → ℕ → ℕ → Type 0
HasOneMore server wanted old new = (other : ℕ) → IsIn new other ↔ (IsIn old other ⊎ (IsTrue wanted × (other ≡ server)))
