-- What contracts see of a list queue.
use Rattle.std.specs.Prelude.{ℕ, List}

-- its pairs by rising key, and the most that it may hold
pub record Held (K V : Type 0) : Type 0 where
  pub pairs : List (K × V)
  pub room : ℕ
