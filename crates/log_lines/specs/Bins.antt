-- The counting of values in bins.
use Rattle.std.specs.Prelude.{ℕ, ℤ, Option, Some, None, List, int_le, length, position}
use Rattle.std.specs.Option.{unwrap_or}

-- the greatest values of all bins but the last, the number of values in each bin, and the sum of all values
pub record Binned : Type 0 where
  pub bounds : List ℤ
  pub bins : List ℕ
  pub sum : ℤ

-- the first bin that takes a value; the last one where no other does
abbrev pub bin_of : List ℤ → ℤ → ℕ
bin_of bounds value = unwrap_or (position (λ bound. int_le value bound) bounds) (length bounds)
