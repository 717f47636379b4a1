-- How often each number was counted.
use Rattle.std.specs.Prelude.{◌≡◌, ◌≢◌, ℕ, ◌+◌, ◌-◌, ◌^◌, min, ℤ, List}
use Rattle.std.specs.Ordering.{int_cmp}
use Rattle.std.specs.BTreeMap.{is_at}
use Rattle.std.specs.Map.{lookup}
use Rattle.std.specs.Option.{unwrap_or}

-- a counter that saturates at its greatest value
abbrev pub one_more : ℕ → ℕ
one_more count = min (count + 1) (2 ^ 64 - 1)

-- the number of times that a number was counted
abbrev pub times : List (ℤ × ℕ) → ℤ → ℕ
times counts number = unwrap_or (lookup (is_at (int_cmp number)) counts) 0

-- a number was counted this many times, and every other one as often as before
pub record ChangesOnly (old new : List (ℤ × ℕ)) (number : ℤ) (count : ℕ) : Type 0 where
  pub this_number : times new number ≡ count
  pub other_numbers : (other : ℤ) → other ≢ number → times new other ≡ times old other
