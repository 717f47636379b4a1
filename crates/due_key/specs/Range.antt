-- Numbers in a range.
use Rattle.std.specs.Prelude.{ℤ, pos, negsuc, ◌≤ℤ◌, int_lt, if◌then◌else◌}

-- a number is no less than one end and no more than the other
pub record IsBetween (low high number : ℤ) : Type 0 where
  pub lower : low ≤ℤ number
  pub upper : number ≤ℤ high

-- the number itself where it lies between the ends, else the nearer end
abbrev pub nearest : ℤ → ℤ → ℤ → ℤ
nearest low high number = if int_lt number low then low else (if int_lt high number then high else number)

-- the sums of a moment, from 0 to 2 ^ 62 - 1, and an offset, from -524287 to 524287
abbrev pub IsDue : ℤ → Type 0
IsDue number = IsBetween (negsuc 524286) (pos 4611686018427912190) number
