-- The lateness of slots, second by second.
use Rattle.std.specs.Prelude.{ℕ, ◌+◌, ◌-◌, ◌^◌, ◌/◌, ◌%◌, ◌&&◌, ◌==◌, min, ℤ, pos, Option, None, Some, List, get_or, int_lt, nat_le, nat_lt, if◌then◌else◌}
use Rattle.std.specs.Option.{option_map_or}
use Rattle.log_lines.specs.Counts.{one_more}
use Rattle.log_lines.specs.declared.minute.Second.{Second}

-- a sum that saturates at its greatest value
abbrev pub capped : ℕ → ℕ
capped sum = min sum (2 ^ 64 - 1)

-- a second without a slot
abbrev pub no_slot : ℕ → Second
no_slot number = record { number = number; slots = 0; late = 0; worst = None }

-- the greater of both
abbrev pub later : ℤ → ℤ → ℤ
later one other = if int_lt one other then other else one

-- the greatest lateness so far, with one more slot
abbrev pub greater_lateness : Option ℤ → ℤ → ℤ
greater_lateness None lateness = lateness
greater_lateness (Some worst) lateness = later worst lateness

-- a second with one more slot
abbrev pub with_slot : Second → ℤ → Second
with_slot second lateness = record second {
  slots = one_more second.slots;
  late = if int_lt (pos 0) lateness then one_more second.late else second.late;
  worst = Some (greater_lateness second.worst lateness);
}

-- the position of a second among sixty
abbrev pub second_index : ℕ → ℕ
second_index number = number % 60

-- the contents for a second at its position: nothing, where they belong to another second
abbrev pub held_of : ℕ → Second → Second
held_of number second = if second.number == number then second else no_slot number

-- the second at a position
abbrev pub second_at : List Second → ℕ → Second
second_at seconds index = get_or seconds index (no_slot 0)
