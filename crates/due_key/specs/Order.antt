-- The order of keys.
use Rattle.std.specs.Prelude.{◌≡◌, ◌<◌, ◌<ℤ◌, ◌⊎◌}
use Rattle.std.specs.Ordering.{nat_cmp, int_cmp, ordering_then}
use Rattle.std.specs.declared.cmp.Ordering.{Ordering}
use Rattle.due_key.specs.declared.key.Key.{Key}

-- the order of two keys: by class, then by due date, then by ticket
abbrev pub key_cmp : Key → Key → Ordering
key_cmp a b = ordering_then (int_cmp a.class b.class) (ordering_then (int_cmp a.due b.due) (nat_cmp a.ticket b.ticket))

-- a key has a lower class; or the same class and an earlier due date; or both the same and a lower ticket
abbrev pub ComesBefore : Key → Key → Type 0
ComesBefore a b = (a.class <ℤ b.class) ⊎ ((a.class ≡ b.class) × ((a.due <ℤ b.due) ⊎ ((a.due ≡ b.due) × (a.ticket < b.ticket))))
