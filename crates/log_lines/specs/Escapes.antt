-- The bytes of a request in a line of the log.
use Rattle.std.specs.Prelude.{ℕ, ◌≤◌, ◌&&◌, Bool, List, nat_lt, nat_eq, not}

-- a byte stands for itself: it is printable, and isn't a blank, a quote or a `#`
abbrev pub is_plain : ℕ → Bool
is_plain byte = nat_lt 32 byte && (nat_lt byte 127 && (not (nat_eq byte 34) && not (nat_eq byte 35)))
