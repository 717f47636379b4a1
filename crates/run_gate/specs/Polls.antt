-- What the system tells of a connection: bits, of which each is an event.
use Rattle.std.specs.Prelude.{ℤ, pos, Bool, not}
use Rattle.std.specs.Int.{w16, int_bit_and}
use Rattle.std.specs.Ordering.{int_eq}

-- it tells anything
abbrev pub tells_any : ℤ → Bool
tells_any told = not (int_eq told (pos 0))

-- one of these bits is among what it tells
abbrev pub tells_one_of : ℤ → ℤ → Bool
tells_one_of bits told = tells_any (int_bit_and w16 told bits)

-- the other end sends no more: `POLLRDHUP`
abbrev pub end_event : ℤ
end_event = pos 0x2000

-- the connection takes bytes: `POLLOUT`
abbrev pub room_event : ℤ
room_event = pos 4

-- the connection failed: `POLLERR`, `POLLHUP` or `POLLNVAL`
abbrev pub tells_failure : ℤ → Bool
tells_failure told = tells_one_of (pos 0x38) told

-- the other end sends no more
abbrev pub tells_end : ℤ → Bool
tells_end told = tells_one_of end_event told
