-- The loops that haven't started yet.
use Rattle.std.specs.Prelude.{ℕ}
use Rattle.mio.specs.declared.poll.Poll.{Poll}

-- a loop that hasn't started yet: its number, and its poll
pub record Start : Type 0 where
  pub home : ℕ
  pub poll : Poll

-- the loop of a numbered poll
abbrev pub start_at : ℕ × Poll → Start
start_at numbered = record { home = numbered.0; poll = numbered.1 }
