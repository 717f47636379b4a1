-- Agendas as contracts see them.
use Rattle.std.specs.Prelude.{◌≡◌, ℕ, List, []}

-- the numbers to look at soon, and those to look at in the next round, each list with its first
-- number at the front; and the bound of all numbers
pub record Notes : Type 0 where
  pub soon : List ℕ
  pub later : List ℕ
  pub room : ℕ

-- both lists have room for the same numbers
pub record IsAgenda (soon_room later_room room : ℕ) : Type 0 where
  pub soon : soon_room ≡ room
  pub later : later_room ≡ room

abbrev pub nothing_noted : ℕ → Notes
nothing_noted room = record { soon = []; later = []; room = room }

abbrev pub with_soon : Notes → List ℕ → Notes
with_soon notes soon = record { soon = soon; later = notes.later; room = notes.room }

abbrev pub with_later : Notes → List ℕ → Notes
with_later notes later = record { soon = notes.soon; later = later; room = notes.room }

-- the numbers that were put off are next
abbrev pub turned_over : Notes → Notes
turned_over notes = record { soon = notes.later; later = notes.soon; room = notes.room }
