-- The counts that a relay's seat keeps.
use Rattle.std.specs.Prelude.{◌≡◌, ℕ, ◌<◌, ◌≤◌, Bool, length, slice_index}
use Rattle.std.specs.List.{AllByRecursion}
use Rattle.grant_board.specs.declared.laws.Word.TheVariants.{Taken}
use Rattle.grant_board.specs.declared.tally.Tally.{Tally}
use Rattle.grant_board.specs.BoardWords.{IsWord}
use Rattle.grant_board.specs.Views.{Grant, count_of}
use Rattle.grant_board.specs.RelayCalls.{Relay}

-- a pass whose place is one of this many words
abbrev pub IsPassOf : ℕ → Grant → Type 0
IsPassOf words g = (g.place < words) × IsWord (Taken g.ticket g.verdict)

-- the counts are those of the seat's passes, and its terms are the board's
pub record IsCounted (r : Relay) (first : Bool) (tally : Tally) : Type 0 where
  pub is_first : first ≡ r.view.first
  pub few_places : r.view.terms.places ≤ 4096
  pub few_servers : length r.view.terms.limits ≤ 64
  pub room : length r.view.passes ≤ r.view.terms.places
  pub passes : AllByRecursion (IsPassOf r.board.words) r.view.passes
  pub all : tally.all ≡ length r.view.passes
  pub of_server : (server : ℕ) → server < 64 → slice_index tally.of_server server ≡ count_of server r.view.passes
