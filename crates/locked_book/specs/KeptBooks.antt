-- A book: a dispatcher's history, and the keeper's view of its board.
use Rattle.std.specs.Prelude.{◌≡◌}
use Rattle.atomic_table.specs.Seated.{TableId}
use Rattle.grant_board.specs.Views.{Terms}
use Rattle.grant_board.specs.KeeperCalls.{Keeper}
use Rattle.log_entries.specs.declared.setup.Setup.{Setup}
use Rattle.log_entries.specs.Histories.{History}
use Rattle.locked_book.specs.Books.{IsBook}

-- its seat is of the board with this name and terms, its dispatcher has this setup, and the dispatcher and the seat are a book
pub record IsKeptBook (board : TableId) (terms : Terms) (setup : Setup) (history : History) (keeper : Keeper) : Type 0 where
  pub named : keeper.board ≡ board
  pub of_terms : keeper.view.terms ≡ terms
  pub of_setup : history.setup ≡ setup
  pub book : IsBook history keeper.view
