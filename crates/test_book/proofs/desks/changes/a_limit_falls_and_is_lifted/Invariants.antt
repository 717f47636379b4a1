use Rattle.locked_book.specs.Books.{terms_for}
use Rattle.test_book.proofs.desks.changes.a_limit_falls_and_is_lifted.Given as goal

-- the board that this test opened, and the setup of its dispatcher
abbrev pub ghosts-change_limits-N-BoardName : goal.ghosts-change_limits-N-BoardName
ghosts-change_limits-N-BoardName g a = record { board = a.opened.board; terms = terms_for a.opened.core.setup }

abbrev pub ghosts-change_limits-N-DeskName : goal.ghosts-change_limits-N-DeskName
ghosts-change_limits-N-DeskName g a = record { setup = a.opened.core.setup }
