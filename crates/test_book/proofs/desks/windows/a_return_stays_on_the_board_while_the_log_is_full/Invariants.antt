use Rattle.locked_book.specs.Books.{terms_for}
use Rattle.test_book.proofs.desks.windows.a_return_stays_on_the_board_while_the_log_is_full.Given as goal

-- the board that this test opened, and the setup of its dispatcher
abbrev pub ghosts-leave_one-N-BoardName : goal.ghosts-leave_one-N-BoardName
ghosts-leave_one-N-BoardName g a = record { board = a.opened.board; terms = terms_for a.opened.core.setup }

abbrev pub ghosts-leave_one-N-DeskName : goal.ghosts-leave_one-N-DeskName
ghosts-leave_one-N-DeskName g a = record { setup = a.opened.core.setup }
