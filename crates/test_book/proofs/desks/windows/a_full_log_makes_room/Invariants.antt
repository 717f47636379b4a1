use Rattle.locked_book.specs.Books.{terms_for}
use Rattle.test_book.proofs.desks.windows.a_full_log_makes_room.Given as goal

-- the board that this test opened, and the setup of its dispatcher
abbrev pub ghosts-fill-N-BoardName : goal.ghosts-fill-N-BoardName
ghosts-fill-N-BoardName g a = record { board = a.opened.board; terms = terms_for a.opened.core.setup }

abbrev pub ghosts-fill-N-DeskName : goal.ghosts-fill-N-DeskName
ghosts-fill-N-DeskName g a = record { setup = a.opened.core.setup }
