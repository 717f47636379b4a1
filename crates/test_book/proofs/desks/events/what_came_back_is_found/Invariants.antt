use Rattle.locked_book.specs.Books.{terms_for}
use Rattle.test_book.proofs.desks.events.what_came_back_is_found.Given as goal

-- the board that this test opened, and the setup of its dispatcher
abbrev pub ghosts-ask-N-BoardName : goal.ghosts-ask-N-BoardName
ghosts-ask-N-BoardName g a = record { board = a.opened.board; terms = terms_for a.opened.core.setup }

abbrev pub ghosts-ask-N-DeskName : goal.ghosts-ask-N-DeskName
ghosts-ask-N-DeskName g a = record { setup = a.opened.core.setup }
