use Rattle.locked_book.specs.Books.{terms_for}
use Rattle.test_book.proofs.desks.overtaking.overtaking_through_a_desk.Given as goal

-- the board that this test opened, and the setup of its dispatcher
abbrev pub ghosts-overtake_once-N-BoardName : goal.ghosts-overtake_once-N-BoardName
ghosts-overtake_once-N-BoardName g a = record { board = a.opened.board; terms = terms_for a.opened.core.setup }

abbrev pub ghosts-overtake_once-N-DeskName : goal.ghosts-overtake_once-N-DeskName
ghosts-overtake_once-N-DeskName g a = record { setup = a.opened.core.setup }
