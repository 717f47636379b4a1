use Rattle.locked_book.specs.Books.{terms_for}
use Rattle.test_book.proofs.desks.windows.who_waits_joined_at_the_base.Given as goal

-- the board that this test opened, and the setup of its dispatcher
abbrev pub ghosts-roll_once-N-BoardName : goal.ghosts-roll_once-N-BoardName
ghosts-roll_once-N-BoardName g a = record { board = a.opened.board; terms = terms_for a.opened.core.setup }

abbrev pub ghosts-roll_once-N-DeskName : goal.ghosts-roll_once-N-DeskName
ghosts-roll_once-N-DeskName g a = record { setup = a.opened.core.setup }
