use Rattle.locked_book.specs.Books.{terms_for}
use Rattle.test_book.proofs.desks.redispatch.the_worst_is_not_the_last.Given as goal

-- the board that this test opened, and the setup of its dispatcher
abbrev pub ghosts-fall_once-N-BoardName : goal.ghosts-fall_once-N-BoardName
ghosts-fall_once-N-BoardName g a = record { board = a.opened.board; terms = terms_for a.opened.core.setup }

abbrev pub ghosts-fall_once-N-DeskName : goal.ghosts-fall_once-N-DeskName
ghosts-fall_once-N-DeskName g a = record { setup = a.opened.core.setup }
