use Rattle.locked_book.specs.Books.{terms_for}
use Rattle.test_workers.proofs.workers.outcomes.play.Given as goal

-- the board that this test opened, and the setup of its dispatcher
abbrev pub ghosts-work-N-BoardName : goal.ghosts-work-N-BoardName
ghosts-work-N-BoardName g a = record { board = a.opened.board; terms = terms_for a.opened.core.setup }

abbrev pub ghosts-work-N-DeskName : goal.ghosts-work-N-DeskName
ghosts-work-N-DeskName g a = record { setup = a.opened.core.setup }
