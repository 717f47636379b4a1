use Rattle.locked_book.specs.Books.{terms_for}
use Rattle.test_workers.proofs.workers.checks.check_with.Given as goal

-- the board that this test opened, and the setup of its dispatcher
abbrev pub ghosts-down_and_up-N-BoardName : goal.ghosts-down_and_up-N-BoardName
ghosts-down_and_up-N-BoardName g a = record { board = a.opened.board; terms = terms_for a.opened.core.setup }

abbrev pub ghosts-down_and_up-N-DeskName : goal.ghosts-down_and_up-N-DeskName
ghosts-down_and_up-N-DeskName g a = record { setup = a.opened.core.setup }
