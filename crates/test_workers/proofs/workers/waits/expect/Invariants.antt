use Rattle.locked_book.specs.Books.{terms_for}
use Rattle.test_workers.proofs.workers.waits.expect.Given as goal

-- the board that this test opened, and the setup of its dispatcher
abbrev pub ghosts-work_behind-N-BoardName : goal.ghosts-work_behind-N-BoardName
ghosts-work_behind-N-BoardName g a = record { board = a.opened.board; terms = terms_for a.opened.core.setup }

abbrev pub ghosts-work_behind-N-DeskName : goal.ghosts-work_behind-N-DeskName
ghosts-work_behind-N-DeskName g a = record { setup = a.opened.core.setup }
