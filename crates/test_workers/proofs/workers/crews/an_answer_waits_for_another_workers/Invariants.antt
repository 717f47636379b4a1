use Rattle.locked_book.specs.Books.{terms_for}
use Rattle.test_workers.proofs.workers.crews.an_answer_waits_for_another_workers.Given as goal

-- the board that this test opened, and the setup of its dispatcher
abbrev pub ghosts-serve_two-N-BoardName : goal.ghosts-serve_two-N-BoardName
ghosts-serve_two-N-BoardName g a = record { board = a.opened.board; terms = terms_for a.opened.core.setup }

abbrev pub ghosts-serve_two-N-DeskName : goal.ghosts-serve_two-N-DeskName
ghosts-serve_two-N-DeskName g a = record { setup = a.opened.core.setup }
