use Rattle.locked_book.specs.Books.{terms_for}
use Rattle.test_book.proofs.desks.threads.a_crowd_of_requests.Given as goal

-- the board that this test opened, and the setup of its dispatcher
abbrev pub ghosts-four_come-N-BoardName : goal.ghosts-four_come-N-BoardName
ghosts-four_come-N-BoardName g a = record { board = a.opened.board; terms = terms_for a.opened.core.setup }

abbrev pub ghosts-four_come-N-DeskName : goal.ghosts-four_come-N-DeskName
ghosts-four_come-N-DeskName g a = record { setup = a.opened.core.setup }
