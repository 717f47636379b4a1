use Rattle.locked_book.specs.Books.{terms_for}
use Rattle.test_book.proofs.desks.memory.a_refused_growth_changes_no_desk.Given as goal

-- the board that this test opened, and the setup of its dispatcher
abbrev pub ghosts-use_up_one-N-BoardName : goal.ghosts-use_up_one-N-BoardName
ghosts-use_up_one-N-BoardName g a = record { board = a.opened.board; terms = terms_for a.opened.core.setup }

abbrev pub ghosts-use_up_one-N-DeskName : goal.ghosts-use_up_one-N-DeskName
ghosts-use_up_one-N-DeskName g a = record { setup = a.opened.core.setup }
