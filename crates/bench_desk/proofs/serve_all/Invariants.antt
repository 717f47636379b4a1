use Rattle.locked_book.specs.Books.{terms_for}
use Rattle.bench_desk.proofs.serve_all.Given as goal

-- the board that was opened, and the setup of its dispatcher
abbrev pub ghosts-one-N-BoardName : goal.ghosts-one-N-BoardName
ghosts-one-N-BoardName g a = record { board = a.opened.board; terms = terms_for a.opened.core.setup }

abbrev pub ghosts-one-N-DeskName : goal.ghosts-one-N-DeskName
ghosts-one-N-DeskName g a = record { setup = a.opened.core.setup }

abbrev pub ghosts-four-N-BoardName : goal.ghosts-four-N-BoardName
ghosts-four-N-BoardName g a = record { board = a.opened.board; terms = terms_for a.opened.core.setup }

abbrev pub ghosts-four-N-DeskName : goal.ghosts-four-N-DeskName
ghosts-four-N-DeskName g a = record { setup = a.opened.core.setup }
