use Rattle.locked_book.specs.Books.{terms_for}
use Rattle.test_book.proofs.desks.events.each_is_told.Given as goal

-- the board that this test opened, and the setup of its dispatcher
abbrev pub ghosts-each_event-N-BoardName : goal.ghosts-each_event-N-BoardName
ghosts-each_event-N-BoardName g a = record { board = a.opened.board; terms = terms_for a.opened.core.setup }

abbrev pub ghosts-each_event-N-DeskName : goal.ghosts-each_event-N-DeskName
ghosts-each_event-N-DeskName g a = record { setup = a.opened.core.setup }
