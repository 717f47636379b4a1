use Rattle.locked_book.specs.Books.{terms_for}
use Rattle.test_book.proofs.books.a_slot_is_handed_on.Given as goal

-- the board that this test opened, and the setup of its dispatcher
abbrev pub ghosts-keep_book-N-BoardName : goal.ghosts-keep_book-N-BoardName
ghosts-keep_book-N-BoardName g a = record { board = a.opened.0; terms = terms_for a.core.setup }

abbrev pub ghosts-keep_book-N-DeskName : goal.ghosts-keep_book-N-DeskName
ghosts-keep_book-N-DeskName g a = record { setup = a.core.setup }
