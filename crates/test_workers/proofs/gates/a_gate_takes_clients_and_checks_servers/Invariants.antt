use Rattle.locked_book.specs.Books.{terms_for}
use Rattle.test_workers.proofs.gates.a_gate_takes_clients_and_checks_servers.Given as goal

-- the board that this test opened, and the setup of its dispatcher
abbrev pub ghosts-asks_anew-N-BoardName : goal.ghosts-asks_anew-N-BoardName
ghosts-asks_anew-N-BoardName g a = record { board = a.opened.board; terms = terms_for a.opened.core.setup }

abbrev pub ghosts-asks_anew-N-DeskName : goal.ghosts-asks_anew-N-DeskName
ghosts-asks_anew-N-DeskName g a = record { setup = a.opened.core.setup }
