use Rattle.test_board.proofs.lending.seats_come_back.Given as goal

-- the board that this test opened, and its ledger
abbrev pub ghosts-lend_two-N-BoardName : goal.ghosts-lend_two-N-BoardName
ghosts-lend_two-N-BoardName g a = record { board = a.board.now; terms = a.seats.0.view.terms }

abbrev pub ghosts-lend_two-N-Ledger : goal.ghosts-lend_two-N-Ledger
ghosts-lend_two-N-Ledger g a = record { name = a.blank.name; parts = a.blank.parts }
