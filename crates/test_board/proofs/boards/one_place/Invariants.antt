use Rattle.test_board.proofs.boards.one_place.Given as goal

-- the board that this test opened
abbrev pub ghosts-serve_named : goal.ghosts-serve_named
ghosts-serve_named g a = record { board = a.board.now; terms = a.seat.now.view.terms }
