use Rattle.test_board.proofs.seats.passes_are_posted_by_other_threads.Given as goal

-- the board that this test opened
abbrev pub ghosts-posted : goal.ghosts-posted
ghosts-posted g a = record { board = a.board.now; terms = a.first.view.terms }
