use Rattle.bench_exchanges.proofs.visits.visit.Given as goal

-- the board that was opened, and its ledger
abbrev pub ghosts-enter-N-BoardName : goal.ghosts-enter-N-BoardName
ghosts-enter-N-BoardName g a = record { board = a.opened.0.now; terms = a.opened.1.view.terms }

abbrev pub ghosts-enter-N-Ledger : goal.ghosts-enter-N-Ledger
ghosts-enter-N-Ledger g a = record { name = a.opened.2.name; parts = a.opened.2.parts }
