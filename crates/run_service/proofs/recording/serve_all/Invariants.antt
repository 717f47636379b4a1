use Rattle.run_service.proofs.recording.serve_all.Given as goal

-- the board that was opened, and the setup of the dispatcher that was made
abbrev pub ghosts-serve_on-N-BoardName : goal.ghosts-serve_on-N-BoardName
ghosts-serve_on-N-BoardName g a = record { board = a.parts.board; terms = a.parts.relay.view.terms }

abbrev pub ghosts-serve_on-N-DeskName : goal.ghosts-serve_on-N-DeskName
ghosts-serve_on-N-DeskName g a = record { setup = a.parts.core.setup }

abbrev pub ghosts-serve_on-N-Ledger : goal.ghosts-serve_on-N-Ledger
ghosts-serve_on-N-Ledger g a = record { name = a.parts.ledger.name; parts = a.parts.ledger.parts }
