-- The parts of a desk.
use Rattle.std.specs.Prelude.{◌≡◌, [], length, true}
use Rattle.log_entries.specs.declared.setup.Setup.{Setup}
use Rattle.log_entries.specs.Histories.{first_window}
use Rattle.grant_board.specs.KeeperCalls.{new_keeper}
use Rattle.grant_board.specs.RelayCalls.{new_relay}
use Rattle.locked_book.specs.Books.{terms_for}
use Rattle.run_parts.specs.declared.parts.Parts.{Parts}
use Rattle.dispatch_reports.specs.Reporting.{IsNew}

-- the parts of a fresh dispatcher with this setup, and fresh seats of one board
pub record AreNew (setup : Setup) (parts : Parts) : Type 0 where
  pub core : parts.core ≡ first_window setup []
  pub running : IsNew parts.running (length setup.servers)
  pub keeper : parts.keeper ≡ record { board = parts.board; view = new_keeper (terms_for setup) }
  pub relay : parts.relay ≡ record { board = parts.board; view = new_relay (terms_for setup) true }
