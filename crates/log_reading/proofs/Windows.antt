-- The window that a log records.
use Rattle.std.proofs.Common.{◌≡◌}
use Rattle.log_entries.specs.Histories.{History}
use Rattle.log_entries.specs.Logs.{Recorded}
use Rattle.log_reading.specs.Windows.{window_in, window_of}

-- a log with a history's base and entries records its window
pub same_window : (log : Recorded) (h : History) → log.base ≡ h.base → log.entries ≡ h.log → window_of log ≡ window_in h
same_window log h base entries = cc
