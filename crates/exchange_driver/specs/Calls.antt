-- What the last calls of a stream told.
use Rattle.std.specs.Prelude.{Bool, false, Option, None, Some}
use Rattle.exchange_driver.specs.declared.calls.LastRead.{LastRead}
use Rattle.exchange_driver.specs.declared.calls.LastWrite.{LastWrite}
use Rattle.exchange_driver.specs.declared.socket.ReadResult.{ReadResult}
use Rattle.exchange_driver.specs.declared.socket.ReadResult.TheVariants.{Ended}
use Rattle.exchange_driver.specs.declared.socket.WriteResult.{WriteResult}
use Rattle.exchange_driver.specs.declared.socket.WriteResult.TheVariants.{Failed}

-- what a read told; without its word it counts as failed
abbrev pub read_told : Option LastRead → ReadResult
read_told None = Ended false
read_told (Some last) = last.result

-- what a write told; without its word it counts as failed
abbrev pub write_told : Option LastWrite → WriteResult
write_told None = Failed
write_told (Some last) = last.result

-- what a read told, where no signal interrupted it
abbrev pub heard : Option LastRead → Option ReadResult
heard None = None
heard (Some last) = Some last.result

-- what a write told, where no signal interrupted it
abbrev pub said : Option LastWrite → Option WriteResult
said None = None
said (Some last) = Some last.result

-- whether nothing was there at a connection's last read, and whether it was full at the last write
pub record Standing : Type 0 where
  pub is_dry : Bool
  pub is_full : Bool
