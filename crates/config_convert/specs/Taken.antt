-- The result of reading a converted text.
use Rattle.std.specs.Prelude.{IsOk}
use Rattle.proxy_config.specs.File.{reading}
use Rattle.config_convert.specs.declared.settling.Tried.{Tried}
use Rattle.config_convert.specs.declared.settling.Tried.TheVariants.{Taken, Faulty}

-- a text that is handed on is one that the reader accepts
abbrev pub IsTried : Tried → Type 0
IsTried (Taken text) = IsOk (reading text.items)
IsTried (Faulty fault) = Unit {0}
