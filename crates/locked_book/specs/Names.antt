-- The setup of a dispatcher that doesn't exist.
use Rattle.std.specs.Prelude.{[], false}
use Rattle.log_entries.specs.declared.setup.Setup.{Setup}

abbrev pub no_setup : Setup
no_setup = record { servers = []; places = 0; log = 0; retries = 0; redispatch = false; queue_timeout = 0 }
