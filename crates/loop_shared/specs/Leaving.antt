-- Whether a client has left.
use Rattle.std.specs.Prelude.{Bool, ◌||◌, ◌&&◌}
use Rattle.proxy_config.specs.declared.parts.Config.{Config}
use Rattle.run_gate.specs.Polls.{tells_failure, tells_end}
use Rattle.run_gate.specs.declared.leaving.Told.{Told}

-- its connection failed or, under `option abortonclose`, it sends no more
abbrev pub tells_leaving : Config → Told → Bool
tells_leaving config told = tells_failure told.bits || (config.abortonclose && tells_end told.bits)
