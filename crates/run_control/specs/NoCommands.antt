-- Lines that aren't commands.
use Rattle.std.specs.Prelude.{◌≡◌, ℕ, List, Err}
use Rattle.run_control.specs.Commands.{command_of}
use Rattle.run_control.specs.declared.pieces.Misfit.{Misfit}
use Rattle.proxy_words.specs.Text.{words}

-- a line isn't a command, for this reason
abbrev pub IsMisfit : List ℕ → Misfit → Type 0
IsMisfit line misfit = command_of (words line) ≡ Err misfit
