-- What is answered is the text that the reader took.
use Rattle.std.proofs.Common.{IsOk, subst, sym, Vec, Global, ℕ}
use Rattle.proxy_config.specs.File.{reading}
use Rattle.config_convert.specs.Taken.{IsTried}
use Rattle.config_convert.proofs.settling.settle.Goals as goal

pub returns-in-Taken : goal.returns-in-Taken
returns-in-Taken c =
    let P : Vec ℕ Global → Type 0 = λ text. IsOk (reading text.items) in
    record { taken = subst P (sym c.conversion_of.ensures) (subst IsTried c.in-Taken.is c.in_ok-text.ensures) }
