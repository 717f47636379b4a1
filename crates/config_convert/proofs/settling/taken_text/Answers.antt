-- The reader found no fault in these very bytes.
use Rattle.std.proofs.Common.{IsOk, refl, subst, List, ℕ}
use Rattle.proxy_config.specs.File.{reading}
use Rattle.config_convert.proofs.settling.taken_text.Goals as goal

pub returns-in-None : goal.returns-in-None
returns-in-None c =
    let P : List ℕ → Type 0 = λ bytes. IsOk (reading bytes) in
    subst P c.as_slice.ensures.value ((c.in_ok-fault_of.ensures).0 (rw c.in-None.is refl))
