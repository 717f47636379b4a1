use Rattle.std.proofs.Common.{sym, ap, subst, Result}
use Rattle.proxy_config.specs.Resolved.{Resolved}
use Rattle.proxy_config.specs.declared.faults.ConfigFault.{ConfigFault}
use Rattle.proxy_config.specs.File.{FileAnswers, finished}
use Rattle.proxy_config.proofs.OnePass.{settled_known, settled_whole}
use Rattle.proxy_config.proofs.progress.Progress.finish.Goals as goal

pub returns-in-Some : goal.returns-in-Some
returns-in-Some c = ap finished (settled_known _ c.args.self _ _ c.in_ok-pins.ensures c.in-Some.is)

pub returns-in-None : goal.returns-in-None
returns-in-None c =
    subst (λ (read : Result Resolved ConfigFault). FileAnswers c.whole.result (finished read))
    (sym (settled_whole _ c.args.self _ c.in_ok-pins.ensures c.in-None.is)) c.whole.ensures
