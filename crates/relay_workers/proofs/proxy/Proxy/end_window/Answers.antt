use Rattle.std.proofs.Common.{Result, subst}
use Rattle.std.specs.declared.alloc.AllocError.{AllocError}
use Rattle.dispatch_reports.specs.declared.reporting.EndedWindow.{EndedWindow}
use Rattle.shared_desk.specs.Answers.{AnswersRoll}
use Rattle.relay_workers.proofs.proxy.Proxy.end_window.Goals as goal

pub returns-in-Ok-clause-ok : goal.returns-in-Ok-clause-ok
returns-in-Ok-clause-ok g c = (
  c.in-Ok.window,
  c.roll-ended.result.1,
  subst (λ (it : Result EndedWindow AllocError). AnswersRoll g.N.BoardName.terms g.N.DeskName.setup it c.roll-ended.result.1) c.in-Ok.is c.roll-ended.ensures.answer,
  c.window.ensures.told,
)
