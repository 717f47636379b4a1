use Rattle.std.proofs.Common.{◌∙◌, ap}
use Rattle.exchange_seated.proofs.linked.Linked.granted.Goals as goal

pub returns-clause-dials : goal.returns-clause-dials
returns-clause-dials g c h waits =
    let dials = c.grant.ensures.dials h waits in
    (dials.0, ap (λ s. s.exchange) c.without_line.ensures.seated ∙ dials.1, dials.2)
