use Rattle.std.proofs.Common.{◌∙◌, refl, sym}
use Rattle.exchange_machine.proofs.SideLemmas.{forwarding_told, leave_kept}
use Rattle.exchange_machine.proofs.forwarding.Forwarding.client_took.Goals as goal

pub returns-clause-took : goal.returns-clause-took
returns-clause-took c h is =
    let told = c.leave_told-begun.ensures in
    forwarding_told c.args.self.now _ h c.args.count is c.went.ensures.out c.went.ensures.coding
    (λ none.
    let kept = leave_kept c.args.self.now.begun c.args.self.now.leave_left c.args.count (sym told.0 ∙ none) in
    (kept.0, kept.1, told.1))
    refl
