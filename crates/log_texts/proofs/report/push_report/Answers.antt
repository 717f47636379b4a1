use Rattle.std.proofs.Common.{◌++◌, codes, ap}
use Rattle.log_texts.specs.Reports.{group_text, worst_text, tickets_text}
use Rattle.log_texts.proofs.Growing.{failed_first, failed_last, regroup, told_as}
use Rattle.log_texts.proofs.report.push_report.Goals as goal

pub returns-in_err-push_claim-clause-err : goal.returns-in_err-push_claim-clause-err
returns-in_err-push_claim-clause-err c = regroup _ _ _ (group_text c.args.names.now c.args.report.now ++ worst_text c.args.report.now) (codes " critical") (tickets_text c.args.report.now.critical) (codes "\n") (failed_first _ _ _ _ c.in_err-push_claim.ensures.err)

pub returns-clause-err : goal.returns-clause-err
returns-clause-err c =
    regroup _ _ _ (group_text c.args.names.now c.args.report.now ++ worst_text c.args.report.now) (codes " critical") (tickets_text c.args.report.now.critical) (codes "\n")
    (failed_last _ _ _ _ _ c.in_ok-push_claim.ensures.ok (
    told_as _ _ _ _ _ (ap (λ l. (codes " critical" ++ tickets_text l) ++ codes "\n") c.as_slice.ensures) c.push_critical.ensures.err))
