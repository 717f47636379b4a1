use Rattle.std.proofs.Common.{List, subst, sym}
use Rattle.std.specs.List.Sorted.{IsPermutation, IsStableBy}
use Rattle.log_reading.specs.declared.grant.SlotGrant.{SlotGrant}
use Rattle.log_reading.specs.Windows.{window_of}
use Rattle.late_cert.specs.Groups.{is_before, AreGroups}
use Rattle.late_cert.specs.Reports.{AreReports}
use Rattle.late_cert.proofs.Grouped.{certified}
use Rattle.late_cert.proofs.making.certify.Goals as goal

pub returns : goal.returns
returns c =
    let sorted = c.in_ok-sorted.sorted.items in
    let log = window_of c.args.log.now in
    subst (AreReports log) (sym c.from_vec.ensures)
    (certified log sorted c.in_ok-reports_of.field-0.items c.grants.ensures.readable
    (subst (λ (l : List SlotGrant). IsPermutation l sorted) c.grants.ensures.grants c.in_ok-sorted.ensures.permutation)
    c.in_ok-sorted.ensures.sorted
    (subst (λ (l : List SlotGrant). IsStableBy is_before l sorted) c.grants.ensures.grants c.in_ok-sorted.ensures.stable)
    (subst (λ (l : List SlotGrant). AreGroups l c.in_ok-reports_of.field-0.items) c.as_slice.ensures.value c.in_ok-reports_of.ensures))
