use Rattle.std.proofs.Common.{Option, ℕ, ◌<◌, ◌++◌, ◌∷◌, [], List, subst, sym, arith, append_assoc}
use Rattle.std.proofs.lemmas.List.{append-nil}
use Rattle.std.proofs.lemmas.List.Sums.{prefix_len-le-length}
use Rattle.log_reading.specs.Grants.{is_of}
use Rattle.log_reading.specs.declared.grant.SlotGrant.{SlotGrant}
use Rattle.late_cert.specs.Groups.{AreGroups}
use Rattle.late_cert.specs.declared.report.Report.{Report}
use Rattle.late_cert.proofs.Grouped.{one_more, some_group, no_group}
use Rattle.late_cert.proofs.making.reports_of.Goals as goal

pub split_at-requires : goal.split_at-requires
split_at-requires c =
    let g = c.in-Some.first.now in
    omega (arith, c.group_len.ensures, prefix_len-le-length (is_of g.queue g.class) c.groups.rest.now)

pub groups-preserved : goal.groups-preserved
groups-preserved c = λ more rest.
    let g = c.in-Some.first.now in
    let r = c.in_ok-report_of.field-0 in
    let some : 0 < c.group_len.result = subst (λ n. 0 < n) (sym {A = ℕ} c.group_len.ensures)
    (some_group c.groups.rest.now g (sym {A = Option SlotGrant} c.in-Some.ensures.value)) in
    let all : AreGroups c.args.grants.now (c.groups.reports.items ++ r ∷ more) = c.groups.invariant (r ∷ more)
    (one_more c.groups.rest.now c.split_at.result.0.now c.split_at.result.1.now g.queue g.class c.group_len.result r more c.group_len.ensures some
    c.split_at.ensures.front c.split_at.ensures.back c.in_ok-report_of.ensures.report c.in_ok-report_of.ensures.queue c.in_ok-report_of.ensures.class rest)
    in
    subst (λ (l : List Report). AreGroups c.args.grants.now (l ++ more)) (sym c.in_ok-push.ensures.items)
    (subst (AreGroups c.args.grants.now) (sym (append_assoc c.groups.reports.items (r ∷ []) more)) all)

pub returns : goal.returns
returns c = subst (AreGroups c.args.grants.now) (append-nil c.groups.reports.items)
    (c.groups.invariant [] (no_group c.groups.rest.now (sym c.in_default.ensures.value)))
