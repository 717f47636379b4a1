-- The reports of grants that are sorted by queue and class.
use Rattle.std.specs.Prelude.{◌≡◌, ℕ, ◌<◌, Bool, int_lt, List, [], ◌∷◌, length, take, drop, map, Some, slice_get}
use Rattle.std.specs.List.{filter, prefix_len, IsFirstBest}
use Rattle.log_reading.specs.declared.grant.SlotGrant.{SlotGrant}
use Rattle.late_cert.specs.Reports.{is_within, last_cut, comes_before}
use Rattle.late_cert.specs.Tests.{is_about, late_by}
use Rattle.late_cert.specs.declared.report.Report.{Report}

-- a grant's report comes before another's
abbrev pub is_before : SlotGrant → SlotGrant → Bool
is_before grant other = comes_before grant.queue grant.class other.queue other.class

-- a grant is later than another
abbrev pub is_later : SlotGrant → SlotGrant → Bool
is_later grant other = int_lt (late_by other) (late_by grant)

-- a report on all of these grants, whose worst is the first of the latest ones
pub record IsReportOf (group : List SlotGrant) (report : Report) : Type 0 where
  pub at : ℕ
  pub grant : SlotGrant
  pub stands : slice_get group at ≡ Some grant
  pub first : IsFirstBest is_later group (length group) at
  pub granted : report.granted ≡ length group
  pub worst : report.worst ≡ late_by grant
  pub due : report.due ≡ grant.stay.due
  pub to : report.to ≡ grant.stay.slot
  pub after : report.after ≡ last_cut grant.stay.due (map (λ it. it.stay) (take at group))
  pub critical : report.critical ≡ map (λ it. it.stay) (filter (λ it. is_within report.after report.to it.stay) group)

-- a report for each group: the first report is about the grants at the front of the list, and so on with the rest
abbrev pub AreGroups : List SlotGrant → List Report → Type 0
AreGroups grants [] = grants ≡ []
AreGroups grants (report ∷ reports) =
    (0 < prefix_len (is_about report) grants)
    × IsReportOf (take (prefix_len (is_about report) grants) grants) report
    × AreGroups (drop (prefix_len (is_about report) grants) grants) reports
