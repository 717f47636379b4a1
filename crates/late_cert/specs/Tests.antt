-- A sound report, by tests on one grant after the other.
use Rattle.std.specs.Prelude.{◌≡◌, ◌<◌, ◌==◌, nat_lt, ◌&&◌, not, Bool, true, ℤ, pos, ◌-ℤ◌, int_lt, List, count_by, map, ◌||◌}
use Rattle.std.specs.List.{filter, list_all, list_any}
use Rattle.std.specs.Ordering.{int_eq}
use Rattle.log_reading.specs.Grants.{is_of}
use Rattle.log_reading.specs.declared.grant.SlotGrant.{SlotGrant}
use Rattle.log_reading.specs.declared.grant.Stay.{Stay}
use Rattle.late_cert.specs.Reports.{is_within}
use Rattle.late_cert.specs.declared.report.Report.{Report}

-- a report is about a grant
abbrev pub is_about : Report → SlotGrant → Bool
is_about report grant = is_of report.queue report.class grant

-- the lateness of a grant's slot
abbrev pub late_by : SlotGrant → ℤ
late_by grant = pos grant.moment -ℤ grant.stay.due

-- a grant is no later than the worst, where the report is about it
abbrev pub keeps_worst : Report → SlotGrant → Bool
keeps_worst report grant = not (is_about report grant && int_lt report.worst (late_by grant))

-- a grant is the worst one
abbrev pub is_worst : Report → SlotGrant → Bool
is_worst report grant = is_about report grant && (grant.stay.slot == report.to) && int_eq grant.stay.due report.due && int_eq (late_by grant) report.worst

-- a grant's stay belongs on the list of critical stays
abbrev pub is_listed : Report → SlotGrant → Bool
is_listed report grant = is_about report grant && is_within report.after report.to grant.stay

-- the critical stays
abbrev pub listed_of : Report → List SlotGrant → List Stay
listed_of report grants = map (λ grant. grant.stay) (filter (is_listed report) grants)

-- a stay is due no later than the worst one, and could use only slots after the cut
abbrev pub is_urgent : Report → Stay → Bool
is_urgent report stay = not (int_lt report.due stay.due) && ((report.after == 0) || nat_lt report.after stay.joined)

-- each test of a sound report
pub record PassesEachTest (report : Report) (grants : List SlotGrant) : Type 0 where
  pub granted : report.granted ≡ count_by (is_about report) grants
  pub some : 0 < report.granted
  pub bounded : list_all (keeps_worst report) grants ≡ true
  pub worst : list_any (is_worst report) grants ≡ true
  pub before : report.after < report.to
  pub listed : report.critical ≡ listed_of report grants
  pub urgent : list_all (is_urgent report) report.critical ≡ true
