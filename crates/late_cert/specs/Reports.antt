-- The claims of a report on a window, and when they hold.
use Rattle.std.specs.Prelude.{◌≡◌, ℕ, ◌<◌, nat_lt, nat_le, ◌&&◌, ◌||◌, ℤ, ◌≤ℤ◌, ◌<ℤ◌, int_lt}
use Rattle.std.specs.Prelude.{Bool, true, false, IsTrue, List, [], ◌∷◌, ◌++◌, length, map, None}
use Rattle.std.specs.List.{AllByRecursion, Contains, filter, list_any, last_or}
use Rattle.std.specs.Option.{unwrap_or}
use Rattle.log_reading.specs.Windows.{Window}
use Rattle.log_entries.specs.declared.queue.Queue.{Queue}
use Rattle.log_entries.specs.declared.queue.Queue.TheVariants.{Backend, Server}
use Rattle.log_entries.specs.Rows.{same_queue}
use Rattle.log_reading.specs.Grants.{is_of, grants, stays}
use Rattle.log_reading.specs.declared.grant.SlotGrant.{SlotGrant}
use Rattle.log_reading.specs.declared.grant.Stay.{Stay}
use Rattle.late_cert.specs.Lateness.{own_lateness, own_slots, latenesses, greatest, IsAssignment}
use Rattle.late_cert.specs.declared.report.Report.{Report}

-- the stays that a report is about
abbrev pub stays_of : Window → Report → List Stay
stays_of window report = stays window report.queue report.class

-- a stay's slot lies after a cut and no later than an end
abbrev pub is_within : ℕ → ℕ → Stay → Bool
is_within after to stay = nat_lt after stay.slot && nat_le stay.slot to

-- one of the stays is the worst: it has the report's slot, due date and lateness
pub record HasWorst (window : Window) (stays : List Stay) (report : Report) : Type 0 where
  pub stay : Stay
  pub member : Contains stays stay
  pub slot : stay.slot ≡ report.to
  pub due : stay.due ≡ report.due
  pub late : own_lateness window stay ≡ report.worst

-- a critical stay is due no later than the worst one, and could use only slots after the cut: it
-- joined after the cut, or the cut is 0
pub record IsCritical (report : Report) (stay : Stay) : Type 0 where
  pub due : stay.due ≤ℤ report.due
  pub joined : 0 < report.after → report.after < stay.joined

-- a sound report: its number of stays is right, none is later than the worst, which is one of them;
-- and the critical stays are exactly those with slots after the cut up to the worst one's
pub record IsSoundFor (window : Window) (stays : List Stay) (report : Report) : Type 0 where
  pub granted : report.granted ≡ length stays
  pub some : 0 < report.granted
  pub bounded : AllByRecursion (λ stay. own_lateness window stay ≤ℤ report.worst) stays
  pub worst : HasWorst window stays report
  pub before : report.after < report.to
  pub listed : report.critical ≡ filter (is_within report.after report.to) stays
  pub critical : AllByRecursion (IsCritical report) report.critical

abbrev pub IsSoundReport : Window → Report → Type 0
IsSoundReport window report = IsSoundFor window (stays_of window report) report

-- no assignment of the slots has a smaller greatest lateness than the worst, and the log's own
-- assignment has exactly that
pub record IsLeastFor (window : Window) (stays : List Stay) (report : Report) : Type 0 where
  pub own : IsAssignment stays (own_slots stays)
  pub reached : greatest (latenesses window stays (own_slots stays)) ≡ report.worst
  pub least : (slots : List ℕ) → IsAssignment stays slots → report.worst ≤ℤ greatest (latenesses window stays slots)

abbrev pub IsLeast : Window → Report → Type 0
IsLeast window report = IsLeastFor window (stays_of window report) report

-- the slots of those of some stays that are due later than a date, in order
abbrev pub slots_due_after : ℤ → List Stay → List ℕ
slots_due_after due stays = map (λ stay. stay.slot) (filter (λ stay. int_lt due stay.due) stays)

-- the last of these slots; 0 where there is none
abbrev pub last_cut : ℤ → List Stay → ℕ
last_cut due stays = unwrap_or (last_or None (slots_due_after due stays)) 0

-- the worst stay is the first of the latest ones, and the cut is the last slot before it of a stay that is due later
pub record IsFirstWorst (window : Window) (stays : List Stay) (report : Report) : Type 0 where
  pub earlier : List Stay
  pub stay : Stay
  pub later : List Stay
  pub parts : stays ≡ earlier ++ stay ∷ later
  pub less : AllByRecursion (λ it. own_lateness window it <ℤ report.worst) earlier
  pub late : own_lateness window stay ≡ report.worst
  pub not_more : AllByRecursion (λ it. own_lateness window it ≤ℤ report.worst) later
  pub slot : report.to ≡ stay.slot
  pub due : report.due ≡ stay.due
  pub after : report.after ≡ last_cut report.due earlier

-- the chosen report: it names the first of the worst stays and the last of the cuts
pub record IsChosenFor (window : Window) (stays : List Stay) (report : Report) : Type 0 where
  pub granted : report.granted ≡ length stays
  pub worst : IsFirstWorst window stays report
  pub critical : report.critical ≡ filter (is_within report.after report.to) stays

abbrev pub IsChosenReport : Window → Report → Type 0
IsChosenReport window report = IsChosenFor window (stays_of window report) report

-- a queue comes before another: the backend's first, then the servers' in order
abbrev pub queue_before : Queue → Queue → Bool
queue_before Backend (Server server) = true
queue_before (Server server) (Server other) = nat_lt server other
queue_before queue Backend = false

-- a queue and class come before others: by queue, and in one queue by rising class
abbrev pub comes_before : Queue → ℤ → Queue → ℤ → Bool
comes_before queue class other higher = queue_before queue other || (same_queue queue other && int_lt class higher)

-- each report comes before all later ones
abbrev pub AreAscending : List Report → Type 0
AreAscending [] = Unit {0}
AreAscending (report ∷ reports) =
    AllByRecursion (λ later. IsTrue (comes_before report.queue report.class later.queue later.class)) reports × AreAscending reports

-- one of these reports is about a grant
abbrev pub is_covered : List Report → SlotGrant → Bool
is_covered reports grant = list_any (λ report. is_of report.queue report.class grant) reports

-- the reports of a log: the chosen one for each queue and class with a grant, and no others, in order
pub record AreReports (window : Window) (reports : List Report) : Type 0 where
  pub chosen : AllByRecursion (IsChosenReport window) reports
  pub ascending : AreAscending reports
  pub complete : AllByRecursion (λ grant. IsTrue (is_covered reports grant)) (grants window)
