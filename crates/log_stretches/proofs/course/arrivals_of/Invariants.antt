use Rattle.std.proofs.Common.{◌≡◌, ℕ, take}
use Rattle.std.specs.BTreeMap.{get}
use Rattle.std.specs.Ordering.{nat_cmp}
use Rattle.log_stretches.specs.Courses.{came_in}
use Rattle.log_stretches.proofs.course.arrivals_of.Given as goal

-- the arrivals so far
abbrev pub invariant-loop-entry : goal.invariant-loop-entry
invariant-loop-entry l = (ticket : ℕ) → get nat_cmp l.arrivals ticket ≡ came_in (take l.entry-index l.entries) ticket
