use Rattle.std.proofs.Common.{◌≡◌, take}
use Rattle.log_reading.specs.Grants.{moment_of}
use Rattle.log_stretches.specs.Courses.{AreMoments}
use Rattle.log_stretches.proofs.course.moments_of.Given as goal

-- the moments so far
abbrev pub invariant-loop-entry : goal.invariant-loop-entry
invariant-loop-entry l = record {
  timed : AreMoments (take l.entry-index l.entries) l.moments.items;
  last_is : l.last ≡ moment_of (take l.entry-index l.entries);
}
