use Rattle.std.proofs.Common.{◌≡◌, ◌↔◌, ◌≤◌, length, drop}
use Rattle.late_cert.specs.Tests.{listed_of}
use Rattle.late_cert.proofs.check.lists.Given as goal

abbrev pub invariant-loop-grant : goal.invariant-loop-grant
invariant-loop-grant l = record {
  so_far : l.next ≤ length l.stays;
  rest : (drop l.next l.stays ≡ listed_of l.report (drop l.grant-index l.grants)) ↔ (l.stays ≡ listed_of l.report l.grants);
}
