use Rattle.std.proofs.Common.{◌≡◌, ℤ, take}
use Rattle.late_cert.specs.Running.{IsWorstAmong, has_class_room}
use Rattle.late_cert.proofs.table.Running.granted_from.Given as goal

abbrev pub invariant-loop-number : goal.invariant-loop-number
invariant-loop-number l = record {
  worst : IsWorstAmong (take l.number l.grants) l.self;
  room : (class : ℤ) → has_class_room l.self class ≡ has_class_room l.initial.self class;
  servers : l.self.servers ≡ l.initial.self.servers;
}
