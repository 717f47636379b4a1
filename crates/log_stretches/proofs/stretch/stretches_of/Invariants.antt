use Rattle.std.proofs.Common.{◌≡◌, ◌++◌, List, length}
use Rattle.std.specs.BTreeMap.{get}
use Rattle.std.specs.Ordering.{nat_cmp}
use Rattle.log_entries.specs.declared.entry.Entry.{Entry}
use Rattle.log_stretches.specs.ReadBack.{AreReadBack}
use Rattle.log_stretches.proofs.stretch.stretches_of.Given as goal

-- the entries behind those that are left are read
abbrev pub invariant-entries : goal.invariant-entries
invariant-entries l = (later : List Entry) × (l.entries ≡ l.rest ++ later) × AreReadBack (length l.rest) later (get nat_cmp l.next) l.stretches.items

abbrev pub decreases-entries : goal.decreases-entries
decreases-entries l = length l.rest
