use Rattle.std.proofs.Common.{◌≡◌, ◌<◌, ◌-◌, ℕ, None, Some, length, replicate, slice_get, vec_capacity}
use Rattle.slot_ledger.proofs.places.Places.new.Given as goal

-- the free places so far, the lowest last
abbrev pub invariant-loop-place : goal.invariant-loop-place
invariant-loop-place g l = record {
  cells : l.cells.items ≡ replicate l.place None;
  room : vec_capacity l.cells ≡ l.places;
  vacant : length l.vacant.items ≡ l.place;
  each : (at : ℕ) → at < l.place → slice_get l.vacant.items at ≡ Some (l.places - 1 - at);
  vacant_room : vec_capacity l.vacant ≡ l.places;
}
