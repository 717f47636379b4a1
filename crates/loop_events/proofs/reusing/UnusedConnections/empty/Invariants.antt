use Rattle.std.proofs.Common.{◌≡◌, [], ℕ, length}
use Rattle.loop_events.specs.Shelves.{shelf_at}
use Rattle.loop_events.proofs.reusing.UnusedConnections.empty.Given as goal

-- there are as many shelves so far as passes, and each is empty
abbrev pub invariant-loop : goal.invariant-loop
invariant-loop l = ((server : ℕ) → shelf_at l.shelves.items server ≡ []) × (length l.shelves.items ≡ l.counter)
