use Rattle.std.proofs.Common.{ℕ, ◌<◌, ◌≤◌, ◌-◌, ◌⊎◌, ◌↔◌}
use Rattle.base_places.specs.Sets.{Has}
use Rattle.run_gate.proofs.gate.add_all.Given as goal

-- the places below a number are added
abbrev pub invariant-loop-place : goal.invariant-loop-place
invariant-loop-place l = (l.from ≤ 4096) × ((place : ℕ) → Has l.set place ↔ (Has l.fn.set place ⊎ ((place < l.from) × Has l.fn.places place)))

abbrev pub decreases-loop-place : goal.decreases-loop-place
decreases-loop-place l = 4096 - l.from
