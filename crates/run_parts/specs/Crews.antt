-- The crew of a service.
use Rattle.std.specs.Prelude.{◌≡◌, IfSome}
use Rattle.run_parts.specs.declared.crew.Crew.{Crew}
use Rattle.run_parts.specs.declared.limits.RunLimits.{RunLimits}

-- as many clients, places, loops and requests beyond the places as were asked for, where they were
abbrev pub IsCrewFor : RunLimits → Crew → Type 0
IsCrewFor sizes crew =
    (crew.requests ≡ sizes.requests) × (crew.threads.places ≡ sizes.places)
    × IfSome sizes.loops (λ loops. crew.threads.loops ≡ loops) × IfSome sizes.waiting (λ waiting. crew.threads.waiting ≡ waiting)
