-- The definitions at a worked example: what must not hold.
use base.Fml.{GName}
use Rattle.std.proofs.Common.{ℕ, List, length, Some, codes, ap, arith, inl, inr}
use Rattle.base_streams.specs.Streams.{Stream}
use Rattle.http_bodies.specs.Lengths.{LacksLength}
use Rattle.http_bodies.specs.declared.fault.Fault.TheVariants.{Read}
use Rattle.http_bodies.specs.Steps.{ends, Blames}
use Rattle.http_bodies.specs.declared.pipe.Pipe.{Pipe}

stream : GName → List ℕ → ℕ → Stream
stream end bytes calls = record { name = end; bytes = Some bytes; calls = calls; failures = 0 }

-- it's no read fault where no read failed and the input goes on
not_at_its_end : (end : GName) (pipe : Pipe) (w : Stream) (input : List ℕ)
    → ¬ (Blames (ends pipe (stream end (codes "ab") 0) w) (ends pipe (stream end (codes "b") 1) w) (LacksLength 3) input Read)
unfolding stream
not_at_its_end end pipe w input (same, inl failed) = omega (arith, failed)
not_at_its_end end pipe w input (same, inr (none, at_end, lacks)) = omega (arith, ap (length {A = ℕ}) at_end)
