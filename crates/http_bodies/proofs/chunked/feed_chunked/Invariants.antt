use Rattle.std.proofs.Common.{◌≤◌, ◌-◌, length, take}
use Rattle.http_bodies.specs.Readings.{Hands}
use Rattle.http_bodies.specs.declared.coding.Coding.TheVariants.{Chunked}
use Rattle.http_bodies.proofs.chunked.feed_chunked.Given as goal

abbrev pub invariant-taking : goal.invariant-taking
invariant-taking l = (l.used ≤ length l.input) × Hands (Chunked l.framed l.initial.part) (Chunked l.framed l.part) (take l.used l.input) l.initial.out l.out

abbrev pub decreases-taking : goal.decreases-taking
decreases-taking l = length l.input - l.used
