use Rattle.std.proofs.Common.{◌≡◌, drop}
use Rattle.http_bodies.specs.Readings.{read_parts}
use Rattle.http_bodies.proofs.chunked.after_all.Given as goal

abbrev pub invariant-reading : goal.invariant-reading
invariant-reading l = (read_parts l.framed l.at (drop l.index l.input)).coding ≡ (read_parts l.framed l.initial.at l.input).coding
