use Rattle.std.specs.Io.KnownBytes.{Keeps}
use Rattle.exchange_driver.proofs.streams.write_ready.Given as goal

-- nothing was taken so far
abbrev pub invariant-loop-signal : goal.invariant-loop-signal
invariant-loop-signal g l = Keeps (g.W.Write.contents l.initial.writes) (g.W.Write.contents l.writes)
