use Rattle.std.specs.Io.KnownBytes.{Keeps}
use Rattle.exchange_driver.proofs.streams.read_ready.Given as goal

-- nothing was given so far
abbrev pub invariant-loop-signal : goal.invariant-loop-signal
invariant-loop-signal g l = Keeps (g.R.Read.remaining l.initial.reads) (g.R.Read.remaining l.reads)
