use Rattle.std.proofs.Common.{◌≡◌, map}
use Rattle.loop_events.specs.Starts.{start_at}
use Rattle.loop_events.proofs.threads.loops_of.Given as goal

abbrev pub invariant-making : goal.invariant-making
invariant-making l = l.loops.items ≡ map start_at l.yielded
