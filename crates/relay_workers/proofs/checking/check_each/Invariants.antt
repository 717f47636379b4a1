use Rattle.std.proofs.Common.{◌≡◌, length}
use Rattle.relay_workers.specs.Checks.{HasLooked}
use Rattle.relay_workers.proofs.checking.check_each.Given as goal

-- each server so far was looked at
abbrev pub invariant-loop-number : goal.invariant-loop-number
invariant-loop-number g l =
    (length l.next_checks ≡ 64)
    × HasLooked g.N.BoardName.terms g.N.DeskName.setup l.proxy.config.servers l.now l.initial.next_checks (g.G.Gate.notes l.initial.gate) l.number
    l.next_checks (g.G.Gate.notes l.gate)
