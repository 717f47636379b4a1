use Rattle.exchange_events.proofs.relaying.+read_heads.Given as goal

abbrev pub decreases-read_heads : goal.decreases-read_heads
decreases-read_heads l = l.left
