use Rattle.exchange_events.proofs.relaying.+read_heads.Goals as goal

pub returns-then-left-gt0-clause-refused : goal.returns-then-left-gt0-clause-refused
returns-then-left-gt0-clause-refused n c refused h is = c.read_heads.ensures.refused refused h (c.read_head-headed.ensures.passes h is)
