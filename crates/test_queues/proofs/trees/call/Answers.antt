use Rattle.test_queues.proofs.trees.call.Goals as goal

pub returns-clause-keys : goal.returns-clause-keys
returns-clause-keys g c = c.take.ensures.keys c.args.range.0 c.args.range.1 c.requires.keys
