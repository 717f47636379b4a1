use Rattle.test_serving.proofs.runs.+answer_all.Given as goal

-- a client fewer in each call
abbrev pub decreases-answer_all : goal.decreases-answer_all
decreases-answer_all l = l.count
