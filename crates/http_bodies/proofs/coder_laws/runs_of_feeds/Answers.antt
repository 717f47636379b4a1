use Rattle.http_bodies.proofs.Running.{run_text, run_front, run_done, run_bad, run_early, run_cuts}
use Rattle.http_bodies.proofs.coder_laws.runs_of_feeds.Goals as goal

pub returns-clause-text : goal.returns-clause-text
returns-clause-text c framing framed steps end runs = run_text framing framed steps end runs

pub returns-clause-front : goal.returns-clause-front
returns-clause-front c framing framed steps end more text runs all = run_front framing framed steps end runs more text all

pub returns-clause-done : goal.returns-clause-done
returns-clause-done c framing framed steps end runs is = run_done framing framed steps end runs is

pub returns-clause-bad : goal.returns-clause-bad
returns-clause-bad c framing framed steps end more runs is = run_bad framing framed steps end runs more is

pub returns-clause-early : goal.returns-clause-early
returns-clause-early c framing framed steps end other runs is = run_early framing framed steps end runs other is

pub returns-clause-cuts : goal.returns-clause-cuts
returns-clause-cuts c = run_cuts
