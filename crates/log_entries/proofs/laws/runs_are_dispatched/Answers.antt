use Rattle.log_entries.proofs.Dispatched.{dispatched}
use Rattle.log_entries.proofs.Runs.{run_legal}
use Rattle.log_entries.proofs.laws.runs_are_dispatched.Goals as goal

pub returns-clause-legal : goal.returns-clause-legal
returns-clause-legal c = run_legal

pub returns-clause-dispatched : goal.returns-clause-dispatched
returns-clause-dispatched c setup calls history run = dispatched history (run_legal setup calls history run)
