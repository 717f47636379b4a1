use Rattle.log_entries.proofs.SameCalls.{refused_alike, added_alike, rolled_alike}
use Rattle.log_entries.proofs.laws.calls_are_determined.Goals as goal

pub returns-clause-refused : goal.returns-clause-refused
returns-clause-refused c = refused_alike

pub returns-clause-added : goal.returns-clause-added
returns-clause-added c = added_alike

pub returns-clause-rolled : goal.returns-clause-rolled
returns-clause-rolled c = rolled_alike
