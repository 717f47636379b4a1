use Rattle.log_entries.proofs.Windows.{opening_base, next_legal}
use Rattle.log_entries.proofs.laws.windows_begin_at_bases.Goals as goal

pub returns-clause-first : goal.returns-clause-first
returns-clause-first c = opening_base

pub returns-clause-next : goal.returns-clause-next
returns-clause-next c = next_legal
