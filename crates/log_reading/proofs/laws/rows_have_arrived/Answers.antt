use Rattle.log_reading.specs.Windows.{base_rows}
use Rattle.log_reading.proofs.Based.{base_arrived, base_joined}
use Rattle.log_reading.proofs.RowsLeft.{rows_arrived, rows_joined}
use Rattle.log_reading.proofs.laws.rows_have_arrived.Goals as goal

pub returns-clause-arrived : goal.returns-clause-arrived
returns-clause-arrived c setup base log is keep = rows_arrived (base_rows base.rows) setup base log (base_arrived setup base is) keep

pub returns-clause-joined : goal.returns-clause-joined
returns-clause-joined c setup base log is = rows_joined (base_rows base.rows) setup base log (base_joined setup base is)
