use Rattle.proxy_config.proofs.CauseRows.{each_in_its_row}
use Rattle.proxy_config.proofs.laws.each_cause_stands_in_its_row.Goals as goal

pub returns : goal.returns
returns c = each_in_its_row
