use Rattle.proxy_config.proofs.Faulty.{has_fault}
use Rattle.proxy_config.proofs.laws.each_cause_has_its_words.Goals as goal

pub returns : goal.returns
returns c = has_fault
