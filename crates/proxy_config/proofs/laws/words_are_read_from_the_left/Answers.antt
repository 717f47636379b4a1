use Rattle.proxy_config.proofs.LeftLines.{words-left}
use Rattle.proxy_config.proofs.laws.words_are_read_from_the_left.Goals as goal

pub returns : goal.returns
returns c = words-left
