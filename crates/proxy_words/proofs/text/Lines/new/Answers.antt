use Rattle.proxy_words.proofs.Cuts.{length-lines}
use Rattle.proxy_words.proofs.text.Lines.new.Goals as goal

pub returns-clause-count : goal.returns-clause-count
returns-clause-count c = length-lines c.args.text.now
