use Rattle.grant_board.proofs.Reading as reading
use Rattle.grant_board.proofs.laws.rule_by_places.Goals as goal

pub returns : goal.returns
returns c = reading.rule_by_places
