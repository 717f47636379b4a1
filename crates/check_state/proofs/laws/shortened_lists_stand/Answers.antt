use Rattle.check_state.proofs.Shortened.{same_later, same_health}
use Rattle.check_state.proofs.laws.shortened_lists_stand.Goals as goal

pub returns-clause-up : goal.returns-clause-up
returns-clause-up c rise fall results later some_rise some_fall = same_later rise fall some_rise some_fall results later

pub returns-clause-health : goal.returns-clause-health
returns-clause-health c rise fall results health some_rise some_fall is = same_health rise fall some_rise some_fall results health is
