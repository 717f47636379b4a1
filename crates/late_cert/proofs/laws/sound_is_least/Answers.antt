use Rattle.late_cert.proofs.Least.{sound_least}
use Rattle.late_cert.proofs.laws.sound_is_least.Goals as goal

pub returns : goal.returns
returns c = sound_least
