use Rattle.late_cert.proofs.Chosen.{chosen_sound}
use Rattle.late_cert.proofs.laws.chosen_is_sound.Goals as goal

pub returns : goal.returns
returns c = chosen_sound
