use Rattle.http_bodies.proofs.Comparing.{bodies_agree}
use Rattle.http_bodies.proofs.laws.texts_of_parts_are_comparable.Goals as goal

pub returns : goal.returns
returns c = bodies_agree
