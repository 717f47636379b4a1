use Rattle.slot_ledger.proofs.Finding.{find_tells}
use Rattle.slot_ledger.proofs.places.Places.find.Goals as goal

pub returns : goal.returns
returns g c = find_tells _ _ _ _ _ c.args.ticket _ c.self.view_is c.self.invariant c.get.ensures
