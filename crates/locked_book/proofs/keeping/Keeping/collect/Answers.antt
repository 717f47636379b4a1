use Rattle.locked_book.proofs.Busying.{kept_collect}
use Rattle.locked_book.proofs.keeping.Keeping.collect.Goals as goal

pub invariant_of-self-2 : goal.invariant_of-self-2
invariant_of-self-2 c = kept_collect c.self.inside.seat.view c.collect.new.self.view c.self.inside.out c.remove.new.self c.self.inside.blocks c.args.place
    c.in_ok-back.back c.self.invariant c.in_ok-back.ensures.some c.remove.ensures
