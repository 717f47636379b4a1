use Rattle.std.proofs.Common.{◌∙◌, sym, ap, count_ones, arith}
use Rattle.binom_queue.specs.Trees.{items}
use Rattle.binom_queue.proofs.Digits.{shallow, trees_are_ones}
use Rattle.binom_queue.proofs.Keyed.{IsAscending-by_key}
use Rattle.binom_queue.proofs.binom_queue.BinomQueuePendQueue.len.Goals as goal

pub returns-clause-ascending : goal.returns-clause-ascending
returns-clause-ascending g c = rw (← c.self.view_is) (IsAscending-by_key g.met.K.Ord.total (items c.self.inside.roots))

pub returns-clause-trees : goal.returns-clause-trees
returns-clause-trees g c = rw (← c.self.view_is) (trees_are_ones g.K.Ord.cmp c.self.inside.roots c.self.invariant.heaps ∙ ap count_ones
    (sym c.self.invariant.distinct))

pub returns-clause-shallow : goal.returns-clause-shallow
returns-clause-shallow g c = rw (← c.self.view_is) (λ digits short. shallow g.K.Ord.cmp c.self.inside.roots c.self.invariant.heaps digits
    (omega (arith, c.self.invariant.distinct)))
