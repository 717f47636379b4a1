use Rattle.std.proofs.Common.{◌≡◌, ◌≢◌, ◌∙◌, sym, ap, subst, Some, Greater, arith, length-append}
use Rattle.std.specs.List.{AllByRecursion}
use Rattle.std.proofs.lemmas.List.Sorted.{length_permutation, IsPermutation-trans, IsPermutation-cons}
use Rattle.binom_queue.specs.Trees.{items}
use Rattle.binom_queue.proofs.Queued.{popped, all_of_rest}
use Rattle.binom_queue.proofs.binom_queue.BinomQueuePendQueue.pop.Goals as goal

pub part-requires-clause-fits : goal.part-requires-clause-fits
part-requires-clause-fits g c =
    let long = length_permutation _ _ c.in_ok-root.ensures.some.pairs in
    omega (arith, c.self.invariant.counted, length-append (items c.in_ok-root.root.value.child) (items c.detach.new.roots))

-- one tree was taken out
pub invariant_of-self-2 : goal.invariant_of-self-2
invariant_of-self-2 g c =
    let root = c.in_ok-root.root.value in
    let parted = IsPermutation-trans _ _ _ c.in_ok-root.ensures.some.pairs (IsPermutation-cons root.pair _ _ c.part.ensures.rest) in
    let long = length_permutation _ _ parted in
    record {
      heaps = c.part.ensures.roots;
      distinct = all_of_rest g.met.K.Ord.total (items c.self.inside.roots) c.self.invariant.distinct root.pair (items c.part.new.roots) parted;
      counted = omega (arith, c.self.invariant.counted);
      fits = omega (arith, c.self.invariant.counted, c.self.invariant.fits);
    }

-- the least pair
pub returns-clause-value : goal.returns-clause-value
returns-clause-value g c =
    let root = c.in_ok-root.root.value in
    let parted = IsPermutation-trans _ _ _ c.in_ok-root.ensures.some.pairs (IsPermutation-cons root.pair _ _ c.part.ensures.rest) in
    let same : c.in_ok-order.field-0.now.pair ≡ root.pair = cc (c.in_ok-order.ensures.found, c.in_ok-root.ensures.pair) in
    let least = subst (λ p. AllByRecursion (λ q. g.K.Ord.cmp p.0 q.0 ≢ Greater) (items c.self.inside.roots)) same c.in_ok-order.ensures.least in
    let gone = popped g.met.K.Ord.total (items c.self.inside.roots) c.self.invariant.distinct root.pair (items c.part.new.roots) parted least in
    rw (← c.self.view_is) (ap Some c.part.ensures.pair ∙ sym gone.0)

pub returns-clause-pairs : goal.returns-clause-pairs
returns-clause-pairs g c =
    let root = c.in_ok-root.root.value in
    let parted = IsPermutation-trans _ _ _ c.in_ok-root.ensures.some.pairs (IsPermutation-cons root.pair _ _ c.part.ensures.rest) in
    let same : c.in_ok-order.field-0.now.pair ≡ root.pair = cc (c.in_ok-order.ensures.found, c.in_ok-root.ensures.pair) in
    let least = subst (λ p. AllByRecursion (λ q. g.K.Ord.cmp p.0 q.0 ≢ Greater) (items c.self.inside.roots)) same c.in_ok-order.ensures.least in
    let gone = popped g.met.K.Ord.total (items c.self.inside.roots) c.self.invariant.distinct root.pair (items c.part.new.roots) parted least in
    rw (← c.self.view_is) gone.1
