use Rattle.std.proofs.Common.{◌∷◌, sym, ap, subst, length, IsPermutation, arith}
use Rattle.std.proofs.lemmas.List.Sorted.{length_permutation}
use Rattle.pend_queue.specs.Pairs.{KeyIsAbsent}
use Rattle.pend_queue.proofs.Inserted.{IsPermutation-inserted}
use Rattle.binom_queue.specs.Trees.{items}
use Rattle.binom_queue.proofs.Heaps.{roots_from_less}
use Rattle.binom_queue.proofs.Keyed.{IsAscending-by_key}
use Rattle.binom_queue.proofs.Queued.{pushed, lone}
use Rattle.binom_queue.proofs.binom_queue.BinomQueuePendQueue.push.Goals as goal

-- the new pair and the old ones are in the trees, and by key none is lost
pub invariant_of-self : goal.invariant_of-self
invariant_of-self g c =
    let root = c.node.inside.root.value in
    let moved = lone root c.args.node c.replace-roots.result c.self.inside.roots (items c.add.result) c.node.invariant.child c.node.view_is
    c.replace-roots.ensures.value c.add.ensures.pairs in
    let absent = subst (KeyIsAbsent g.K.Ord.cmp c.args.node.0) (sym (ap (λ q. q.pairs) c.self.view_is)) c.requires.absent in
    let become = pushed g.met.K.Ord.total (items c.self.inside.roots) c.self.invariant.distinct c.args.node (items c.add.result) moved absent in
    let long = length_permutation _ _ moved in
    let kept = ap (λ q. q.room) c.self.view_is in
    let there = ap (λ q. length q.pairs) c.self.view_is in
    record {
      heaps = roots_from_less g.K.Ord.cmp 0 root.order c.add.result (omega arith) c.add.ensures.roots;
      distinct = become.all;
      counted = omega (arith, c.self.invariant.counted);
      fits = omega (arith, c.self.invariant.counted, c.self.invariant.distinct, c.requires.room);
    }

pub returns-clause-pairs : goal.returns-clause-pairs
returns-clause-pairs g c =
    let root = c.node.inside.root.value in
    let moved = lone root c.args.node c.replace-roots.result c.self.inside.roots (items c.add.result) c.node.invariant.child c.node.view_is
    c.replace-roots.ensures.value c.add.ensures.pairs in
    let is = ap (λ q. q.pairs) c.self.view_is in
    let absent = subst (KeyIsAbsent g.K.Ord.cmp c.args.node.0) (sym is) c.requires.absent in
    let become = pushed g.met.K.Ord.total (items c.self.inside.roots) c.self.invariant.distinct c.args.node (items c.add.result) moved absent in
    rw (← is) become.are

pub returns-clause-ascending : goal.returns-clause-ascending
returns-clause-ascending g c = IsAscending-by_key g.met.K.Ord.total (items c.add.result)

pub returns-clause-permutation : goal.returns-clause-permutation
returns-clause-permutation g c = subst (λ l. IsPermutation (c.args.node ∷ c.args.self.now.pairs) l) (sym (returns-clause-pairs g c))
    (IsPermutation-inserted g.K.Ord.cmp c.args.node c.args.self.now.pairs c.requires.absent)
