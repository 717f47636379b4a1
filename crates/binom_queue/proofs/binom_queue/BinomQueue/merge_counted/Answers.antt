use Rattle.std.proofs.Common.{◌∙◌, ◌++◌, sym, ap, subst, length, IsPermutation, arith, length-append}
use Rattle.std.proofs.lemmas.List.Sorted.{length_permutation}
use Rattle.pend_queue.specs.Pairs.{IsAscending, HaveNoCommonKey, merged}
use Rattle.pend_queue.proofs.Merged.{IsPermutation-merged}
use Rattle.binom_queue.specs.Trees.{items, trees, AreRoots}
use Rattle.binom_queue.specs.Queue.{by_key}
use Rattle.binom_queue.proofs.Digits.{links_told}
use Rattle.binom_queue.proofs.Keyed.{IsAscending-by_key}
use Rattle.binom_queue.proofs.Queued.{met}
use Rattle.binom_queue.proofs.binom_queue.BinomQueue.merge_counted.Goals as goal

-- the links that were made
pub overflow_sub-result : goal.overflow_sub-result
overflow_sub-result g c =
    let left = c.self.inside.roots in
    let right = c.other.inside.roots in
    let moved = rw (ap items c.replace-left.ensures.value, ap items c.replace-right.ensures.value) at c.union.ensures.pairs in
    let all = length_permutation _ _ moved ∙ length-append (items left) (items right) in
    let heaps = c.union.ensures.roots 0 (subst (AreRoots g.K.Ord.cmp 0) (sym c.replace-left.ensures.value) c.self.invariant.heaps)
    (subst (AreRoots g.K.Ord.cmp 0) (sym c.replace-right.ensures.value) c.other.invariant.heaps) in
    let links = rw (ap trees c.replace-left.ensures.value, ap trees c.replace-right.ensures.value) at c.union.ensures.links in
    let told = links_told g.K.Ord.cmp left right c.union.result c.self.inside.len c.other.inside.len c.self.inside.links.count c.union.new.links.count
    c.self.invariant.heaps c.other.invariant.heaps heaps c.self.invariant.counted c.other.invariant.counted all links in
    omega (arith, c.union.ensures.no_fewer)

pub returns-clause-links : goal.returns-clause-links
returns-clause-links g c =
    let left = c.self.inside.roots in
    let right = c.other.inside.roots in
    let moved = rw (ap items c.replace-left.ensures.value, ap items c.replace-right.ensures.value) at c.union.ensures.pairs in
    let all = length_permutation _ _ moved ∙ length-append (items left) (items right) in
    let heaps = c.union.ensures.roots 0 (subst (AreRoots g.K.Ord.cmp 0) (sym c.replace-left.ensures.value) c.self.invariant.heaps)
    (subst (AreRoots g.K.Ord.cmp 0) (sym c.replace-right.ensures.value) c.other.invariant.heaps) in
    let links = rw (ap trees c.replace-left.ensures.value, ap trees c.replace-right.ensures.value) at c.union.ensures.links in
    let told = links_told g.K.Ord.cmp left right c.union.result c.self.inside.len c.other.inside.len c.self.inside.links.count c.union.new.links.count
    c.self.invariant.heaps c.other.invariant.heaps heaps c.self.invariant.counted c.other.invariant.counted all links in
    let before = ap (λ q. q.links) c.self.view_is in
    omega (arith, c.union.ensures.no_fewer)

-- the pairs of both
pub invariant_of-self : goal.invariant_of-self
invariant_of-self g c =
    let left = c.self.inside.roots in
    let right = c.other.inside.roots in
    let moved = rw (ap items c.replace-left.ensures.value, ap items c.replace-right.ensures.value) at c.union.ensures.pairs in
    let all = length_permutation _ _ moved ∙ length-append (items left) (items right) in
    let heaps = c.union.ensures.roots 0 (subst (AreRoots g.K.Ord.cmp 0) (sym c.replace-left.ensures.value) c.self.invariant.heaps)
    (subst (AreRoots g.K.Ord.cmp 0) (sym c.replace-right.ensures.value) c.other.invariant.heaps) in
    let first = ap (λ q. q.pairs) c.self.view_is in
    let second = ap (λ q. q.pairs) c.other.view_is in
    let apart = subst (λ l. HaveNoCommonKey g.K.Ord.cmp l (by_key g.K.Ord.cmp (items right))) (sym first)
    (subst (HaveNoCommonKey g.K.Ord.cmp c.args.self.now.pairs) (sym second) c.requires.apart) in
    let become = met g.met.K.Ord.total (items left) c.self.invariant.distinct (items right) (items c.union.result) c.other.invariant.distinct moved apart in
    let here = ap length first in
    let there = ap length second in
    let room = ap (λ q. q.room) c.self.view_is in
    record {
      heaps = heaps;
      distinct = become.all;
      counted = omega (arith, c.self.invariant.counted, c.other.invariant.counted);
      fits = omega (arith, c.self.invariant.counted, c.other.invariant.counted, c.self.invariant.distinct, c.other.invariant.distinct, c.requires.room);
    }

pub returns-clause-pairs : goal.returns-clause-pairs
returns-clause-pairs g c =
    let left = c.self.inside.roots in
    let right = c.other.inside.roots in
    let moved = rw (ap items c.replace-left.ensures.value, ap items c.replace-right.ensures.value) at c.union.ensures.pairs in
    let first = ap (λ q. q.pairs) c.self.view_is in
    let second = ap (λ q. q.pairs) c.other.view_is in
    let apart = subst (λ l. HaveNoCommonKey g.K.Ord.cmp l (by_key g.K.Ord.cmp (items right))) (sym first)
    (subst (HaveNoCommonKey g.K.Ord.cmp c.args.self.now.pairs) (sym second) c.requires.apart) in
    let become = met g.met.K.Ord.total (items left) c.self.invariant.distinct (items right) (items c.union.result) c.other.invariant.distinct moved apart in
    become.are ∙ ap (λ l. merged g.K.Ord.cmp l (by_key g.K.Ord.cmp (items right))) first ∙ ap (merged g.K.Ord.cmp c.args.self.now.pairs) second

pub returns-clause-ascending : goal.returns-clause-ascending
returns-clause-ascending g c = IsAscending-by_key g.met.K.Ord.total (items c.union.result)

pub returns-clause-permutation : goal.returns-clause-permutation
returns-clause-permutation g c =
    let second = ap (λ q. q.pairs) c.other.view_is in
    let up = subst (IsAscending g.K.Ord.cmp) second (IsAscending-by_key g.met.K.Ord.total (items c.other.inside.roots)) in
    subst (IsPermutation (c.args.self.now.pairs ++ c.args.other.now.pairs)) (sym (returns-clause-pairs g c))
    (IsPermutation-merged g.met.K.Ord.total c.args.self.now.pairs c.args.other.now.pairs up c.requires.apart)
