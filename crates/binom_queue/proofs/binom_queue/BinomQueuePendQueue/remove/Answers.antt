use Rattle.std.proofs.Common.{◌∙◌, ◌∷◌, ◌++◌, sym, ap, subst, IsPermutation, option_map, option_to_list, Some, arith, length-append}
use Rattle.std.proofs.lemmas.List.Sorted.{length_permutation, IsPermutation-trans, IsPermutation-cons}
use Rattle.pend_queue.specs.Pairs.{IsAscending, pairs_without}
use Rattle.pend_queue.proofs.Without.{IsPermutation-without}
use Rattle.binom_queue.specs.Trees.{items}
use Rattle.binom_queue.specs.Queue.{by_key}
use Rattle.binom_queue.proofs.Keyed.{IsAscending-by_key}
use Rattle.binom_queue.proofs.Queued.{none_found, removed, all_of_rest}
use Rattle.binom_queue.proofs.binom_queue.BinomQueuePendQueue.remove.Goals as goal

-- no pair has the key
pub returns-in_err-root-clause-value : goal.returns-in_err-root-clause-value
returns-in_err-root-clause-value g c =
    let none = none_found g.met.K.Ord.total (items c.self.inside.roots) c.self.invariant.distinct c.args.key.now c.in_err-root.ensures.none.1 in
    rw (← c.self.view_is) (ap (option_map (λ node. node)) c.from_residual.ensures ∙ sym none.0)

pub returns-in_err-root-clause-pairs : goal.returns-in_err-root-clause-pairs
returns-in_err-root-clause-pairs g c =
    let none = none_found g.met.K.Ord.total (items c.self.inside.roots) c.self.invariant.distinct c.args.key.now c.in_err-root.ensures.none.1 in
    rw (← c.self.view_is) (ap (λ f. by_key g.K.Ord.cmp (items f)) c.in_err-root.ensures.none.0 ∙ sym none.1)

pub returns-in_err-root-clause-ascending : goal.returns-in_err-root-clause-ascending
returns-in_err-root-clause-ascending g c = IsAscending-by_key g.met.K.Ord.total (items c.detach_key.new.roots)

-- one tree was taken out
pub overflow_sub-self : goal.overflow_sub-self
overflow_sub-self g c =
    let long = length_permutation _ _ c.in_ok-root.ensures.some.pairs in
    omega (arith, c.self.invariant.counted)

pub part-requires-clause-fits : goal.part-requires-clause-fits
part-requires-clause-fits g c =
    let long = length_permutation _ _ c.in_ok-root.ensures.some.pairs in
    omega (arith, c.self.invariant.counted, length-append (items c.in_ok-root.root.value.child) (items c.detach_key.new.roots))

pub invariant_of-self-2 : goal.invariant_of-self-2
invariant_of-self-2 g c =
    let root = c.in_ok-root.root.value in
    let parted = IsPermutation-trans _ _ _ c.in_ok-root.ensures.some.pairs (IsPermutation-cons root.pair _ _ c.part.ensures.rest) in
    let long = length_permutation _ _ parted in
    record {
      heaps = c.part.ensures.roots;
      distinct = all_of_rest g.met.K.Ord.total (items c.self.inside.roots) c.self.invariant.distinct root.pair (items c.part.new.roots) parted;
      counted = omega (arith, c.self.invariant.counted);
      fits = omega (arith, c.self.invariant.counted, c.self.invariant.fits);
    }

-- the pair of the key
pub returns-clause-value : goal.returns-clause-value
returns-clause-value g c =
    let root = c.in_ok-root.root.value in
    let parted = IsPermutation-trans _ _ _ c.in_ok-root.ensures.some.pairs (IsPermutation-cons root.pair _ _ c.part.ensures.rest) in
    let gone = removed g.met.K.Ord.total (items c.self.inside.roots) c.self.invariant.distinct root.pair (items c.part.new.roots) parted
    c.args.key.now c.in_ok-root.ensures.key in
    rw (← c.self.view_is) (ap Some c.part.ensures.pair ∙ sym gone.0)

pub returns-clause-pairs : goal.returns-clause-pairs
returns-clause-pairs g c =
    let root = c.in_ok-root.root.value in
    let parted = IsPermutation-trans _ _ _ c.in_ok-root.ensures.some.pairs (IsPermutation-cons root.pair _ _ c.part.ensures.rest) in
    let gone = removed g.met.K.Ord.total (items c.self.inside.roots) c.self.invariant.distinct root.pair (items c.part.new.roots) parted
    c.args.key.now c.in_ok-root.ensures.key in
    rw (← c.self.view_is) gone.1

pub returns-clause-ascending : goal.returns-clause-ascending
returns-clause-ascending g c = IsAscending-by_key g.met.K.Ord.total (items c.part.new.roots)

pub returns-clause-permutation : goal.returns-clause-permutation
returns-clause-permutation g c =
    let is = ap (λ q. q.pairs) c.self.view_is in
    let up = subst (IsAscending g.K.Ord.cmp) is (IsAscending-by_key g.met.K.Ord.total (items c.self.inside.roots)) in
    let whole = IsPermutation-without g.met.K.Ord.total c.args.key.now c.args.self.now.pairs up in
    subst (λ l. IsPermutation c.args.self.now.pairs (c.part.result ∷ l)) (sym (returns-clause-pairs g c))
    (subst (λ o. IsPermutation c.args.self.now.pairs (option_to_list o ++ pairs_without g.K.Ord.cmp c.args.key.now c.args.self.now.pairs))
    (sym (returns-clause-value g c)) whole)
