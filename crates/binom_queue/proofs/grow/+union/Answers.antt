use Rattle.std.proofs.Common.{rules, length, ap, arith, length-append}
use Rattle.std.proofs.lemmas.List.Sorted.{IsPermutation-trans, length_permutation}
use Rattle.binom_queue.specs.declared.forest.Forest.TheVariants.{Of}
use Rattle.binom_queue.specs.Trees.{items, tree_items, IsTree}
use Rattle.binom_queue.proofs.Heaps.{order_fits, items_cut}
use Rattle.base_lists.proofs.Shuffles.{first_kept, second_kept, made_pairwise}
use Rattle.binom_queue.proofs.grow.+union.Goals as goal

-- the first tree of the left row, and the rest of it
pub link-requires-clause-small : goal.link-requires-clause-small
link-requires-clause-small g t c =
    let one = c.cut-root in
    let root = one.result.0.value in
    let left = ap length (items_cut c.args.left c.in-Of-Of.first one.result.0 one.result.1 c.in-Of-Of.is-0 one.ensures.tree one.ensures.rest) in
    let own : IsTree g.K.Ord.cmp root = search rules in
    order_fits g.K.Ord.cmp root.pair.0 root.order 64 root.child own.children (omega (arith, length-append (items root.child) (items one.result.1)))

pub add-requires-clause-fits : goal.add-requires-clause-fits
add-requires-clause-fits g t c =
    let one = c.cut-root in
    let two = c.cut-other in
    let left = ap length (items_cut c.args.left c.in-Of-Of.first one.result.0 one.result.1 c.in-Of-Of.is-0 one.ensures.tree one.ensures.rest) in
    let right = ap length (items_cut c.args.right c.in-Of-Of.second two.result.0 two.result.1 c.in-Of-Of.is-1 two.ensures.tree two.ensures.rest) in
    let linked = length_permutation _ _ c.link.ensures.pairs in
    let merged = length_permutation _ _ c.union-rest.ensures.pairs in
    let first = tree_items one.result.0.value in
    let second = tree_items two.result.0.value in
    omega (
      arith,
      length-append first second,
      length-append first (items one.result.1),
      length-append second (items two.result.1),
      length-append (items one.result.1) (items two.result.1),
    )

pub returns-then-deref-clause-pairs : goal.returns-then-deref-clause-pairs
returns-then-deref-clause-pairs g t c =
    let one = c.cut-first in
    let left = items_cut c.args.left c.in-Of-Of.first one.result.0 one.result.1 c.in-Of-Of.is-0 one.ensures.tree one.ensures.rest in
    let right = ap items c.in-Of-Of.is-1 in
    let whole = ap items c.before-then-deref.ensures in
    rw (left, right, whole) (first_kept (tree_items one.result.0.value) (items one.result.1) (items (Of c.in-Of-Of.second)) _ c.union.ensures.pairs)

pub returns-then-deref-2-clause-pairs : goal.returns-then-deref-2-clause-pairs
returns-then-deref-2-clause-pairs g t c =
    let two = c.cut-second in
    let left = ap items c.in-Of-Of.is-0 in
    let right = items_cut c.args.right c.in-Of-Of.second two.result.0 two.result.1 c.in-Of-Of.is-1 two.ensures.tree two.ensures.rest in
    let whole = ap items c.before-then-deref-2.ensures in
    let made = c.union-then-deref-2.ensures.pairs in
    rw (left, right, whole) (second_kept (tree_items two.result.0.value) (items (Of c.in-Of-Of.first)) (items two.result.1) _ made)

pub returns-else-deref-2-clause-pairs : goal.returns-else-deref-2-clause-pairs
returns-else-deref-2-clause-pairs g t c =
    let one = c.cut-root in
    let two = c.cut-other in
    let left = items_cut c.args.left c.in-Of-Of.first one.result.0 one.result.1 c.in-Of-Of.is-0 one.ensures.tree one.ensures.rest in
    let right = items_cut c.args.right c.in-Of-Of.second two.result.0 two.result.1 c.in-Of-Of.is-1 two.ensures.tree two.ensures.rest in
    let first = tree_items one.result.0.value in
    let second = tree_items two.result.0.value in
    let made = made_pairwise first (items one.result.1) second (items two.result.1) _ _ c.link.ensures.pairs c.union-rest.ensures.pairs in
    rw (left, right) (IsPermutation-trans _ _ _ made c.add.ensures.pairs)
