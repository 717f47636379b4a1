use Rattle.std.proofs.Common.{rules, ◌≡◌, ◌++◌, length, IsPermutation, subst, sym, ap, ◌∙◌, arith, length-append}
use Rattle.std.proofs.lemmas.List.Sorted.{length_permutation}
use Rattle.binom_queue.specs.Trees.{items, tree_items}
use Rattle.binom_queue.proofs.Heaps.{order_fits}
use Rattle.base_lists.proofs.Shuffles.{joined}
use Rattle.binom_queue.proofs.grow.+add.Goals as goal

pub link-requires-clause-small : goal.link-requires-clause-small
link-requires-clause-small g t c = order_fits g.K.Ord.cmp c.args.tree.value.pair.0 c.args.tree.value.order 64 c.args.tree.value.child
    c.requires.tree.children (omega arith)

-- the two trees and the rest have as many pairs as before
pub add-requires : goal.add-requires
add-requires g t c κs within =
    let tree : tree_items c.cut-first.result.0.value ≡ tree_items c.in-Of.first.value = ap (λ b. tree_items b.value) c.cut-first.ensures.tree in
    let roots : items c.args.roots ≡ tree_items c.in-Of.first.value ++ items c.cut-first.result.1 = ap items c.in-Of.is ∙ ap
    (λ l. tree_items c.in-Of.first.value ++ items l) (sym c.cut-first.ensures.rest) in
    let linked = length_permutation _ _ c.link.ensures.pairs in
    let before = ap length roots in
    let after = ap length tree in (
      search rules,
      (
        search rules,
        (
          search rules,
          (
            search rules,
            (
              search rules,
              omega (
                arith,
                length-append (tree_items c.args.tree.value) (tree_items c.cut-first.result.0.value),
                length-append
                    (tree_items c.in-Of.first.value) (items c.cut-first.result.1),
              ),
            ),
          ),
        ),
      ),
    )

pub returns-then-deref-clause-pairs : goal.returns-then-deref-clause-pairs
returns-then-deref-clause-pairs g t c =
    let tree : tree_items c.cut-first.result.0.value ≡ tree_items c.in-Of.first.value = ap (λ b. tree_items b.value) c.cut-first.ensures.tree in
    let roots : items c.args.roots ≡ tree_items c.cut-first.result.0.value ++ items c.cut-first.result.1 = ap items c.in-Of.is ∙ sym
    (ap (λ l. l ++ items c.cut-first.result.1) tree ∙ ap (λ l. tree_items c.in-Of.first.value ++ items l) c.cut-first.ensures.rest) in
    subst (λ l. IsPermutation (tree_items c.args.tree.value ++ l) (items c.add.result)) (sym roots)
    (joined (tree_items c.args.tree.value) (tree_items c.cut-first.result.0.value) (items c.cut-first.result.1) (tree_items c.link.result.value) _
    c.link.ensures.pairs c.add.ensures.pairs)
