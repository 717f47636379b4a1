use Rattle.std.proofs.Common.{rules, ap}
use Rattle.binom_queue.specs.Trees.{items, tree_items}
use Rattle.binom_queue.proofs.Heaps.{items_cut, raised_requires}
use Rattle.base_lists.proofs.Shuffles.{second_from}
use Rattle.binom_queue.proofs.grow.+raised.Goals as goal

pub raised-requires : goal.raised-requires
raised-requires g t c κs within = (
  search rules,
  (
    search rules,
    (
      search rules,
      raised_requires g.K.Ord.cmp c.args.children c.in-Of.child c.cut-child.result.0 c.cut-child.result.1 c.args.greater
          c.before-in-Of.result c.in-Of.is c.cut-child.ensures.tree c.cut-child.ensures.rest c.before-in-Of.ensures c.requires,
    ),
  ),
)

pub returns-in-Of-clause-pairs : goal.returns-in-Of-clause-pairs
returns-in-Of-clause-pairs g t c =
    let children = items_cut c.args.children c.in-Of.child c.cut-child.result.0 c.cut-child.result.1 c.in-Of.is c.cut-child.ensures.tree
    c.cut-child.ensures.rest in
    let raised = ap items c.before-in-Of.ensures in
    rw children (second_from (tree_items c.cut-child.result.0.value) (items c.cut-child.result.1) (items c.args.greater) _
    (rw raised at c.raised.ensures.pairs))
