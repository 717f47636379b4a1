use Rattle.std.proofs.lemmas.List.Sorted.{IsPermutation-middle, IsPermutation-cons, IsPermutation-append_comm}
use Rattle.binom_queue.specs.Trees.{items, tree_items}
use Rattle.binom_queue.proofs.links.link.Goals as goal

pub returns-in-Greater-clause-pairs : goal.returns-in-Greater-clause-pairs
returns-in-Greater-clause-pairs g c = rw c.under.ensures.pairs
    (IsPermutation-middle (tree_items c.args.first.value) c.args.second.value.pair (items c.args.second.value.child))

pub returns-in_default-clause-pairs : goal.returns-in_default-clause-pairs
returns-in_default-clause-pairs g c = rw c.under-in_default.ensures.pairs
    (IsPermutation-cons c.args.first.value.pair _ _ (IsPermutation-append_comm (items c.args.first.value.child) (tree_items c.args.second.value)))
