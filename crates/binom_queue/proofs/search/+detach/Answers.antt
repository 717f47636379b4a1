use Rattle.std.proofs.Common.{◌≡◌, ◌∙◌, sym}
use Rattle.std.proofs.lemmas.Option.{IfSome_then}
use Rattle.binom_queue.specs.declared.forest.Forest.TheVariants.{Of}
use Rattle.binom_queue.proofs.Heaps.{taken_from_rest}
use Rattle.binom_queue.proofs.search.+detach.Goals as goal

-- a tree of the rest
pub returns-else-deref-order-clause-some : goal.returns-else-deref-order-clause-some
returns-else-deref-order-clause-some g t c =
    let is : c.args.roots.now ≡ Of c.in-Of.root = sym c.replace.ensures.value ∙ c.in-Of.is in
    IfSome_then c.detach-found.result c.detach-found.ensures.some
    (λ root out. taken_from_rest g.K.Ord.cmp c.args.roots.now c.in-Of.root c.cut-root.result.0 c.cut-root.result.1 c.detach-found.new.roots
    c.before-else-deref-order.result root.value is c.cut-root.ensures.tree c.cut-root.ensures.rest c.before-else-deref-order.ensures out)
