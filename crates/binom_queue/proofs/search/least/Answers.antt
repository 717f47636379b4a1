use Rattle.std.proofs.Common.{◌≡◌, ◌≢◌, suc, subst, sym, inl, inr, arith, Greater, Some}
use Rattle.std.specs.Box.{with_value}
use Rattle.std.specs.List.{AllByRecursion}
use Rattle.binom_queue.specs.declared.forest.Forest.TheVariants.{Of}
use Rattle.binom_queue.specs.Trees.{items, root_of, AreRoots}
use Rattle.binom_queue.proofs.Heaps.{roots_from_less, opened}
use Rattle.binom_queue.proofs.Floors.{floor_of_roots}
use Rattle.binom_queue.proofs.Orders.{root_of_first, root_of_later}
use Rattle.binom_queue.proofs.search.least.Goals as goal

pub least_with-requires : goal.least_with-requires
least_with-requires g c =
    let root = c.deref-root.result.now in
    let own = opened c.args.roots.now c.in-Of.root root c.in-Of.is c.deref-root.ensures in
    let are = subst (AreRoots g.K.Ord.cmp 0) own c.requires in
    roots_from_less g.K.Ord.cmp 0 (suc root.order) root.next (omega arith) are.2

pub returns-clause-found : goal.returns-clause-found
returns-clause-found g c =
    let root = c.deref-root.result.now in
    let own = opened c.args.roots.now c.in-Of.root root c.in-Of.is c.deref-root.ensures in
    let are = subst (AreRoots g.K.Ord.cmp 0) own c.requires in
    subst (λ f. root_of c.least_with.result.now.order f ≡ Some c.least_with.result.now.pair) (sym own) (elim c.least_with.ensures.found [
      | inl same ↦ subst (λ n. root_of n.order (Of (with_value c.in-Of.root root)) ≡ Some n.pair) (sym same)
          (root_of_first g.K.Ord.cmp root.pair root.order root.next)
      | inr later ↦ root_of_later g.K.Ord.cmp root.pair root.order root.next _ _ are.2 later
    ])

pub returns-clause-least : goal.returns-clause-least
returns-clause-least g c =
    let root = c.deref-root.result.now in
    let own = opened c.args.roots.now c.in-Of.root root c.in-Of.is c.deref-root.ensures in
    let are = subst (AreRoots g.K.Ord.cmp 0) own c.requires in
    let key = c.least_with.result.now.pair.0 in
    subst (λ f. AllByRecursion (λ p. g.K.Ord.cmp key p.0 ≢ Greater) (items f)) (sym own)
    (floor_of_roots g.met.K.Ord.total key root.pair root.order root.child root.next c.least_with.ensures.not_above are.1 c.least_with.ensures.least)
