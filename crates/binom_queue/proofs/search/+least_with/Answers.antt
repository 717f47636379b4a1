use Rattle.std.proofs.Common.{rules, ◌≡◌, ◌≢◌, ◌∙◌, suc, subst, sym, inl, inr, arith, Greater, Some}
use Rattle.std.specs.List.{AllByRecursion}
use Rattle.std.specs.Box.{with_value}
use Rattle.binom_queue.specs.declared.forest.Forest.TheVariants.{Of}
use Rattle.binom_queue.specs.Trees.{items, root_of, AreRoots}
use Rattle.binom_queue.proofs.Heaps.{roots_from_less, opened}
use Rattle.binom_queue.proofs.Floors.{floor_of_roots, not_above_trans}
use Rattle.binom_queue.proofs.Orders.{root_of_first, root_of_later}
use Rattle.binom_queue.proofs.search.+least_with.Goals as goal

pub least_with-requires : goal.least_with-requires
least_with-requires g t c κs within =
    let root = c.deref-root.result.now in
    let own = opened c.args.roots.now c.in-Of.root root c.in-Of.is c.deref-root.ensures in
    let are = subst (AreRoots g.K.Ord.cmp 0) own c.requires in
    (search rules, (search rules, (search rules, roots_from_less g.K.Ord.cmp 0 (suc root.order) root.next (omega arith) are.2)))

pub least_with-requires-in_default-cmp : goal.least_with-requires-in_default-cmp
least_with-requires-in_default-cmp g t c κs within =
    let root = c.deref-root.result.now in
    let own = opened c.args.roots.now c.in-Of.root root c.in-Of.is c.deref-root.ensures in
    let are = subst (AreRoots g.K.Ord.cmp 0) own c.requires in
    (search rules, (search rules, (search rules, roots_from_less g.K.Ord.cmp 0 (suc root.order) root.next (omega arith) are.2)))

-- the row's first root, or one after it
pub returns-in-Greater-clause-found : goal.returns-in-Greater-clause-found
returns-in-Greater-clause-found g t c =
    let root = c.deref-root.result.now in
    let own = opened c.args.roots.now c.in-Of.root root c.in-Of.is c.deref-root.ensures in
    let are = subst (AreRoots g.K.Ord.cmp 0) own c.requires in
    inr (subst (λ f. root_of c.least_with.result.now.order f ≡ Some c.least_with.result.now.pair) (sym own) (elim c.least_with.ensures.found [
      | inl same ↦ subst (λ n. root_of n.order (Of (with_value c.in-Of.root root)) ≡ Some n.pair) (sym same)
          (root_of_first g.K.Ord.cmp root.pair root.order root.next)
      | inr later ↦ root_of_later g.K.Ord.cmp root.pair root.order root.next _ _ are.2 later
    ]))

pub returns-in-Greater-clause-least : goal.returns-in-Greater-clause-least
returns-in-Greater-clause-least g t c =
    let root = c.deref-root.result.now in
    let own = opened c.args.roots.now c.in-Of.root root c.in-Of.is c.deref-root.ensures in
    let are = subst (AreRoots g.K.Ord.cmp 0) own c.requires in
    let key = c.least_with.result.now.pair.0 in
    subst (λ f. AllByRecursion (λ p. g.K.Ord.cmp key p.0 ≢ Greater) (items f)) (sym own)
    (floor_of_roots g.met.K.Ord.total key root.pair root.order root.child root.next c.least_with.ensures.not_above are.1 c.least_with.ensures.least)

-- the root that came along, or one after the row's first
pub returns-in_default-cmp : goal.returns-in_default-cmp
returns-in_default-cmp g t c =
    let root = c.deref-root.result.now in
    let own = opened c.args.roots.now c.in-Of.root root c.in-Of.is c.deref-root.ensures in
    let are = subst (AreRoots g.K.Ord.cmp 0) own c.requires in
    let least = c.least_with-in_default-cmp.result.now in
    let through = not_above_trans g.met.K.Ord.total least.pair.0 c.args.first.now.pair.0 root.pair.0
    c.least_with-in_default-cmp.ensures.not_above (λ above. c.in_default-cmp.not-Greater (c.cmp.ensures ∙ above)) in
    record {
      found = elim c.least_with-in_default-cmp.ensures.found [
        | inl same ↦ inl same
        | inr later ↦ inr (subst (λ f. root_of least.order f ≡ Some least.pair) (sym own)
            (root_of_later g.K.Ord.cmp root.pair root.order root.next _ _ are.2 later))
      ];
      not_above = c.least_with-in_default-cmp.ensures.not_above;
      least = subst (λ f. AllByRecursion (λ p. g.K.Ord.cmp least.pair.0 p.0 ≢ Greater) (items f)) (sym own)
          (floor_of_roots g.met.K.Ord.total least.pair.0 root.pair root.order root.child root.next through are.1 c.least_with-in_default-cmp.ensures.least);
    }
