use Rattle.std.proofs.Common.{◌≡◌, ◌≢◌, ◌∙◌, sym, ap, refl, subst, Option, Some, None, IfNone, Equal, IsPermutation}
use Rattle.std.specs.Box.{with_value}
use Rattle.std.proofs.lemmas.Option.{IfSome_then}
use Rattle.pend_queue.specs.Pairs.{KeyIsAbsent}
use Rattle.base_lists.proofs.Members.{all_append}
use Rattle.binom_queue.specs.declared.forest.Forest.TheVariants.{Of}
use Rattle.binom_queue.specs.Trees.{items, tree_items, AreChildren, AreRoots}
use Rattle.binom_queue.proofs.Heaps.{taken_first, taken_from_rest, put_back, items_cut}
use Rattle.binom_queue.proofs.search.+detach_key.Goals as goal

IfNone_then : {X : Type 0} (r : Option X) {P Q : Type 0} → IfNone r P → (P → Q) → IfNone r Q
IfNone_then None here then = then here
IfNone_then (Some x) here then = tt

-- the first tree
pub returns-then-holds-clause-some : goal.returns-then-holds-clause-some
returns-then-holds-clause-some g t c =
    let roots = c.args.roots.now in
    let root = c.in-Of.root in
    let before = c.deref_mut.result.now in
    let after = c.holds.new.root in
    let is : roots ≡ Of root = sym c.replace.ensures.value ∙ c.in-Of.is in
    let parts = subst (AreRoots g.K.Ord.cmp 0) is c.requires in
    let raised = c.if-holds.ensures.found refl in
    let own = c.deref_mut.ensures.value ∙ ap (λ b. b.value) c.cut-root.ensures.tree in
    let below = raised.fits before.order (subst (λ n. AreChildren g.K.Ord.cmp n.pair.0 n.order n.child) (sym own) parts.1) in
    taken_first g.K.Ord.cmp roots root c.cut-root.result.0 c.cut-root.result.1 after before.pair.0 is c.cut-root.ensures.tree c.cut-root.ensures.rest
    (subst (λ n. AreChildren g.K.Ord.cmp before.pair.0 n after.child) (sym c.holds.ensures.rest.0) below)
    (c.holds.ensures.rest.1 ∙ ap (λ n. n.next) own) (subst (λ n. IsPermutation (tree_items n) (tree_items after)) c.deref_mut.ensures.value raised.pairs)

-- no tree
pub returns-else-holds-clause-none : goal.returns-else-holds-clause-none
returns-else-holds-clause-none g t c =
    let own = c.cut-root.result.0 in
    let rest = c.cut-root.result.1 in
    let is : c.args.roots.now ≡ Of c.in-Of.root = sym c.replace.ensures.value ∙ c.in-Of.is in
    let missed = c.if-holds.ensures.missed refl in
    let again = ap (with_value own) (missed.0 ∙ c.deref_mut.ensures.value) in
    let first = subst (λ n. KeyIsAbsent g.K.Ord.cmp c.args.key.now (tree_items n)) c.deref_mut.ensures.value missed.1 in
    let parts = items_cut c.args.roots.now c.in-Of.root own rest is c.cut-root.ensures.tree c.cut-root.ensures.rest in
    IfNone_then c.detach_key-found.result c.detach_key-found.ensures.none (λ none. (
      put_back c.args.roots.now c.in-Of.root own _ rest c.detach_key-found.new.roots c.before-else-holds.result is c.cut-root.ensures.tree
          c.cut-root.ensures.rest again none.0 c.before-else-holds.ensures,
      subst (KeyIsAbsent g.K.Ord.cmp c.args.key.now) (sym parts)
          (all_append (λ p. g.K.Ord.cmp p.0 c.args.key.now ≢ Equal) (tree_items own.value) (items rest) first none.1),
    ))

-- a tree of the rest
pub returns-else-holds-clause-some : goal.returns-else-holds-clause-some
returns-else-holds-clause-some g t c =
    let own = c.cut-root.result.0 in
    let is : c.args.roots.now ≡ Of c.in-Of.root = sym c.replace.ensures.value ∙ c.in-Of.is in
    let missed = c.if-holds.ensures.missed refl in
    let again = ap (with_value own) (missed.0 ∙ c.deref_mut.ensures.value) in
    IfSome_then c.detach_key-found.result c.detach_key-found.ensures.some
    (λ root out. taken_from_rest g.K.Ord.cmp c.args.roots.now c.in-Of.root (with_value own c.holds.new.root) c.cut-root.result.1
    c.detach_key-found.new.roots c.before-else-holds.result root.value is
    (again ∙ c.cut-root.ensures.tree) c.cut-root.ensures.rest c.before-else-holds.ensures out)
