use Rattle.std.proofs.Common.{◌≡◌, ◌∙◌, ◌++◌, [], ap, subst, length, IsPermutation, arith, length-append}
use Rattle.std.proofs.lemmas.List.{append-nil}
use Rattle.std.proofs.lemmas.List.Sorted.{IsPermutation-trans, IsPermutation-append_left, length_permutation}
use Rattle.binom_queue.specs.Trees.{items}
use Rattle.binom_queue.proofs.binom_queue.part.Goals as goal

-- the children are as many trees as roots
pub union-requires-clause-fits : goal.union-requires-clause-fits
union-requires-clause-fits g c =
    let children : items c.replace-children.result ≡ items c.args.root.value.child = ap items
    (c.replace-children.ensures.value ∙ ap (λ n. n.child) c.deref_mut.ensures.value) in
    let others = ap (λ f. length (items f)) c.replace-others.ensures.value in
    let before = ap length children in
    let raised = length_permutation _ _ c.raised.ensures.pairs in
    omega (arith, length-append (items c.replace-children.result) [])

pub returns-clause-rest : goal.returns-clause-rest
returns-clause-rest g c =
    let children : items c.replace-children.result ++ [] ≡ items c.args.root.value.child = append-nil (items c.replace-children.result) ∙ ap items
    (c.replace-children.ensures.value ∙ ap (λ n. n.child) c.deref_mut.ensures.value) in
    let raised = subst (λ l. IsPermutation l (items c.raised.result)) children c.raised.ensures.pairs in
    let others = ap items c.replace-others.ensures.value in
    subst (λ l. IsPermutation (items c.args.root.value.child ++ l) (items c.union.result)) others
    (IsPermutation-trans _ _ _ (IsPermutation-append_left (items c.replace-others.result) _ _ raised) c.union.ensures.pairs)
