-- The pair of a key that went up by one root.
use Rattle.std.proofs.Common.{◌≡◌, ℕ, zero, suc, ◌∷◌, ◌++◌, IsPermutation, sym, subst, ◌∙◌, Ordering, Box, Global}
use Rattle.std.specs.Cmp.{IsTotalOrder}
use Rattle.base_lists.proofs.Shuffles.{through_front, behind_part}
use Rattle.binom_queue.specs.declared.forest.Forest.{Forest}
use Rattle.binom_queue.specs.declared.forest.Forest.TheVariants.{Of, Of'}
use Rattle.binom_queue.specs.declared.forest.Node.{Node}
use Rattle.binom_queue.specs.Trees.{items, AreChildren, IsRaised}
use Rattle.std.specs.Box.{with_value}
use Rattle.binom_queue.proofs.Heaps.{opened}
use Rattle.binom_queue.proofs.Floors.{not_above_itself, children_through}

module _ {K V : Type 0} {cmp : K → K → Ordering} (total : IsTotalOrder cmp) where
  module _ (above : K × V) (box box' : Box (Unit {0}) Global) (pair : K × V) (order : ℕ) (child next : Forest K V) where
    -- from below the first root, which takes the pair above it in exchange
    pub raised_from_first : (key : K) (up : K × V) (own : ℕ) (left rest : Forest K V) → IsRaised cmp key pair child up left → own ≡ order
        → rest ≡ next → IsRaised cmp key above (Of' box pair order child next) up (Of' box' above own left rest)
    raised_from_first key up own left rest raised same after = record {
      has_key = raised.has_key;
      fits = fits;
      pairs = subst (λ (f : Forest K V). IsPermutation (above ∷ (pair ∷ (items child ++ items next))) (up ∷ (above ∷ (items left ++ items f))))
          (sym after) (through_front pair up above (items child) (items left) (items next) raised.pairs);
    }
      where
        fits : (n : ℕ) → AreChildren cmp above.0 n (Of' box pair order child next) → AreChildren cmp above.0 n (Of' box' above own left rest)
        fits zero are = are
        fits (suc n) are = (
          same ∙ are.0,
          not_above_itself total above.0,
          children_through total above.0 pair.0 are.1 n left (raised.fits n are.2),
          subst (AreChildren cmp above.0 n) (sym after) are.3,
        )

    -- from the trees after the first one
    pub raised_from_rest : (key : K) (up : K × V) (left : Forest K V) → IsRaised cmp key above next up left
        → IsRaised cmp key above (Of' box pair order child next) up (Of' box' pair order child left)
    raised_from_rest key up left raised = record {
      has_key = raised.has_key;
      fits = fits;
      pairs = behind_part above up (items next) (items left) (pair ∷ items child) raised.pairs;
    }
      where
        fits : (n : ℕ) → AreChildren cmp above.0 n (Of' box pair order child next) → AreChildren cmp above.0 n (Of' box' pair order child left)
        fits zero are = are
        fits (suc n) are = (are.0, are.1, are.2, raised.fits n are.3)

  module _ (key : K) (above : K × V) (trees : Forest K V) (root : Box (Node K V) Global) (old new : Node K V) (is : trees ≡ Of root)
      (own : old ≡ root.value) where
    pub raised_here : (x y : K × V) → IsRaised cmp key old.pair old.child new.pair new.child → new.order ≡ old.order → new.next ≡ old.next
        → x ≡ new.pair → y ≡ above
        → IsRaised cmp key above trees x (Of (with_value root (record { pair = y; order = new.order; child = new.child; next = new.next })))
    raised_here x y raised same after up down =
        let box : Box (Unit {0}) Global = record { ptr = root.ptr; alloc = root.alloc; value = tt } in
        let after_it : Forest K V = Of' box y new.order new.child new.next in
        subst (λ (f : Forest K V). IsRaised cmp key above f x after_it) (sym (opened trees root old is own))
        (subst (λ (p : K × V). IsRaised cmp key above (Of' box old.pair old.order old.child old.next) p after_it) (sym up)
        (subst (λ (p : K × V). IsRaised cmp key above (Of' box old.pair old.order old.child old.next) new.pair
        (Of' box p new.order new.child new.next)) (sym down)
        (raised_from_first above box box old.pair old.order old.child old.next key new.pair new.order new.child new.next raised same after)))

    pub raised_after : (up : K × V) (left : Forest K V) → new ≡ old → IsRaised cmp key above new.next up left
        → IsRaised cmp key above trees up (Of (with_value root (record { pair = new.pair; order = new.order; child = new.child; next = left })))
    raised_after up left same raised =
        let box : Box (Unit {0}) Global = record { ptr = root.ptr; alloc = root.alloc; value = tt } in
        subst (λ (f : Forest K V). IsRaised cmp key above f up (Of' box new.pair new.order new.child left)) (sym (opened trees root new is (same ∙ own)))
        (raised_from_rest above box box new.pair new.order new.child new.next key up left raised)
