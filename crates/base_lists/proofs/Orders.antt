-- What the laws of `Ord` say of three keys.
use Rattle.std.proofs.Common.{◌≡◌, ◌≢◌, ap, sym, ◌∙◌, Ordering, Less, Equal, Greater}
use Rattle.std.specs.Cmp.{IsTotalOrder}
use Rattle.std.specs.Ordering.{ordering_reverse}
use Rattle.std.proofs.lemmas.Cmp.{alike_right, tied_itself}

module _ {K : Type 0} {cmp : K → K → Ordering} (order : IsTotalOrder cmp) where
  pub greater_from_less : (a b : K) → cmp a b ≡ Less → cmp b a ≡ Greater
  greater_from_less a b less = order.antisymm b a ∙ ap ordering_reverse less

  pub less_from_greater : (a b : K) → cmp a b ≡ Greater → cmp b a ≡ Less
  less_from_greater a b greater = order.antisymm b a ∙ ap ordering_reverse greater

  pub less_then_tied : (a b c : K) → cmp a b ≡ Less → cmp b c ≡ Equal → cmp a c ≡ Less
  less_then_tied a b c less tied = sym (alike_right order b c a tied) ∙ less

  pub tied_then_less : (a b c : K) → cmp a b ≡ Equal → cmp b c ≡ Less → cmp a c ≡ Less
  tied_then_less a b c tied less = order.congr a b c tied ∙ less

  -- no key is below itself, nor below one that is below it
  pub less_not_tied : (a b : K) → cmp a b ≡ Less → cmp b a ≢ Equal
  less_not_tied a b less tied = let greater : cmp b a ≡ Greater = greater_from_less a b less in cc

  pub less_one_way : (a b : K) → cmp a b ≡ Less → cmp b a ≢ Less
  less_one_way a b less back = let greater : cmp b a ≡ Greater = greater_from_less a b less in cc

  pub same_not_less : (a b : K) → a ≡ b → cmp a b ≢ Less
  same_not_less a b same less = let tied : cmp a a ≡ Equal = tied_itself order a in let at : cmp a b ≡ cmp a a = ap (cmp a) (sym same) in cc
