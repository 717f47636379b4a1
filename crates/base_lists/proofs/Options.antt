-- What a test tells of an item that may be missing.
use Rattle.std.proofs.Common.{◌≡◌, Bool, true, false, cond, Option, None, Some, is_some, refl}

module _ {A : Type 0} where
  pub none_from_test : (o : Option A) → is_some o ≡ false → o ≡ None
  none_from_test None e = refl
  none_from_test (Some x) e = cc

  pub cond_none : (b : Bool) (x : A) → cond b (Some x) None ≡ None → b ≡ false
  cond_none true x e = cc
  cond_none false x e = refl
