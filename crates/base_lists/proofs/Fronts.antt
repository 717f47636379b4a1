-- Fronts of a list, and what stands behind them.
use Rattle.std.proofs.Common.{◌≡◌, ◌∙◌, ℕ, ◌+◌, ◌-◌, ◌<◌, ◌≤◌, List, [], ◌∷◌, ◌++◌, length}
use Rattle.std.proofs.Common.{take, drop, refl, sym, ap, arith, append_assoc, append-nil, length-append, subst, inl, inr}
use Rattle.std.proofs.Math.Seq.{drop-append_seam, take-append-add}
use Rattle.std.proofs.lemmas.List.{take-append-drop}
use Rattle.base_lists.specs.Fronts.{IsFront, AreComparable}

module _ {A : Type 0} where
  pub front_more : {a b : List A} (more : List A) → IsFront a b → IsFront a (b ++ more)
  front_more {a} {b} more f = record { rest = f.rest ++ more; is = ap (λ l. l ++ more) f.is ∙ append_assoc a f.rest more }

  pub front_under : (p : List A) {a b : List A} → IsFront a b → IsFront (p ++ a) (p ++ b)
  front_under p {a} {b} f = record { rest = f.rest; is = ap (λ l. p ++ l) f.is ∙ sym (append_assoc p a f.rest) }

  pub front_cons : {x y : A} {a b : List A} → x ≡ y → IsFront a b → IsFront (x ∷ a) (y ∷ b)
  front_cons e f = record { rest = f.rest; is = λ i. sym e i ∷ f.is i }

  pub front_nil : (b : List A) → IsFront [] b
  front_nil b = record { rest = b; is = refl }

  pub front_same : (a : List A) → IsFront a a
  front_same a = record { rest = []; is = sym (append-nil a) }

  pub front_as : {a b c d : List A} → a ≡ c → b ≡ d → IsFront a b → IsFront c d
  front_as {a} {b} {c} e f x = subst (λ (l : List A). IsFront c l) f (subst (λ (l : List A). IsFront l b) e x)

  pub swap : {a b : List A} → AreComparable a b → AreComparable b a
  swap (inl f) = inr f
  swap (inr f) = inl f

  pub under : (p : List A) {a b : List A} → AreComparable a b → AreComparable (p ++ a) (p ++ b)
  under p (inl f) = inl (front_under p f)
  under p (inr f) = inr (front_under p f)

  pub comparable_as : {a b c d : List A} → a ≡ c → b ≡ d → AreComparable a b → AreComparable c d
  comparable_as e f (inl x) = inl (front_as e f x)
  comparable_as e f (inr x) = inr (front_as f e x)

  cons_both : {x y : A} {a b : List A} → x ≡ y → AreComparable a b → AreComparable (x ∷ a) (y ∷ b)
  cons_both e (inl f) = inl (front_cons e f)
  cons_both e (inr f) = inr (front_cons (sym e) f)

  -- two fronts of one list
  pub two_fronts : (a b x y : List A) → a ++ x ≡ b ++ y → AreComparable a b
  two_fronts [] b x y e = inl (front_nil b)
  two_fronts (c ∷ a) [] x y e = inr (front_nil (c ∷ a))
  two_fronts (c ∷ a) (d ∷ b) x y e =
      let head : c ≡ d = cc in
      let tail : a ++ x ≡ b ++ y = cc in
      cons_both head (two_fronts a b x y tail)

  -- the shorter is a front of the longer
  pub short_front : (a b x y : List A) → a ++ x ≡ b ++ y → length a ≤ length b → IsFront a b
  short_front [] b x y e short = front_nil b
  short_front (c ∷ a) [] x y e short = absurd (omega (arith, short))
  short_front (c ∷ a) (d ∷ b) x y e short =
      let head : c ≡ d = cc in
      let tail : a ++ x ≡ b ++ y = cc in
      front_cons head (short_front a b x y tail (omega (arith, short)))

  pub same_front : (a b x y : List A) → a ++ x ≡ b ++ y → length a ≡ length b → a ≡ b
  same_front [] [] x y e len = refl
  same_front [] (d ∷ b) x y e len = absurd (omega (arith, len))
  same_front (c ∷ a) [] x y e len = absurd (omega (arith, len))
  same_front (c ∷ a) (d ∷ b) x y e len =
      let head : c ≡ d = cc in
      let tail : a ++ x ≡ b ++ y = cc in
      let rest = same_front a b x y tail (omega (arith, len)) in
      λ i. head i ∷ rest i

  -- what is left behind a front
  pub behind : (all front rest : List A) (n : ℕ) → all ≡ front ++ rest → n ≡ length front → drop n all ≡ rest
  behind all front rest n e len = ap (λ m. drop m all) len ∙ ap (drop (length front)) e ∙ drop-append_seam front rest

  pub same_behind : (a b x y : List A) → length a ≡ length b → a ++ x ≡ b ++ y → x ≡ y
  same_behind a b x y len e = sym (drop-append_seam a x) ∙ behind (a ++ x) b y (length a) e len

  -- a front of at most n items stands in the first n
  pub take_front : (n : ℕ) (all front rest : List A) → all ≡ front ++ rest → length front ≤ n → take n all ≡ front ++ take (n - length front) rest
  take_front n all front rest e short =
      let sum : n ≡ length front + (n - length front) = omega arith in
      ap (take n) e ∙ ap (λ m. take m (front ++ rest)) sum ∙ take-append-add front rest (n - length front)

  -- the first n items, and then all that follows
  pub take_then : (n : ℕ) (held more : List A) → held ++ more ≡ take n held ++ (drop n held ++ more)
  take_then n held more = ap (λ l. l ++ more) (sym (take-append-drop n held)) ∙ append_assoc (take n held) (drop n held) more

  -- a list with an item inside isn't empty
  pub some_behind : (xs ys : List A) (x : A) → 0 < length (xs ++ x ∷ ys)
  some_behind xs ys x = omega (arith, length-append xs (x ∷ ys))
