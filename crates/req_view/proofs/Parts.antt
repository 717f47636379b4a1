-- Printed trees at the front of some bytes, and of the first of them; of requests' heads and of answers'.
use Rattle.std.proofs.Common.{◌≡◌, ℕ, ◌+◌, ◌-◌, ◌≤◌, ◌∙◌, List, ◌++◌, length, take, drop, sym, ap, subst, Ok, arith, append_assoc}
use Rattle.std.proofs.Math.Seq.{take-append-add}
use Rattle.std.proofs.lemmas.List.{take-append-le, take-append-drop}
use Rattle.base_lists.proofs.Fronts.{take_then}
use Rattle.httparse.specs.declared.Error.{Error}
use Rattle.httparse.specs.declared.Status.{Status}
use Rattle.httparse.specs.declared.Status.TheVariants.{Complete, Partial}
use Rattle.httparse.specs.Outcome.{IfComplete, OnPartial}

pub of_complete : {A : Type 0} (s : Status A) (x : A) (P : A → Type 0) → s ≡ Complete x → IfComplete {E = Error} (Ok s) P → P x
of_complete s x P is holds = subst (λ t. IfComplete {E = Error} (Ok t) P) is holds

pub of_partial : {A : Type 0} (s : Status A) (P : Type 0) → s ≡ Partial → OnPartial {E = Error} (Ok s) P → P
of_partial s P is holds = subst (λ t. OnPartial {E = Error} (Ok t) P) is holds

module _ {H : Type 0} (Is : H → Type 0) (print : H → List ℕ) where
  -- a tree of at most n bytes stands in the first n
  reads-take : (bytes : List ℕ) (n : ℕ) (h : H) (rest : List ℕ) → Is h × (bytes ≡ print h ++ rest) → length (print h) ≤ n
      → Is h × (take n bytes ≡ print h ++ take (n - length (print h)) rest)
  reads-take bytes n h rest reads short =
      let sum : n ≡ length (print h) + (n - length (print h)) = omega arith in
      (reads.0, ap (take n) reads.1 ∙ ap (λ m. take m (print h ++ rest)) sum ∙ take-append-add (print h) rest (n - length (print h)))

  -- and the other way round
  pub reads-whole : (bytes : List ℕ) (n : ℕ) (h : H) (rest : List ℕ) → Is h × (take n bytes ≡ print h ++ rest)
      → Is h × (bytes ≡ print h ++ (rest ++ drop n bytes))
  reads-whole bytes n h rest reads =
      (reads.0, sym (take-append-drop n bytes) ∙ ap (λ front. front ++ drop n bytes) reads.1 ∙ append_assoc (print h) rest (drop n bytes))

  -- a tree that isn't in the first n bytes has more than n, whatever follows
  pub late : (bytes : List ℕ) (n : ℕ) (h : H) (rest more : List ℕ) → n ≤ length bytes
      → ((k : H) (left : List ℕ) → ¬ (Is k × (take n bytes ≡ print k ++ left)))
      → Is h × (bytes ++ more ≡ print h ++ rest) → length (print h) ≤ n → ⊥
  late bytes n h rest more here none reads short =
      none h (take (n - length (print h)) rest)
      (subst (λ (front : List ℕ). Is h × (front ≡ print h ++ take (n - length (print h)) rest)) (take-append-le n bytes more here)
      (reads-take (bytes ++ more) n h rest reads short))

  -- what stands in the bytes stands in their first n, with the others behind them
  pub beyond : (bytes : List ℕ) (n : ℕ) (h : H) (rest more : List ℕ) → Is h × (bytes ++ more ≡ print h ++ rest)
      → Is h × (take n bytes ++ (drop n bytes ++ more) ≡ print h ++ rest)
  beyond bytes n h rest more reads = (reads.0, sym (take_then n bytes more) ∙ reads.1)
