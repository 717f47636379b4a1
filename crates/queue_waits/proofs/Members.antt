-- The places without one of them.
use Rattle.std.proofs.Common.{◌≡◌, ◌≢◌, ℕ, not, cond, List, [], ◌∷◌, ◌++◌, Contains, refl, sym, ap, subst, ◌∙◌}
use Rattle.std.proofs.lemmas.Bool.{eq-eqb, ne_eqb}
use Rattle.base_lists.specs.Once.{ComeOnce}
use Rattle.base_lists.proofs.Members.{Contains-head, Contains-tail, Contains-middle}
use Rattle.queue_waits.specs.Order.{places_without}

without_absent : (xs : List ℕ) (x : ℕ) → ¬ (Contains xs x) → places_without x xs ≡ xs
without_absent [] x absent = refl
without_absent (y ∷ xs) x absent =
    let differs : y ≢ x = λ same. absent (subst (Contains (y ∷ xs)) same (Contains-head y xs)) in
    ap (λ b. cond (not b) (y ∷ places_without x xs) (places_without x xs)) (ne_eqb y x differs)
    ∙ ap (λ l. y ∷ l) (without_absent xs x (λ among. absent (Contains-tail y xs x among)))

pub without_parts : (xs : List ℕ) (x : ℕ) (ys : List ℕ) → ComeOnce (xs ++ x ∷ ys) → places_without x (xs ++ x ∷ ys) ≡ xs ++ ys
without_parts [] x ys once =
    ap (λ b. cond (not b) (x ∷ places_without x ys) (places_without x ys)) (eq-eqb x x refl) ∙ without_absent ys x once.0
without_parts (y ∷ xs) x ys once =
    let differs : y ≢ x = λ same. once.0 (subst (λ z. Contains (xs ++ x ∷ ys) z) (sym same) (Contains-middle xs x ys)) in
    ap (λ b. cond (not b) (y ∷ places_without x (xs ++ x ∷ ys)) (places_without x (xs ++ x ∷ ys))) (ne_eqb y x differs)
    ∙ ap (λ l. y ∷ l) (without_parts xs x ys once.1)
