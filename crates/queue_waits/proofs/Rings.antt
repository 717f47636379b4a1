-- Links from cell to cell, and what a change of some of them does.
use Rattle.std.proofs.Common.{◌≡◌, ◌≢◌, ℕ, zero, suc, ◌≤◌, ◌⊎◌, List, [], ◌∷◌, ◌++◌, Contains, Some, None, cond, eqb}
use Rattle.std.proofs.Common.{length, slice_get, refl, sym, ap, subst, ◌∙◌, inl, inr, arith}
use Rattle.std.proofs.lemmas.Bool.{eq-eqb, ne_eqb}
use Rattle.std.proofs.lemmas.List.Elements.{Contains-append_left, Contains-append_right}
use Rattle.base_lists.specs.Once.{ComeOnce}
use Rattle.queue_waits.specs.Order.{next_after}
use Rattle.queue_waits.specs.Links.{AreLinked, walk}
use Rattle.base_lists.proofs.Members.{Contains-head, Contains-tail, Contains-middle}

module _ (f g : ℕ → ℕ) where
  -- a cell's neighbours
  pub before_in : (from : ℕ) (xs : List ℕ) (p : ℕ) (ys : List ℕ) (to : ℕ) → AreLinked f g from (xs ++ p ∷ ys) to → Contains (from ∷ xs) (g p)
  before_in from [] p ys to links = subst (Contains (from ∷ [])) (sym links.1) (Contains-head from [])
  before_in from (x ∷ xs) p ys to links = Contains-tail from (x ∷ xs) (g p) (before_in x xs p ys to links.2)

  pub last_in : (from : ℕ) (xs : List ℕ) (to : ℕ) → AreLinked f g from xs to → Contains (from ∷ xs) (g to)
  last_in from [] to links = subst (Contains (from ∷ [])) (sym links.1) (Contains-head from [])
  last_in from (x ∷ xs) to links = Contains-tail from (x ∷ xs) (g to) (last_in x xs to links.2)

  -- where the first cell leads
  pub head_next : (from : ℕ) (xs : List ℕ) (to : ℕ) → AreLinked f g from xs to → Contains xs (f from) ⊎ (f from ≡ to)
  head_next from [] to links = inr links.0
  head_next from (x ∷ xs) to links = inl (subst (Contains (x ∷ xs)) (sym links.0) (Contains-head x xs))

  pub linked_after : (from : ℕ) (xs : List ℕ) (p : ℕ) (ys : List ℕ) (to : ℕ) → AreLinked f g from (xs ++ p ∷ ys) to → AreLinked f g p ys to
  linked_after from [] p ys to links = links.2
  linked_after from (x ∷ xs) p ys to links = linked_after x xs p ys to links.2

  -- a walk passes just the linked cells
  pub walk_is : (from : ℕ) (xs : List ℕ) (to steps : ℕ) → AreLinked f g from xs to → ¬ (Contains xs to) → length xs ≤ steps
      → walk f to steps (f from) ≡ xs
  walk_is from [] to zero links apart enough = refl
  walk_is from [] to (suc steps) links apart enough = ap (λ b. cond b [] (f from ∷ walk f to steps (f (f from)))) (eq-eqb (f from) to links.0)
  walk_is from (x ∷ xs) to zero links apart enough = absurd (omega arith)
  walk_is from (x ∷ xs) to (suc steps) links apart enough =
      let other : f from ≢ to = λ same. apart (subst (Contains (x ∷ xs)) (sym links.0 ∙ same) (Contains-head x xs)) in
      ap (λ b. cond b [] (f from ∷ walk f to steps (f (f from)))) (ne_eqb (f from) to other) ∙ ap (λ y. y ∷ walk f to steps (f y)) links.0
      ∙ ap (λ l. x ∷ l) (walk_is x xs to steps links.2 (λ among. apart (Contains-tail x xs to among)) (omega arith))

  -- the first place of a list, by the links
  pub first_is : (from : ℕ) (xs : List ℕ) (to : ℕ) → AreLinked f g from xs to → ¬ (Contains xs to)
      → slice_get xs 0 ≡ cond (eqb (f from) to) None (Some (f from))
  first_is from [] to links apart = ap (λ b. cond b None (Some (f from))) (sym (eq-eqb (f from) to links.0))
  first_is from (x ∷ xs) to links apart =
      let other : f from ≢ to = λ same. apart (subst (Contains (x ∷ xs)) (sym links.0 ∙ same) (Contains-head x xs)) in
      ap Some (sym links.0) ∙ ap (λ b. cond b None (Some (f from))) (sym (ne_eqb (f from) to other))

-- the place after one, in the list
pub next_after_parts : (xs : List ℕ) (p : ℕ) (ys : List ℕ) → ComeOnce (xs ++ p ∷ ys) → next_after p (xs ++ p ∷ ys) ≡ slice_get ys 0
next_after_parts [] p ys once = ap (λ b. cond b (slice_get ys 0) (next_after p ys)) (eq-eqb p p refl)
next_after_parts (x ∷ xs) p ys once =
    let differs : x ≢ p = λ same. once.0 (subst (λ z. Contains (xs ++ p ∷ ys) z) (sym same) (Contains-middle xs p ys)) in
    ap (λ b. cond b (slice_get (xs ++ p ∷ ys) 0) (next_after p (xs ++ p ∷ ys))) (ne_eqb x p differs) ∙ next_after_parts xs p ys once.1

module _ (f g f' g' : ℕ → ℕ) where
  -- the same links where both agree
  pub links_agree : (from : ℕ) (xs : List ℕ) (to : ℕ) → ((z : ℕ) → Contains (from ∷ xs) z → f' z ≡ f z)
      → ((z : ℕ) → Contains xs z ⊎ (z ≡ to) → g' z ≡ g z) → AreLinked f g from xs to → AreLinked f' g' from xs to
  links_agree from [] to forth back links = (forth from (Contains-head from []) ∙ links.0, back to (inr refl) ∙ links.1)
  links_agree from (x ∷ xs) to forth back links = (
    forth from (Contains-head from (x ∷ xs)) ∙ links.0,
    back x (inl (Contains-head x xs)) ∙ links.1,
    links_agree x xs to (λ z among. forth z (Contains-tail from (x ∷ xs) z among)) (λ z at. back z (further x xs to z at)) links.2,
  )
    where
      further : (x : ℕ) (xs : List ℕ) (to z : ℕ) → Contains xs z ⊎ (z ≡ to) → Contains (x ∷ xs) z ⊎ (z ≡ to)
      further x xs to z (inl among) = inl (Contains-tail x xs z among)
      further x xs to z (inr end) = inr end

  -- a cell is taken out: the one before leads to the one after
  module _ (p : ℕ) (joined_next : f' (g p) ≡ f p) (joined_back : g' (f p) ≡ g p) (next_kept : (z : ℕ) → z ≢ g p → z ≢ p → f' z ≡ f z)
      (back_kept : (z : ℕ) → z ≢ f p → g' z ≡ g z) where
    pub unlinked : (from : ℕ) (xs ys : List ℕ) (to : ℕ) → AreLinked f g from (xs ++ p ∷ ys) to → ¬ (Contains (xs ++ p ∷ ys) from)
        → ComeOnce (xs ++ p ∷ ys) → ¬ (Contains (xs ++ p ∷ ys) to) → AreLinked f' g' from (xs ++ ys) to
    unlinked from [] [] to links away once apart = (
      ap f' (sym links.1) ∙ joined_next ∙ links.2.0,
      ap g' (sym links.2.0) ∙ joined_back ∙ links.1,
    )
    unlinked from [] (y ∷ ys) to links away once apart = (
      ap f' (sym links.1) ∙ joined_next ∙ links.2.0,
      ap g' (sym links.2.0) ∙ joined_back ∙ links.1,
      links_agree y ys to
          (λ z among. next_kept z (λ same. away (subst (Contains (p ∷ y ∷ ys)) (same ∙ links.1) (Contains-tail p (y ∷ ys) z among)))
          (λ same. once.0 (subst (Contains (y ∷ ys)) same among)))
          (λ z at. back_kept z (λ same. elim at [
            | inl among ↦ once.1.0 (subst (Contains ys) (same ∙ links.2.0) among)
            | inr end ↦ apart (subst (Contains (p ∷ y ∷ ys)) (sym links.2.0 ∙ sym same ∙ end) (Contains-tail p (y ∷ ys) y (Contains-head y ys)))
          ]))
          links.2.2,
    )
    unlinked from (x ∷ xs) ys to links away once apart = (
      next_kept from (λ same. away (within (subst (Contains (x ∷ xs)) (sym same) (before_in f g x xs p ys to links.2))))
          (λ same. away (subst (λ z. Contains (x ∷ xs ++ p ∷ ys) z) (sym same) (Contains-tail x (xs ++ p ∷ ys) p (Contains-middle xs p ys))))
          ∙ links.0,
      back_kept x (λ same. elim (head_next f g p ys to (linked_after f g x xs p ys to links.2)) [
        | inl among ↦ once.0 (Contains-append_right xs (p ∷ ys) x (Contains-tail p ys x (subst (Contains ys) (sym same) among)))
        | inr end ↦ apart (subst (Contains (x ∷ xs ++ p ∷ ys)) (same ∙ end) (Contains-head x (xs ++ p ∷ ys)))
      ]) ∙ links.1,
      unlinked x xs ys to links.2 once.0 once.1 (λ among. apart (Contains-tail x (xs ++ p ∷ ys) to among)),
    )
      where
        within : Contains (x ∷ xs) from → Contains (x ∷ xs ++ p ∷ ys) from
        within among = Contains-append_left (x ∷ xs) (p ∷ ys) from among

  -- a cell is put at the end
  module _ (p to : ℕ) (led_next : f' (g to) ≡ p) (led_back : g' p ≡ g to) (end_next : f' p ≡ to) (end_back : g' to ≡ p)
      (next_kept : (z : ℕ) → z ≢ g to → z ≢ p → f' z ≡ f z) (back_kept : (z : ℕ) → z ≢ p → z ≢ to → g' z ≡ g z) where
    pub linked_at_end : (from : ℕ) (xs : List ℕ) → AreLinked f g from xs to → ¬ (Contains xs from) → ComeOnce xs → ¬ (Contains xs to)
        → ¬ (Contains (from ∷ xs) p) → AreLinked f' g' from (xs ++ p ∷ []) to
    linked_at_end from [] links away once apart absent = (ap f' (sym links.1) ∙ led_next, led_back ∙ links.1, (end_next, end_back))
    linked_at_end from (x ∷ xs) links away once apart absent = (
      next_kept from (λ same. away (subst (Contains (x ∷ xs)) (sym same) (last_in f g x xs to links.2)))
          (λ same. absent (subst (Contains (from ∷ x ∷ xs)) same (Contains-head from (x ∷ xs)))) ∙ links.0,
      back_kept x (λ same. absent (Contains-tail from (x ∷ xs) p (subst (Contains (x ∷ xs)) same (Contains-head x xs))))
          (λ same. apart (subst (Contains (x ∷ xs)) same (Contains-head x xs))) ∙ links.1,
      linked_at_end x xs links.2 once.0 once.1 (λ among. apart (Contains-tail x xs to among)) (λ among. absent (Contains-tail from (x ∷ xs) p among)),
    )
