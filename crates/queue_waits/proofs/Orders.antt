-- The order in which requests joined while one begins or stops to wait.
use Rattle.std.proofs.Common.{◌≡◌, ◌≢◌, ℕ, ◌==◌, not, Bool, true, false, List, [], ◌∷◌, ◌++◌, None, Some}
use Rattle.std.proofs.Common.{slice_get, Contains, refl, ap, sym, ◌∙◌, subst, inl, inr}
use Rattle.std.proofs.Math.ListN.{set}
use Rattle.std.proofs.lemmas.Bool.Decides.{Decides-eqb}
use Rattle.std.proofs.lemmas.List.Elements.{Contains-append_left, Contains-append_right, Contains-push_cases}
use Rattle.std.proofs.lemmas.Option.{same_Some}
use Rattle.base_lists.proofs.Places.{get-set_same, get-set_other, get-set_cases}
use Rattle.base_lists.proofs.Members.{Contains-filter, Contains-filter_kept}
use Rattle.queue_waits.specs.declared.waiters.Waiter.{Waiter}
use Rattle.base_lists.specs.Once.{ComeOnce}
use Rattle.queue_waits.specs.Order.{places_without}
use Rattle.queue_waits.specs.Waitlists.{Waiters, WaitsAt, IsOrderOf}
use Rattle.base_lists.proofs.Members.{Contains-head}
use Rattle.base_lists.proofs.Once.{split_at, once_push, once_around}
use Rattle.queue_waits.proofs.Members.{without_parts}

-- a place that nobody waits at isn't in the order
pub vacant_absent : (ws : Waiters) (order : List ℕ) (p : ℕ) → IsOrderOf ws order → slice_get ws p ≡ Some None → ¬ (Contains order p)
vacant_absent ws order p is vacant among =
    let it = is.waits p among in
    let no : None ≡ Some it.0 = same_Some None (Some it.0) (sym vacant ∙ it.1) in
    cc

once_without : (order : List ℕ) (p : ℕ) → ComeOnce order → Contains order p → ComeOnce (places_without p order)
once_without order p once among =
    let parts = split_at order p among in
    let apart : ComeOnce (parts.before ++ p ∷ parts.after) = subst ComeOnce parts.parts once in
    subst ComeOnce (sym (ap (places_without p) parts.parts ∙ without_parts parts.before p parts.after apart)) (once_around parts.before p parts.after apart)

other_place : (place p : ℕ) → not (place == p) ≡ true → place ≢ p
other_place place p e same = let t : (place == p) ≡ true = (Decides-eqb place p).1 same in let no : not true ≡ true = ap not (sym t) ∙ e in cc

kept_place : (place p : ℕ) → place ≢ p → not (place == p) ≡ true
kept_place place p differs = by_test (place == p) refl
  where
    by_test : (b : Bool) → (place == p) ≡ b → not (place == p) ≡ true
    by_test true e = absurd (differs ((Decides-eqb place p).0 e))
    by_test false e = ap not e

pub place_gone : (order : List ℕ) (p : ℕ) → ¬ (Contains (places_without p order) p)
place_gone order p among = other_place p p (Contains-filter (λ other. not (other == p)) order p among).1 refl

-- one more begins to wait
pub ordered_more : (ws : Waiters) (order : List ℕ) (p : ℕ) (w : Waiter) → IsOrderOf ws order → slice_get ws p ≡ Some None
    → IsOrderOf (set ws p (Some w)) (order ++ p ∷ [])
ordered_more ws order p w is vacant = record {
  once = once_push order p is.once (vacant_absent ws order p is vacant);
  waits = λ place among.
      elim (Contains-push_cases order p place among) [
        | inl old ↦
            let it = is.waits place old in
            (it.0, get-set_other ws p place (Some w) (λ same. vacant_absent ws order p is vacant (subst (Contains order) same old)) ∙ it.1)
        | inr new ↦ (w, subst (λ n. WaitsAt (set ws p (Some w)) n w) new (get-set_same ws p None (Some w) vacant))
      ];
  all = λ place v waits.
      elim (get-set_cases ws p place None (Some w) (Some v) vacant waits) [
        | inl here ↦ subst (Contains (order ++ p ∷ [])) (sym here.0) (Contains-append_right order (p ∷ []) p (Contains-head p []))
        | inr there ↦ Contains-append_left order (p ∷ []) place (is.all place v there.1)
      ];
}

-- one stops to wait
pub ordered_less : (ws : Waiters) (order : List ℕ) (p : ℕ) (w : Waiter) → IsOrderOf ws order → WaitsAt ws p w
    → IsOrderOf (set ws p None) (places_without p order)
ordered_less ws order p w is waits = record {
  once = once_without order p is.once (is.all p w waits);
  waits = λ place among.
      let kept = Contains-filter (λ other. not (other == p)) order place among in
      let it = is.waits place kept.0 in
      (it.0, get-set_other ws p place None (other_place place p kept.1) ∙ it.1);
  all = λ place v waits_so.
      elim (get-set_cases ws p place (Some w) None (Some v) waits waits_so) [
        | inl here ↦ let no : None ≡ Some v = here.1 in cc
        | inr there ↦ Contains-filter_kept (λ other. not (other == p)) order place (is.all place v there.1) (kept_place place p there.0)
      ];
}
