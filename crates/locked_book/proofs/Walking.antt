-- A walk over a block of places that were out when it began.
use Rattle.std.proofs.Common.{◌≡◌, ◌≢◌, ℕ, inl, inr, ◌+◌, ◌*◌, ◌/◌, ◌<◌, ◌≤◌, ◌↔◌, nat_lt, Bool, true, false}
use Rattle.std.proofs.Common.{List, [], ◌∷◌, ◌++◌, Contains, refl, sym, subst, arith}
use mathlib.Core.Logic.{dite}
use native.Mathlib.Decide.{ℕ_discrete}
use Rattle.std.proofs.lemmas.Bool.Decides.{nat_tests}
use Rattle.std.proofs.lemmas.List.Elements.{Contains-append_left, Contains-append_right, Contains-append_cases}
use Rattle.base_lists.proofs.Members.{Contains-nil, Contains-head, Contains-cases}
use Rattle.base_places.specs.Sets.{Ahead, HasAhead, IsFirstAhead}
use Rattle.grant_board.specs.Views.{count_at}
use Rattle.locked_book.specs.Calls.{Booked}
use Rattle.locked_book.specs.Turns.{Visits, VisitsFrom, WalksBlock, StopsInBlock}
use Rattle.locked_book.proofs.Turns.{visits_after, visit_keeps}

-- how far it has come: of the block's places that were out at first, those below a number were
-- visited, and the others are ahead, and are out still
pub record IsWalking (m number places : ℕ) (first : Booked) (before : List ℕ) (now : Booked) (woken : List ℕ) (ahead : Ahead) : Type 0 where
  pub from : ℕ
  pub no_lower : 64 * number ≤ from
  pub visited : List ℕ
  pub visits : VisitsFrom m (64 * number) visited first before now woken
  pub done : (q : ℕ) → Contains visited q ↔ ((q / 64 ≡ number) × (q < from) × (0 < count_at q first.view.out))
  pub later : (q : ℕ) → HasAhead ahead q ↔ ((q / 64 ≡ number) × (from ≤ q) × (0 < count_at q first.view.out))
  pub in_range : (q : ℕ) → HasAhead ahead q → q < places
  pub out : (q : ℕ) → HasAhead ahead q → 0 < count_at q now.view.out

pub walking_begins : (m number places : ℕ) (first : Booked) (before : List ℕ) (ahead : Ahead)
    → ((q : ℕ) → HasAhead ahead q ↔ ((q / 64 ≡ number) × (0 < count_at q first.view.out))) → ((q : ℕ) → HasAhead ahead q → q < places)
    → IsWalking m number places first before first before ahead
walking_begins m number places first before ahead is in_range = record {
  from = 64 * number;
  no_lower = omega arith;
  visited = [];
  visits = (refl, refl);
  done = λ q. (
    λ there. absurd (Contains-nil q there),
    λ it. let at = it.0 in let less = it.1 in absurd (omega (arith, at, less)),
  );
  later = λ q. (
    λ has. let it = (is q).0 has in let at = it.0 in (at, omega (arith, at), it.1),
    λ it. (is q).1 (it.0, it.2),
  );
  in_range = in_range;
  out = λ q has. ((is q).0 has).1;
}

module _ (m number places : ℕ) (first : Booked) (before : List ℕ) (now : Booked) (woken : List ℕ) (ahead : Ahead)
    (is : IsWalking m number places first before now woken ahead) where
  -- those that were out at first and come before the first that is ahead were visited
  done_before : (p : ℕ) → IsFirstAhead ahead p → (q : ℕ) → q / 64 ≡ number → q < p → 0 < count_at q first.view.out → Contains is.visited q
  done_before p at q in_block less out = by_place (nat_lt q is.from) refl
    where
      by_place : (b : Bool) → nat_lt q is.from ≡ b → Contains is.visited q
      by_place true e = (is.done q).1 (in_block, grind (arith, nat_tests), out)
      by_place false e =
          let high_enough : is.from ≤ q = grind (arith, nat_tests) in
          let no_lower = at.first q ((is.later q).1 (in_block, high_enough, out)) in
          absurd (omega (arith, no_lower, less))

  pub walking_goes : (p : ℕ) (next : Ahead) (then : Booked) (woken_then : List ℕ) → IsFirstAhead ahead p
      → ((q : ℕ) → HasAhead next q ↔ ((q ≢ p) × HasAhead ahead q)) → Visits m p now woken then woken_then
      → IsWalking m number places first before then woken_then next
  walking_goes p next then woken_then at less visit =
      let it = (is.later p).0 at.there in
      let up = it.1 in
      let low_from = is.no_lower in record {
        from = p + 1;
        no_lower = omega (arith, up, low_from);
        visited = is.visited ++ p ∷ [];
        visits = visits_after m is.visited (p ∷ []) (64 * number) is.from first before now woken then woken_then low_from
            (λ q there. ((is.done q).0 there).1) is.visits (up, (then, woken_then, visit, (refl, refl)));
        done = λ q. (
          λ there. elim (Contains-append_cases is.visited (p ∷ []) q there) [
            | inl old ↦ let had = (is.done q).0 old in let low = had.1 in (had.0, omega (arith, low, up), had.2)
            | inr new ↦ elim (Contains-cases p [] q new) [
              | inl same ↦ subst (λ r. (r / 64 ≡ number) × (r < p + 1) × (0 < count_at r first.view.out)) same (it.0, omega arith, it.2)
              | inr nil ↦ absurd (Contains-nil q nil)
            ]
          ],
          λ had. dite (ℕ_discrete q p)
              (λ same. Contains-append_right is.visited (p ∷ []) q (subst (Contains (p ∷ [])) (sym same) (Contains-head p [])))
              (λ apart. let low = had.1 in Contains-append_left is.visited (p ∷ []) q (done_before p at q had.0 (omega (arith, low, apart)) had.2)),
        );
        later = λ q. (
          λ has.
              let had = (less q).0 has in
              let apart = had.0 in
              let no_lower = at.first q had.1 in
              let was = (is.later q).0 had.1 in (was.0, omega (arith, apart, no_lower), was.2),
          λ had.
              let high = had.1 in
              (less q).1 (λ same. absurd (omega (arith, same, high)), (is.later q).1 (had.0, omega (arith, up, high), had.2)),
        );
        in_range = λ q has. is.in_range q ((less q).0 has).1;
        out = λ q has. let had = (less q).0 has in visit_keeps m p q now woken then woken_then had.0 visit (is.out q had.1);
      }

  pub walking_stops : (p : ℕ) → IsFirstAhead ahead p → StopsInBlock m number first before now woken
  walking_stops p at =
      let it = (is.later p).0 at.there in
      let up = it.1 in record {
        places = is.visited;
        visits = is.visits;
        next = p;
        in_block = it.0;
        exact = λ q. (
          λ there. let had = (is.done q).0 there in let low = had.1 in (had.0, omega (arith, low, up), had.2),
          λ had. done_before p at q had.0 had.1 had.2,
        );
        was_out = it.2;
        out = is.out p at.there;
      }

  pub walking_ends : ((q : ℕ) → HasAhead ahead q → ⊥) → WalksBlock m number first before now woken
  walking_ends none = record {
    places = is.visited;
    visits = is.visits;
    exact = λ q. (
      λ there. let had = (is.done q).0 there in (had.0, had.2),
      λ had. by_place q had.0 had.1 (nat_lt q is.from) refl,
    );
  }
    where
      by_place : (q : ℕ) → q / 64 ≡ number → 0 < count_at q first.view.out → (b : Bool) → nat_lt q is.from ≡ b → Contains is.visited q
      by_place q in_block out true e = (is.done q).1 (in_block, grind (arith, nat_tests), out)
      by_place q in_block out false e = absurd (none q ((is.later q).1 (in_block, grind (arith, nat_tests), out)))
