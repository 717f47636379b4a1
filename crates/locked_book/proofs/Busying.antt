-- The set of the places that are out follows the seat.
use Rattle.std.proofs.Common.{◌≡◌, ◌≢◌, ℕ, ◌+◌, ◌*◌, ◌<◌, ◌≤◌, ◌⊎◌, ◌↔◌, inl, inr, List, [], ◌∷◌, ◌++◌, sym, subst, arith}
use mathlib.Core.Logic.{dite}
use native.Mathlib.Decide.{ℕ_discrete}
use Rattle.base_verdict.specs.declared.Verdict.{Verdict}
use Rattle.base_lists.specs.Weights.{total}
use Rattle.base_lists.proofs.Totals.{total-push}
use Rattle.base_places.specs.Sets.{Has}
use Rattle.grant_board.specs.declared.returned.Return.{Return}
use Rattle.grant_board.specs.Views.{grant, KeeperView, at_place, count_at}
use Rattle.grant_board.specs.KeeperCalls.{offer_after, Collects}
use Rattle.grant_board.proofs.Grants.{at_place-yes, at_place-no}
use Rattle.locked_book.specs.Busy.{SetIsKept}

pub kept_offer : (view : KeeperView) (places next : List ℕ) (blocks p t : ℕ) (it : Verdict)
    → SetIsKept view places blocks → p < view.terms.places → count_at p view.out ≡ 0
    → ((q : ℕ) → Has next q ↔ ((q ≡ p) ⊎ Has places q)) → SetIsKept (offer_after view (grant p t it)) next blocks
kept_offer view places next blocks p t it is low free more = record {
  few = is.few;
  in_blocks = is.in_blocks;
  few_blocks = is.few_blocks;
  within = λ q some. dite (ℕ_discrete p q) (λ same. subst (λ n. n < view.terms.places) same low)
      (λ other. is.within q (omega (arith, some, count q, at_place-no q (grant p t it) other)));
  once = λ q. dite (ℕ_discrete p q)
      (λ same. let none : count_at q view.out ≡ 0 = subst (λ n. count_at n view.out ≡ 0) same free in
      omega (arith, none, count q, at_place-yes q (grant p t it) same))
      (λ other. omega (arith, is.once q, count q, at_place-no q (grant p t it) other));
  busy = λ q. (
    λ has. elim ((more q).0 has) [
      | inl same ↦ omega (arith, count q, at_place-yes q (grant p t it) (sym same))
      | inr had ↦ let some = (is.busy q).0 had in omega (arith, count q, some)
    ],
    λ some. dite (ℕ_discrete p q) (λ same. (more q).1 (inl (sym same)))
        (λ other. (more q).1 (inr ((is.busy q).1 (omega (arith, some, count q, at_place-no q (grant p t it) other))))),
  );
}
  where
    count : (q : ℕ) → total (at_place q) (view.out ++ grant p t it ∷ []) ≡ total (at_place q) view.out + at_place q (grant p t it)
    count q = total-push (at_place q) view.out (grant p t it)

pub kept_collect : (old view : KeeperView) (places next : List ℕ) (blocks p : ℕ) (back : Return) → SetIsKept old places blocks → Collects old view p back
    → ((q : ℕ) → Has next q ↔ ((q ≢ p) × Has places q)) → SetIsKept view next blocks
kept_collect old view places next blocks p back is collects less = record {
  few = subst (λ (v : KeeperView). v.terms.places ≤ 4096) (sym collects.after) is.few;
  in_blocks = subst (λ (v : KeeperView). v.terms.places ≤ 64 * blocks) (sym collects.after) is.in_blocks;
  few_blocks = is.few_blocks;
  within = λ q some. subst (λ (v : KeeperView). q < v.terms.places) (sym collects.after) (is.within q (omega (arith, some, count q)));
  once = λ q. omega (arith, is.once q, count q);
  busy = λ q. (
    λ has. let both = (less q).0 has in let some = (is.busy q).0 both.1 in
        omega (arith, some, count q, at_place-no q (grant p back.ticket collects.verdict) (λ same. both.0 (sym same))),
    λ some. (less q).1 (
      λ same. absurd (omega (arith, some, count q, is.once q, at_place-yes q (grant p back.ticket collects.verdict) (sym same))),
      (is.busy q).1 (omega (arith, some, count q)),
    ),
  );
}
  where
    count : (q : ℕ) → total (at_place q) view.out + at_place q (grant p back.ticket collects.verdict) ≡ total (at_place q) old.out
    count q = collects.weighs (at_place q)
