-- Places that are visited one after the other.
use Rattle.std.proofs.Common.{◌≡◌, ◌≢◌, inl, inr, ℕ, zero, suc, ◌+◌, ◌*◌, ◌<◌, ◌≤◌, nat_lt, Bool, true}
use Rattle.std.proofs.Common.{false, List, [], ◌∷◌, ◌++◌, Contains, refl, ap, sym, ◌∙◌, subst, arith}
use Rattle.std.proofs.lemmas.Bool.Decides.{nat_tests}
use Rattle.std.proofs.lemmas.List.Elements.{Contains-append_left, Contains-append_right, Contains-append_cases}
use Rattle.base_lists.proofs.Members.{Contains-nil, Contains-head, Contains-tail}
use Rattle.base_lists.proofs.Totals.{total-append}
use Rattle.grant_board.specs.Views.{KeeperView, grant, at_place, count_at}
use Rattle.grant_board.proofs.Grants.{at_place-no}
use Rattle.std.proofs.Common.{Option, None, Some, IfSome, IfNone}
use Rattle.grant_board.specs.declared.returned.Return.{Return}
use Rattle.grant_board.specs.KeeperCalls.{FindsUnposted}
use Rattle.log_entries.specs.Histories.{effective}
use Rattle.locked_book.specs.Calls.{Booked, TakesBack, grants_in, added}
use Rattle.locked_book.specs.Turns.{Visits, VisitsFrom, WalksBlock, WalksBlocks, WalksAll, Stops}

-- the part of a walk over the places from one number up to another: each of them that was out at
-- first was visited
pub record Walks (moment low high : ℕ) (old : Booked) (woken : List ℕ) (new : Booked) (woken_then : List ℕ) : Type 0 where
  pub places : List ℕ
  pub visits : VisitsFrom moment low places old woken new woken_then
  pub below : (place : ℕ) → Contains places place → place < high
  pub all : (place : ℕ) → low ≤ place → place < high → 0 < count_at place old.view.out → Contains places place

-- the places that were out at first were visited, from a number up to a place that is out and was
-- next
pub record StopsBelow (moment first : ℕ) (old : Booked) (woken : List ℕ) (new : Booked) (woken_then : List ℕ) : Type 0 where
  pub places : List ℕ
  pub visits : VisitsFrom moment first places old woken new woken_then
  pub next : ℕ
  pub from : first ≤ next
  pub above : (place : ℕ) → Contains places place → place < next
  pub all : (place : ℕ) → first ≤ place → place < next → 0 < count_at place old.view.out → Contains places place
  pub out : 0 < count_at next new.view.out

-- a visit leaves the other places out
pub visit_keeps : (m p q : ℕ) (old : Booked) (woken : List ℕ) (new : Booked) (woken_then : List ℕ) → q ≢ p → Visits m p old woken new woken_then
    → 0 < count_at q old.view.out → 0 < count_at q new.view.out
visit_keeps m p q old woken new woken_then apart visit out =
    elim visit.found [
      | inl took ↦
          let t = took.1 in
          let g = grant p took.0.ticket t.collects.verdict in
          let gs = grants_in new.history (added old.history new.history) in
          let view : count_at q new.view.out ≡ count_at q (t.between.out ++ gs) = ap (λ (v : KeeperView). count_at q v.out) t.view in
          omega (arith, out, view, total-append (at_place q) t.between.out gs, t.collects.weighs (at_place q), at_place-no q g (λ same. apart (sym same)))
      | inr none ↦ subst (λ (v : KeeperView). 0 < count_at q v.out) (sym none.1.after) out
    ]

-- more visits, above all of them
pub visits_after : (m : ℕ) (places others : List ℕ) (first mid : ℕ) (a : Booked) (woken_a : List ℕ) (b : Booked) (woken_b : List ℕ) (c : Booked)
    (woken_c : List ℕ) → first ≤ mid → ((q : ℕ) → Contains places q → q < mid)
    → VisitsFrom m first places a woken_a b woken_b → VisitsFrom m mid others b woken_b c woken_c
    → VisitsFrom m first (places ++ others) a woken_a c woken_c
visits_after m [] [] first mid a woken_a b woken_b c woken_c low below some more = (more.0 ∙ some.0, more.1 ∙ some.1)
visits_after m [] (p ∷ others) first mid a woken_a b woken_b c woken_c low below some more =
    subst (λ (it : Booked). VisitsFrom m first (p ∷ others) it woken_a c woken_c) some.0
    (subst (λ l. VisitsFrom m first (p ∷ others) b l c woken_c) some.1 (let up = more.0 in omega (arith, low, up), more.1))
visits_after m (q ∷ places) others first mid a woken_a b woken_b c woken_c low below some more = (
  some.0,
  (
    some.1.0,
    some.1.1,
    some.1.2,
    visits_after m places others (q + 1) mid some.1.0 some.1.1 b woken_b c woken_c
        (let less = below q (Contains-head q places) in omega (arith, less)) (λ r there. below r (Contains-tail q places r there)) some.1.3 more,
  ),
)

-- visits of places below a number leave those from it on out
pub visits_keep : (m : ℕ) (places : List ℕ) (first mid q : ℕ) (a : Booked) (woken_a : List ℕ) (b : Booked) (woken_b : List ℕ)
    → ((p : ℕ) → Contains places p → p < mid) → mid ≤ q → VisitsFrom m first places a woken_a b woken_b
    → 0 < count_at q a.view.out → 0 < count_at q b.view.out
visits_keep m [] first mid q a woken_a b woken_b below high some out = subst (λ (it : Booked). 0 < count_at q it.view.out) (sym some.0) out
visits_keep m (p ∷ places) first mid q a woken_a b woken_b below high some out =
    visits_keep m places (p + 1) mid q some.1.0 some.1.1 b woken_b (λ r there. below r (Contains-tail p places r there)) high some.1.3
    (visit_keeps m p q a woken_a some.1.0 some.1.1 (λ same. let less = below p (Contains-head p places) in absurd (omega (arith, same, less, high)))
    some.1.2 out)

-- one walk after the other
pub walks_after : (m low mid high : ℕ) (a : Booked) (woken_a : List ℕ) (b : Booked) (woken_b : List ℕ) (c : Booked) (woken_c : List ℕ)
    → low ≤ mid → mid ≤ high → Walks m low mid a woken_a b woken_b → Walks m mid high b woken_b c woken_c → Walks m low high a woken_a c woken_c
walks_after m low mid high a woken_a b woken_b c woken_c from up is more = record {
  places = is.places ++ more.places;
  visits = visits_after m is.places more.places low mid a woken_a b woken_b c woken_c from is.below is.visits more.visits;
  below = λ q there. elim (Contains-append_cases is.places more.places q there) [
    | inl old ↦ let less = is.below q old in omega (arith, less, up)
    | inr new ↦ more.below q new
  ];
  all = λ q after less out. by_place q after less out (nat_lt q mid) refl;
}
  where
    by_place : (q : ℕ) → low ≤ q → q < high → 0 < count_at q a.view.out → (b : Bool) → nat_lt q mid ≡ b → Contains (is.places ++ more.places) q
    by_place q after less out true e = Contains-append_left is.places more.places q (is.all q after (grind (arith, nat_tests)) out)
    by_place q after less out false e =
        let high_enough : mid ≤ q = grind (arith, nat_tests) in
        Contains-append_right is.places more.places q
        (more.all q high_enough less (visits_keep m is.places low mid q a woken_a b woken_b is.below high_enough is.visits out))

-- a look that found something, or nothing
pub visit_of : (m p : ℕ) (old : Booked) (woken : List ℕ) (new : Booked) (woken_then : List ℕ) (found : Option Return) → 0 < count_at p old.view.out
    → IfSome found (λ back. TakesBack old new p (effective old.history m) back woken woken_then)
    → IfNone found ((new.history ≡ old.history) × FindsUnposted old.view new.view p × (woken_then ≡ woken))
    → Visits m p old woken new woken_then
visit_of m p old woken new woken_then None out some none = record { out = out; found = inr none }
visit_of m p old woken new woken_then (Some back) out some none = record { out = out; found = inl (back, some) }

-- a walk that stopped within its next part
pub stopped : (m low : ℕ) (a : Booked) (woken_a : List ℕ) (b : Booked) (woken_b : List ℕ) (c : Booked) (woken_c : List ℕ) (mid : ℕ)
    → low ≤ mid → Walks m low mid a woken_a b woken_b → StopsBelow m mid b woken_b c woken_c → StopsBelow m low a woken_a c woken_c
stopped m low a woken_a b woken_b c woken_c mid from is more = record {
  places = is.places ++ more.places;
  visits = visits_after m is.places more.places low mid a woken_a b woken_b c woken_c from is.below is.visits more.visits;
  next = more.next;
  from = let up = more.from in omega (arith, from, up);
  above = λ q there. elim (Contains-append_cases is.places more.places q there) [
    | inl old ↦ let less = is.below q old in let up = more.from in omega (arith, less, up)
    | inr new ↦ more.above q new
  ];
  all = λ q after less out. by_place q after less out (nat_lt q mid) refl;
  out = more.out;
}
  where
    by_place : (q : ℕ) → low ≤ q → q < more.next → 0 < count_at q a.view.out → (b : Bool) → nat_lt q mid ≡ b
        → Contains (is.places ++ more.places) q
    by_place q after less out true e = Contains-append_left is.places more.places q (is.all q after (grind (arith, nat_tests)) out)
    by_place q after less out false e =
        let high_enough : mid ≤ q = grind (arith, nat_tests) in
        Contains-append_right is.places more.places q
        (more.all q high_enough less (visits_keep m is.places low mid q a woken_a b woken_b is.below high_enough is.visits out))

-- a block's walk visits each of the block's places that was out at first
pub block_walks : (m n : ℕ) (a : Booked) (woken_a : List ℕ) (b : Booked) (woken_b : List ℕ)
    → WalksBlock m n a woken_a b woken_b → Walks m (64 * n) (64 * n + 64) a woken_a b woken_b
block_walks m n a woken_a b woken_b is = record {
  places = is.places;
  visits = is.visits;
  below = λ q there. let at = ((is.exact q).0 there).0 in omega (arith, at);
  all = λ q from to out. (is.exact q).1 (omega (arith, from, to), out);
}

-- and so do the walks over blocks one after the other, though a later one begins with what the
-- earlier ones left
pub blocks_walk : (m n : ℕ) (a : Booked) (woken_a : List ℕ) (b : Booked) (woken_b : List ℕ)
    → WalksBlocks m n a woken_a b woken_b → Walks m 0 (64 * n) a woken_a b woken_b
blocks_walk m zero a woken_a b woken_b is = record {
  places = [];
  visits = is;
  below = λ q there. absurd (Contains-nil q there);
  all = λ q from to out. absurd (omega (arith, to));
}
blocks_walk m (suc n) a woken_a b woken_b is =
    let next : 64 * n + 64 ≡ 64 * suc n = omega arith in
    subst (λ high. Walks m 0 high a woken_a b woken_b) next
    (walks_after m 0 (64 * n) (64 * n + 64) a woken_a is.0 is.1 b woken_b (omega arith) (omega arith)
    (blocks_walk m n a woken_a is.0 is.1 is.2) (block_walks m n is.0 is.1 b woken_b is.3))

-- in a whole walk each place that was out at first is visited
pub all_visited : (m : ℕ) (a : Booked) (woken_a : List ℕ) (b : Booked) (woken_b : List ℕ) → WalksAll m a woken_a b woken_b
    → (places : List ℕ) × VisitsFrom m 0 places a woken_a b woken_b × ((q : ℕ) → 0 < count_at q a.view.out → Contains places q)
all_visited m a woken_a b woken_b is =
    let walks = blocks_walk m is.blocks a woken_a b woken_b is.walks in
    (walks.places, walks.visits, λ q out. walks.all q (omega arith) (is.all q out) out)

-- in one that stopped, each that was out at first below the place that was next
pub stops_below : (m : ℕ) (a : Booked) (woken_a : List ℕ) (b : Booked) (woken_b : List ℕ) → Stops m a woken_a b woken_b
    → StopsBelow m 0 a woken_a b woken_b
stops_below m a woken_a b woken_b is =
    stopped m 0 a woken_a is.between is.woken_between b woken_b (64 * is.number) (omega arith)
    (blocks_walk m is.number a woken_a is.between is.woken_between is.walks) (record {
      places = is.stops.places;
      visits = is.stops.visits;
      next = is.stops.next;
      from = let at = is.stops.in_block in omega (arith, at);
      above = λ q there. ((is.stops.exact q).0 there).1;
      all = λ q from less out. let at = is.stops.in_block in (is.stops.exact q).1 (omega (arith, at, from, less), less, out);
      out = is.stops.out;
    })
