-- The order in which balancing prefers servers, and the best of several.
use Rattle.std.proofs.Common.{◌≡◌, ℕ, ◌+◌, ◌*◌, ◌<◌, ◌≤◌, ◌==◌, nat_lt, ◌||◌, ◌&&◌, Bool, true, false, Option}
use Rattle.std.proofs.Common.{None, Some, MatchOption, IsTrue, slice_get, ◌↔◌, refl, ap, sym, subst, arith, ◌⊎◌, inl, inr}
use Rattle.std.specs.Option.{option_map_or}
use Rattle.std.proofs.Math.Nat.{mul_right_comm, mul-lt-mul_of_pos_right, lt_of_mul-lt-mul_right, le_of_mul-le-mul_right}
use Rattle.std.proofs.lemmas.Bool.Decides.{nat_tests}
use Rattle.log_entries.specs.declared.setup.ServerSet.{ServerSet}
use Rattle.log_entries.specs.Picks.{weight_of, load, steps_after, IsPick}
use Rattle.log_entries.specs.Scenes.{Scene, is_up, is_usable}
use Rattle.base_lists.proofs.Both.{and_second}
use Rattle.server_pick.specs.Order.{goes_before, beats, better_of}

-- the test of an order by two numbers each
test : ℕ → ℕ → ℕ → ℕ → Bool
test a b d e = nat_lt a b || ((a == b) && nat_lt d e)

split : (a b d e : ℕ) → test a b d e ≡ true → (a < b) ⊎ ((a ≡ b) × (d < e))
unfolding test
split a b d e is = by_lt (nat_lt a b) refl
  where
    by_lt : (x : Bool) → nat_lt a b ≡ x → (a < b) ⊎ ((a ≡ b) × (d < e))
    by_lt true t = inl (grind (arith, nat_tests))
    by_lt false t = inr (grind (arith, nat_tests), grind (arith, nat_tests))

less : (a b d e : ℕ) → a < b → test a b d e ≡ true
unfolding test
less a b d e lt = grind (arith, nat_tests)

tied : (a b d e : ℕ) → a ≡ b → d < e → test a b d e ≡ true
unfolding test
tied a b d e same near = grind (arith, nat_tests)

-- of three servers with weights, by their loads, weights and steps
trans : (l w d m v e n u f : ℕ) → 0 < w → 0 < v → 0 < u → test (l * v) (m * w) d e ≡ true → test (m * u) (n * v) e f ≡ true → test (l * u) (n * w) d f ≡ true
trans l w d m v e n u f pw pv pu one two = go (split (l * v) (m * w) d e one) (split (m * u) (n * v) e f two)
  where
    a : l * v * u ≡ l * u * v
    a = mul_right_comm l v u

    b : m * w * u ≡ m * u * w
    b = mul_right_comm m w u

    c : n * v * w ≡ n * w * v
    c = mul_right_comm n v w

    strict : l * u * v < n * w * v → test (l * u) (n * w) d f ≡ true
    strict lt = less (l * u) (n * w) d f (lt_of_mul-lt-mul_right v lt)

    go : (l * v < m * w) ⊎ ((l * v ≡ m * w) × (d < e)) → (m * u < n * v) ⊎ ((m * u ≡ n * v) × (e < f)) → test (l * u) (n * w) d f ≡ true
    go (inl x) (inl y) =
        let s : l * v * u < m * w * u = mul-lt-mul_of_pos_right x pu in
        let t : m * u * w < n * v * w = mul-lt-mul_of_pos_right y pw in
        strict (omega (arith, a, b, c))
    go (inl x) (inr y) =
        let s : l * v * u < m * w * u = mul-lt-mul_of_pos_right x pu in
        let t : m * u * w ≡ n * v * w = ap (λ k. k * w) y.0 in
        strict (omega (arith, a, b, c))
    go (inr x) (inl y) =
        let s : l * v * u ≡ m * w * u = ap (λ k. k * u) x.0 in
        let t : m * u * w < n * v * w = mul-lt-mul_of_pos_right y pw in
        strict (omega (arith, a, b, c))
    go (inr x) (inr y) =
        let s : l * v * u ≡ m * w * u = ap (λ k. k * u) x.0 in
        let t : m * u * w ≡ n * v * w = ap (λ k. k * w) y.0 in
        let up : l * u * v ≤ n * w * v = omega (arith, a, b, c) in
        let down : n * w * v ≤ l * u * v = omega (arith, a, b, c) in
        let low : l * u ≤ n * w = le_of_mul-le-mul_right {k = v} up pv in
        let high : n * w ≤ l * u = le_of_mul-le-mul_right {k = v} down pv in
        let first = x.1 in
        let second = y.1 in
        tied (l * u) (n * w) d f (omega arith) (omega arith)

-- a usable server has a weight
pub usable_weight : (scene : Scene) (server : ℕ) → is_usable scene server ≡ true → 0 < weight_of scene server
usable_weight scene server usable = by_server (slice_get scene.servers server) (and_second (is_up scene server) _ usable)
  where
    by_server : (it : Option ServerSet) → option_map_or (λ (x : ServerSet). nat_lt 0 x.weight) it false ≡ true
        → 0 < option_map_or (λ (x : ServerSet). x.weight) it 0
    by_server None e = cc
    by_server (Some x) e = grind (arith, nat_tests)

-- a server that is up and has a weight is usable
pub weight_usable : (scene : Scene) (server : ℕ) → is_up scene server ≡ true → 0 < weight_of scene server → is_usable scene server ≡ true
weight_usable scene server up some = rw up (by_server (slice_get scene.servers server) some)
  where
    by_server : (it : Option ServerSet) → 0 < option_map_or (λ (x : ServerSet). x.weight) it 0
        → option_map_or (λ (x : ServerSet). nat_lt 0 x.weight) it false ≡ true
    by_server None e = absurd (omega arith)
    by_server (Some x) e = grind (arith, nat_tests)

-- going before is transitive among servers with weights
pub before_trans : (scene : Scene) (cursor a b c : ℕ) → 0 < weight_of scene a → 0 < weight_of scene b → 0 < weight_of scene c
    → goes_before scene cursor a b ≡ true → goes_before scene cursor b c ≡ true → goes_before scene cursor a c ≡ true
unfolding test
before_trans scene cursor a b c = trans (load scene a) (weight_of scene a) (steps_after scene cursor a) (load scene b) (weight_of scene b)
    (steps_after scene cursor b) (load scene c) (weight_of scene c) (steps_after scene cursor c)

-- no server goes before itself
pub before_itself : (scene : Scene) (cursor a : ℕ) → goes_before scene cursor a a ≡ false
before_itself scene cursor a = grind (arith, nat_tests)

-- the best of the servers of a set below a number: none of these goes before it
abbrev pub IsBest : Scene → ℕ → (ℕ → Type 0) → ℕ → Option ℕ → Type 0
IsBest scene cursor among below best =
    MatchOption best ((server : ℕ) → server < below → among server → ⊥)
    (λ found. (found < below) × among found × ((other : ℕ) → other < below → among other → goes_before scene cursor other found ≡ false))

-- a set of usable servers
abbrev pub AreUsable : Scene → (ℕ → Type 0) → Type 0
AreUsable scene among = (server : ℕ) → among server → is_usable scene server ≡ true

pub below_cases : (k n : ℕ) → k < n + 1 → (k < n) ⊎ (k ≡ n)
below_cases k n below = by_test (nat_lt k n) refl
  where
    by_test : (b : Bool) → nat_lt k n ≡ b → (k < n) ⊎ (k ≡ n)
    by_test true t = inl (grind (arith, nat_tests))
    by_test false t = inr (grind (arith, nat_tests))

-- the next server isn't of the set
pub best_skips : (scene : Scene) (cursor : ℕ) (among : ℕ → Type 0) (server : ℕ) (best : Option ℕ) → (among server → ⊥) → IsBest scene cursor among server best
    → IsBest scene cursor among (server + 1) best
best_skips scene cursor among server None not is = λ other below own.
    elim (below_cases other server below) [ inl e ↦ is other e own | inr e ↦ not (subst among e own) ]
best_skips scene cursor among server (Some found) not is = (
  (let f = is.0 in omega arith),
  is.1,
  λ other below own. elim (below_cases other server below) [ inl e ↦ is.2 other e own | inr e ↦ absurd (not (subst among e own)) ],
)

-- the next server doesn't go before the best
pub best_stays : (scene : Scene) (cursor : ℕ) (among : ℕ → Type 0) (server : ℕ) (best : Option ℕ) → beats scene cursor server best ≡ false
    → IsBest scene cursor among server best → IsBest scene cursor among (server + 1) best
best_stays scene cursor among server None loses is = cc
best_stays scene cursor among server (Some found) loses is = (
  (let f = is.0 in omega arith),
  is.1,
  λ other below own. elim (below_cases other server below) [
    | inl e ↦ is.2 other e own
    | inr e ↦ subst (λ k. goes_before scene cursor k found ≡ false)
        (sym e) loses
  ],
)

not_both : {P : Type 0} (b : Bool) → b ≡ true → b ≡ false → P
not_both true t f = cc
not_both false t f = cc

-- the next server is the best from now on
pub best_moves : (scene : Scene) (cursor : ℕ) (among : ℕ → Type 0) (server : ℕ) (best : Option ℕ) → AreUsable scene among → among server
    → beats scene cursor server best ≡ true → IsBest scene cursor among server best → IsBest scene cursor among (server + 1) (Some server)
best_moves scene cursor among server None usable own wins is = (
  omega arith,
  own,
  λ other below its. elim (below_cases other server below) [
    | inl e ↦ absurd (is other e its)
    | inr e ↦ subst (λ k. goes_before scene cursor k server ≡ false)
        (sym e) (before_itself scene cursor server)
  ],
)
best_moves scene cursor among server (Some found) usable own wins is = (
  omega arith,
  own,
  λ other below its. elim (below_cases other server below) [
    | inl e ↦ by_test other e its (goes_before scene cursor other server) refl
    | inr e ↦ subst (λ k. goes_before scene cursor k server ≡ false) (sym e) (before_itself scene cursor server)
  ],
)
  where
    by_test : (other : ℕ) → other < server → among other → (b : Bool) → goes_before scene cursor other server ≡ b → b ≡ false
    by_test other below its false t = refl
    by_test other below its true t =
        let w : (k : ℕ) → among k → 0 < weight_of scene k = λ k in_set. usable_weight scene k (usable k in_set) in
        not_both (goes_before scene cursor other found) (before_trans scene cursor other server found (w other its) (w server own) (w found is.1) t wins)
        (is.2 other below its)

no_less : (a b d e : ℕ) → test a b d e ≡ false → b ≤ a
unfolding test
no_less a b d e is = grind (arith, nat_tests)

no_nearer : (a b d e : ℕ) → test a b d e ≡ false → a ≤ b → e ≤ d
unfolding test
no_nearer a b d e is few = grind (arith, nat_tests)

-- one server more
pub best_step : (scene : Scene) (cursor : ℕ) (among : ℕ → Type 0) (server : ℕ) (best : Option ℕ) (own : Bool) → (IsTrue own ↔ among server)
    → AreUsable scene among → IsBest scene cursor among server best → IsBest scene cursor among (server + 1) (better_of scene cursor best own server)
best_step scene cursor among server best false test usable is = best_skips scene cursor among server best (λ own. let e : false ≡ true = test.1 own in cc) is
best_step scene cursor among server best true test usable is = by_test (beats scene cursor server best) refl
  where
    by_test : (b : Bool) → beats scene cursor server best ≡ b → IsBest scene cursor among (server + 1) (better_of scene cursor best true server)
    by_test true t = rw t (best_moves scene cursor among server best usable (test.0 refl) t is)
    by_test false t = rw t (best_stays scene cursor among server best t is)

-- the best of all servers is the pick
pub best_is_pick : (scene : Scene) (cursor : ℕ) (among : ℕ → Type 0) (servers : ℕ) (best : Option ℕ) → ((server : ℕ) → among server → server < servers)
    → IsBest scene cursor among servers best → MatchOption best ((server : ℕ) → among server → ⊥) (λ server. IsPick scene cursor among server)
unfolding test
best_is_pick scene cursor among servers None within is = λ server own. is server (within server own) own
best_is_pick scene cursor among servers (Some found) within is = record {
  member = is.1;
  least = λ other own. no_less (load scene other * weight_of scene found) (load scene found * weight_of scene other) (steps_after scene cursor other)
      (steps_after scene cursor found) (is.2 other (within other own) own);
  nearest = λ other own least.
      no_nearer (load scene other * weight_of scene found) (load scene found * weight_of scene other) (steps_after scene cursor other)
      (steps_after scene cursor found) (is.2 other (within other own) own) (least found is.1);
}
