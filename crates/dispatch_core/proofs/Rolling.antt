-- The next window of a core.
use Rattle.std.proofs.Common.{◌≡◌, ℕ, zero, suc, ◌<◌, Bool, true, false, not, cond, List, [], ◌∷◌}
use Rattle.std.proofs.Common.{◌++◌, Option, None, Some, map, replicate, slice_get, slice_index_or, All, IsTrue, nat_le, nat_lt}
use Rattle.std.proofs.Common.{refl, ap, sym, ◌∙◌, subst, arith}
use Rattle.std.proofs.lemmas.Bool.{and_parts}
use Rattle.std.proofs.lemmas.Bool.Decides.{nat_tests}
use Rattle.std.proofs.lemmas.Option.{same_Some, slice_get_within, get_or_from_slice_get}
use Rattle.check_state.specs.Results.{run_at_end}
use Rattle.check_state.specs.Shortened.{shortened}
use Rattle.check_state.specs.Standing.{Standing, IsHealthOf}
use Rattle.check_state.proofs.Shortened.{same_health}
use Rattle.log_entries.specs.declared.setup.ServerSet.{ServerSet}
use Rattle.log_entries.specs.Health.{results_of, shortened_by, shortened_all}
use Rattle.log_entries.specs.Histories.{History, state_of, next_window}
use Rattle.log_entries.specs.Setups.{IsSound, is_within, has_rise_and_fall}
use Rattle.log_entries.specs.States.{State}
use Rattle.log_entries.proofs.Windows.{next_legal, shortened_length}
use Rattle.pend_queue.specs.Held.{Held}
use Rattle.log_reading.specs.Bases.{results_by}
use Rattle.dispatch_core.specs.Checks.{AreHealths, IsHealthBy, IsCore, IsSpare}
use Rattle.dispatch_core.proofs.Checking.{spare_base}

-- a health says the shortest results that leave it
saved_one : (rise fall : ℕ) (results : List Bool) (s : Standing) → IsHealthOf rise fall results s → results_by (Some s) ≡ shortened rise fall results
saved_one rise fall results s of = by_up s.up refl
  where
    by_up : (b : Bool) → s.up ≡ b → results_by (Some s) ≡ shortened rise fall results
    by_up true e =
        ap (λ b. cond b (replicate s.against false) (replicate s.fall false ++ replicate s.against true)) e
        ∙ ap (λ n. replicate n false) (of.counted ∙ ap (λ b. run_at_end (not b) results) e)
        ∙ sym (ap (λ b. cond b (replicate (run_at_end false results) false) (replicate fall false ++ replicate (run_at_end true results) true)) (sym of.stands
        ∙ e))
    by_up false e =
        ap (λ b. cond b (replicate s.against false) (replicate s.fall false ++ replicate s.against true)) e
        ∙ ap (λ n. replicate n false ++ replicate s.against true) of.own_fall
        ∙ ap (λ n. replicate fall false ++ replicate n true) (of.counted ∙ ap (λ b. run_at_end (not b) results) e)
        ∙ sym (ap (λ b. cond b (replicate (run_at_end false results) false) (replicate fall false ++ replicate (run_at_end true results) true)) (sym of.stands
        ∙ e))

saved_by : (it : Option (ℕ × ℕ)) (results : List Bool) (health : Option Standing) → IsHealthBy it results health → results_by health ≡ shortened_by it results
saved_by None results health is = ap results_by is
saved_by (Some it) results health is = ap results_by is.1 ∙ saved_one it.0 it.1 results is.0 is.2

pub saved_all : (servers : List ServerSet) (results : List (List Bool)) (healths : List (Option Standing)) → AreHealths servers results healths
    → map results_by healths ≡ shortened_all servers results
saved_all [] results [] are = refl
saved_all [] results (x ∷ healths) are = let e = are.each_one in absurd (omega arith)
saved_all (server ∷ servers) [] healths are = let e = are.many in absurd (omega arith)
saved_all (server ∷ servers) (r ∷ results) [] are = let e = are.each_one in absurd (omega arith)
saved_all (server ∷ servers) (r ∷ results) (x ∷ healths) are =
    let a = are.many in
    let b = are.each_one in
    let rest = saved_all servers results healths (record { many = omega arith; each_one = omega arith; each = λ k it stands. are.each (suc k) it stands }) in
    ap (λ l. l ∷ map results_by healths) (saved_by server.rise_fall r x (are.each 0 server refl)) ∙ ap (λ l. shortened_by server.rise_fall r ∷ l) rest

-- and is of them
at_shortened : (servers : List ServerSet) (results : List (List Bool)) (k : ℕ) (it : ServerSet) → slice_get servers k ≡ Some it
    → results_of (shortened_all servers results) k ≡ shortened_by it.rise_fall (results_of results k)
at_shortened [] results k it stands = cc
at_shortened (s ∷ servers) [] zero it stands = ap (λ (x : ServerSet). shortened_by x.rise_fall []) (same_Some s it stands)
at_shortened (s ∷ servers) [] (suc k) it stands = at_shortened servers [] k it stands
at_shortened (s ∷ servers) (r ∷ results) zero it stands = ap (λ (x : ServerSet). shortened_by x.rise_fall r) (same_Some s it stands)
at_shortened (s ∷ servers) (r ∷ results) (suc k) it stands = at_shortened servers results k it stands

still_by : (it : Option (ℕ × ℕ)) (results : List Bool) (health : Option Standing) → has_rise_and_fall it ≡ true → IsHealthBy it results health
    → IsHealthBy it (shortened_by it results) health
still_by None results health counts is = is
still_by (Some it) results health counts is =
    let both = and_parts (nat_lt 0 it.0) (nat_lt 0 it.1) counts in
    let rise : 0 < it.0 = grind (arith, nat_tests) in
    let fall : 0 < it.1 = grind (arith, nat_tests) in
    (is.0, is.1, same_health it.0 it.1 rise fall results is.0 is.2)

pub still_healths : (servers : List ServerSet) (results : List (List Bool)) (healths : List (Option Standing))
    → All (λ (it : ServerSet). IsTrue (is_within it)) servers → AreHealths servers results healths → AreHealths servers (shortened_all servers results) healths
still_healths servers results healths within are = record {
  many = shortened_length servers results;
  each_one = are.each_one;
  each = λ k it stands.
      let its = subst (λ (x : ServerSet). IsTrue (is_within x)) (get_or_from_slice_get servers k it it stands)
      (within k it (slice_get_within servers k it stands)) in
      let counts = (and_parts (nat_le it.weight 256) (has_rise_and_fall it.rise_fall) its).1 in
      subst (λ r. IsHealthBy it.rise_fall r (slice_index_or healths k None)) (sym (at_shortened servers results k it stands))
      (still_by it.rise_fall (results_of results k) (slice_index_or healths k None) counts (are.each k it stands));
}

-- a core in the next window
pub core_rolled : (h now : History) (healths : List (Option Standing)) (expiring : Held ℕ ℕ) (spare base : State) → IsCore h healths expiring spare
    → now ≡ next_window h → IsSound now.setup → base ≡ h.base → IsCore now healths expiring base
core_rolled h now healths expiring spare base is rolls sound back =
    let its : IsSound h.setup = subst (λ (x : History). IsSound x.setup) rolls sound in
    subst (λ (x : History). IsCore x healths expiring base) (sym rolls) record {
      legal = next_legal h its is.legal;
      healthy = still_healths h.setup.servers (state_of h).results healths its.within is.healthy;
      none = is.none;
      places = is.places;
      spared = subst (IsSpare h.setup) (sym back) (spare_base h.setup h.base is.legal.begins);
    }
