-- Sets of servers that a loop fills.
use Rattle.std.proofs.Common.{◌≡◌, ℕ, ◌+◌, ◌<◌, ◌≤◌, Bool}
use Rattle.std.proofs.Common.{IsTrue, ◌↔◌, length, ap, sym, subst, arith, inl, inr}
use Rattle.log_entries.specs.declared.setup.Setup.{Setup}
use Rattle.server_pick.specs.Sets.{IsIn, HasOneMore}
use Rattle.server_pick.proofs.Preferred.{below_cases}

-- a set has those servers below a number that pass a test
abbrev pub IsFilled : (ℕ → Type 0) → ℕ → ℕ → Type 0
IsFilled passes below set = (server : ℕ) → IsIn set server ↔ ((server < below) × passes server)

pub filled_none : (passes : ℕ → Type 0) (set : ℕ) → ((server : ℕ) → IsIn set server → ⊥) → IsFilled passes 0 set
filled_none passes set none = λ server. ((λ own. absurd (none server own)), (λ both. let h = both.0 in absurd (omega arith)))

-- one server more, where it passes
pub filled_step : (passes : ℕ → Type 0) (server : ℕ) (wanted : Bool) (set next : ℕ) → (IsTrue wanted ↔ passes server) → HasOneMore server wanted set next
    → IsFilled passes server set → IsFilled passes (server + 1) next
filled_step passes server wanted set next test more is = λ other. (
  (λ inside. elim ((more other).0 inside) [
    | inl e ↦ let h = (is other).0 e in let l = h.0 in (omega arith, h.1)
    | inr e ↦ (omega (arith, e.1), subst passes (sym e.1) (test.0 e.0))
  ]),
  (λ both. elim (below_cases other server both.0) [
    | inl e ↦ (more other).1 (inl ((is other).1 (e, both.1)))
    | inr e ↦ (more other).1
        (inr (test.1 (subst passes e both.1), e))
  ]),
)

pub filled_all : (passes : ℕ → Type 0) (servers : ℕ) (set : ℕ) → ((server : ℕ) → passes server → server < servers) → IsFilled passes servers set → (server : ℕ)
    → IsIn set server ↔ passes server
filled_all passes servers set within is server = ((λ own. ((is server).0 own).1), (λ passing. (is server).1 (within server passing, passing)))

-- where a loop over all servers ends
pub loop_end : (setup now : Setup) (len next : ℕ) → setup ≡ now → len ≡ length setup.servers → len ≤ next → next ≤ len → next ≡ length now.servers
loop_end setup now len next same is low high = let e : length setup.servers ≡ length now.servers = ap (λ (s : Setup). length s.servers) same in omega arith
