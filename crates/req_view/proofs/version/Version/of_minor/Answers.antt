-- A minor version that isn't 0 is 1.
use Rattle.std.proofs.Common.{◌≡◌, ℕ, zero, suc, sym, ap, refl, cond, false, ◌==◌, arith}
use Rattle.std.proofs.lemmas.Bool.Decides.{nat_tests}
use Rattle.req_view.specs.Request.{version_of}
use Rattle.req_view.specs.declared.version.Version.TheVariants.{Http10, Http11}
use Rattle.req_view.proofs.version.Version.of_minor.Goals as goal

not_zero : (n : ℕ) → (suc n == 0) ≡ false
not_zero n = grind (arith, nat_tests)

zero_is : (minor : ℕ) → minor ≡ 0 → Http10 ≡ version_of minor
zero_is minor first = ap version_of (sym first)

one_is : (minor : ℕ) → (minor ≡ 0 → ⊥) → Http11 ≡ version_of minor
one_is zero more = absurd (more refl)
one_is (suc minor) more = sym (ap (λ b. cond b Http10 Http11) (not_zero minor))

pub returns-then-minor-eq0 : goal.returns-then-minor-eq0
returns-then-minor-eq0 c = zero_is _ c.if-minor-eq0.true

pub returns-else-minor-eq0 : goal.returns-else-minor-eq0
returns-else-minor-eq0 c = one_is _ c.if-minor-eq0.false
