-- Where an ACL's new alternative goes.
use Rattle.std.proofs.Common.{◌≡◌, ◌∙◌, ◌<◌, ◌≤◌, ◌++◌, ℕ, zero, suc, Bool, true, false, List, [], ◌∷◌, length, get_or, Some, None, refl, sym, ap, arith}
use Rattle.std.proofs.Math.ListN.{set}
use Rattle.std.specs.List.{position_or_len}
use Rattle.std.specs.Str.{bytes_eq}
use Rattle.std.proofs.lemmas.List.Sums.{fails_before_first}
use Rattle.std.proofs.lemmas.List.Quantifiers.{position-Some}
use borrow.Author.Tests.{ltb-false}
use Rattle.base_lists.proofs.Options.{cond_none}
use Rattle.proxy_config.specs.declared.parts.Acl.{Acl}
use Rattle.proxy_config.specs.declared.parts.Test.{Test}
use Rattle.proxy_config.specs.Conditions.{acl_index}
use Rattle.proxy_config.specs.Rules.{with_test}

abbrev is_named : List ℕ → Acl → Bool
is_named name acl = bytes_eq acl.name name

-- an ACL with one alternative more
abbrev pub more_of : Test → Acl → Acl
more_of test acl = record acl { tests = acl.tests ++ test ∷ [] }

set_at : (name : List ℕ) (test : Test) (acls : List Acl) (i : ℕ) (d : Acl) → i < length acls → is_named name (get_or acls i d) ≡ true
    → ((k : ℕ) → k < i → is_named name (get_or acls k d) ≡ false) → with_test name test acls ≡ set acls i (more_of test (get_or acls i d))
set_at name test [] i d below here before = absurd (omega arith)
set_at name test (acl ∷ acls) zero d below here before = rw here refl
set_at name test (acl ∷ acls) (suc i) d below here before =
    let first : is_named name acl ≡ false = before 0 (omega arith) in
    rw first (ap (λ more. acl ∷ more) (set_at name test acls i d (omega arith) here (λ k k_below. before (suc k) (omega arith))))

-- the first of the name gets it
pub with_test-at : (name : List ℕ) (test : Test) (acls : List Acl) (i : ℕ) (acl : Acl) → acl_index name acls ≡ Some i → acl ≡ get_or acls i acl
    → with_test name test acls ≡ set acls i (more_of test acl)
with_test-at name test acls i acl at is =
    let found = position-Some (is_named name) acls i acl at in
    set_at name test acls i acl found.0 found.1 found.2 ∙ ap (λ (one : Acl). set acls i (more_of test one)) (sym is)

none_named : (name : List ℕ) (test : Test) (acls : List Acl) → ((k : ℕ) (d : Acl) → k < length acls → is_named name (get_or acls k d) ≡ false)
    → with_test name test acls ≡ acls ++ record { name = name; tests = test ∷ [] } ∷ []
none_named name test [] none = refl
none_named name test (acl ∷ acls) none =
    let first : is_named name acl ≡ false = none 0 acl (omega arith) in
    rw first (ap (λ more. acl ∷ more) (none_named name test acls (λ k d below. none (suc k) d (omega arith))))

-- where there is none, it is a new ACL
pub with_test-new : (name : List ℕ) (test : Test) (acls : List Acl) → acl_index name acls ≡ None
    → with_test name test acls ≡ acls ++ record { name = name; tests = test ∷ [] } ∷ []
with_test-new name test acls at =
    let past : length acls ≤ position_or_len (is_named name) acls = ltb-false _ _ (cond_none _ _ at) in
    none_named name test acls (λ k d below. fails_before_first (is_named name) acls k d (omega arith))
