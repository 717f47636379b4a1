-- Some row of tests that all pass, for the laws.
use Rattle.std.proofs.Common.{◌≡◌, ◌≢◌, ◌↔◌, Bool, true, false, not, List, All, refl}
use Rattle.std.specs.List.{Any, list_all, list_any}
use Rattle.std.proofs.lemmas.List.Folds.{Any-from_list_any, list_any-from_Any}
use Rattle.std.proofs.lemmas.List.Sums.{AllPass-from_list_all, list_all-from_AllPass}

pub list_any-all : {A : Type 0} (test : A → Bool) (rows : List (List A))
    → (list_any (list_all test) rows ≡ true) ↔ Any (λ row. All (λ x. test x ≡ true) row) rows
list_any-all test rows = (
  λ holds. let some = Any-from_list_any (list_all test) rows holds in
      (some.0, some.1, some.2, some.3, AllPass-from_list_all test some.1 some.4),
  λ some. list_any-from_Any (list_all test) rows (some.0, some.1, some.2, some.3, list_all-from_AllPass test some.1 some.4),
)

pub not_true : (b : Bool) → (not b ≡ true) ↔ (b ≢ true)
not_true true = (λ same. cc, λ differs. absurd (differs refl))
not_true false = (λ same other. cc, λ differs. refl)
