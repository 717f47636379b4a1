-- The rows of the worked logs, at four places.
use Rattle.std.proofs.Common.{◌≡◌, ℕ, zero, suc, pos, negsuc, [], ◌∷◌, Option, None, Some, subst}
use Rattle.std.proofs.lemmas.Option.{same_Some}
use Rattle.log_entries.specs.declared.row.Phase.{Phase}
use Rattle.log_entries.specs.declared.row.Row.{Row}
use Rattle.log_entries.specs.Rows.{IsRow}

-- rows of the worked logs
abbrev pub first_row : Option ℕ → ℕ → Phase → Row
first_row pin failures phase = record { key = record { class = pos 0; due = pos 0; ticket = 1 }; pin = pin; failures = failures; phase = phase }

abbrev pub second_row : Option ℕ → Phase → Row
second_row pin phase = record { key = record { class = pos 0; due = pos 1; ticket = 2 }; pin = pin; failures = 0; phase = phase }

abbrev pub third_row : Option ℕ → Phase → Row
third_row pin phase = record { key = record { class = pos 0; due = negsuc 2; ticket = 3 }; pin = pin; failures = 0; phase = phase }

-- what holds of the rows at the first places of four holds of each row
pub for_no_row : (row : Row) → IsRow (None ∷ None ∷ None ∷ None ∷ []) row → ⊥
for_no_row row (zero, stands) = let e : Some None ≡ Some (Some row) = stands in cc
for_no_row row (suc zero, stands) = let e : Some None ≡ Some (Some row) = stands in cc
for_no_row row (suc (suc zero), stands) = let e : Some None ≡ Some (Some row) = stands in cc
for_no_row row (suc (suc (suc zero)), stands) = let e : Some None ≡ Some (Some row) = stands in cc
for_no_row row (suc (suc (suc (suc p))), stands) = let e : None ≡ Some (Some row) = stands in cc

pub for_three_rows : (P : Row → Type 0) (a b c : Row) → P a → P b → P c → (row : Row) → IsRow (Some a ∷ Some b ∷ Some c ∷ None ∷ []) row → P row
for_three_rows P a b c first second third row (zero, stands) = subst P (same_Some a row (same_Some (Some a) (Some row) stands)) first
for_three_rows P a b c first second third row (suc zero, stands) = subst P (same_Some b row (same_Some (Some b) (Some row) stands)) second
for_three_rows P a b c first second third row (suc (suc zero), stands) = subst P (same_Some c row (same_Some (Some c) (Some row) stands)) third
for_three_rows P a b c first second third row (suc (suc (suc zero)), stands) = let e : Some None ≡ Some (Some row) = stands in cc
for_three_rows P a b c first second third row (suc (suc (suc (suc p))), stands) = let e : None ≡ Some (Some row) = stands in cc

pub for_two_rows : (P : Row → Type 0) (a b : Row) → P a → P b → (row : Row) → IsRow (Some a ∷ Some b ∷ None ∷ None ∷ []) row → P row
for_two_rows P a b first second row (zero, stands) = subst P (same_Some a row (same_Some (Some a) (Some row) stands)) first
for_two_rows P a b first second row (suc zero, stands) = subst P (same_Some b row (same_Some (Some b) (Some row) stands)) second
for_two_rows P a b first second row (suc (suc zero), stands) = let e : Some None ≡ Some (Some row) = stands in cc
for_two_rows P a b first second row (suc (suc (suc zero)), stands) = let e : Some None ≡ Some (Some row) = stands in cc
for_two_rows P a b first second row (suc (suc (suc (suc p))), stands) = let e : None ≡ Some (Some row) = stands in cc

pub for_inner_rows : (P : Row → Type 0) (a b : Row) → P a → P b → (row : Row) → IsRow (None ∷ Some a ∷ Some b ∷ None ∷ []) row → P row
for_inner_rows P a b first second row (zero, stands) = let e : Some None ≡ Some (Some row) = stands in cc
for_inner_rows P a b first second row (suc zero, stands) = subst P (same_Some a row (same_Some (Some a) (Some row) stands)) first
for_inner_rows P a b first second row (suc (suc zero), stands) = subst P (same_Some b row (same_Some (Some b) (Some row) stands)) second
for_inner_rows P a b first second row (suc (suc (suc zero)), stands) = let e : Some None ≡ Some (Some row) = stands in cc
for_inner_rows P a b first second row (suc (suc (suc (suc p))), stands) = let e : None ≡ Some (Some row) = stands in cc

pub for_parted_rows : (P : Row → Type 0) (a b : Row) → P a → P b → (row : Row) → IsRow (Some a ∷ None ∷ Some b ∷ None ∷ []) row → P row
for_parted_rows P a b first second row (zero, stands) = subst P (same_Some a row (same_Some (Some a) (Some row) stands)) first
for_parted_rows P a b first second row (suc zero, stands) = let e : Some None ≡ Some (Some row) = stands in cc
for_parted_rows P a b first second row (suc (suc zero), stands) = subst P (same_Some b row (same_Some (Some b) (Some row) stands)) second
for_parted_rows P a b first second row (suc (suc (suc zero)), stands) = let e : Some None ≡ Some (Some row) = stands in cc
for_parted_rows P a b first second row (suc (suc (suc (suc p))), stands) = let e : None ≡ Some (Some row) = stands in cc

pub for_one_row : (P : Row → Type 0) (a : Row) → P a → (row : Row) → IsRow (Some a ∷ None ∷ None ∷ None ∷ []) row → P row
for_one_row P a first row (zero, stands) = subst P (same_Some a row (same_Some (Some a) (Some row) stands)) first
for_one_row P a first row (suc zero, stands) = let e : Some None ≡ Some (Some row) = stands in cc
for_one_row P a first row (suc (suc zero), stands) = let e : Some None ≡ Some (Some row) = stands in cc
for_one_row P a first row (suc (suc (suc zero)), stands) = let e : Some None ≡ Some (Some row) = stands in cc
for_one_row P a first row (suc (suc (suc (suc p))), stands) = let e : None ≡ Some (Some row) = stands in cc

-- the same where the first request has ended
pub for_last_rows : (P : Row → Type 0) (b c : Row) → P b → P c → (row : Row) → IsRow (None ∷ Some b ∷ Some c ∷ None ∷ []) row → P row
for_last_rows P b c second third row (zero, stands) = let e : Some None ≡ Some (Some row) = stands in cc
for_last_rows P b c second third row (suc zero, stands) = subst P (same_Some b row (same_Some (Some b) (Some row) stands)) second
for_last_rows P b c second third row (suc (suc zero), stands) = subst P (same_Some c row (same_Some (Some c) (Some row) stands)) third
for_last_rows P b c second third row (suc (suc (suc zero)), stands) = let e : Some None ≡ Some (Some row) = stands in cc
for_last_rows P b c second third row (suc (suc (suc (suc p))), stands) = let e : None ≡ Some (Some row) = stands in cc
