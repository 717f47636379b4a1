-- Bases, as they are kept.
use Rattle.std.proofs.Common.{◌≡◌, ℕ, zero, suc, ◌+◌, ◌-◌, ◌<◌, ◌≤◌, List, [], ◌∷◌, ◌++◌, Option}
use Rattle.std.proofs.Common.{None, Some, map, take, length, replicate, slice_index_or, length-take-le, refl, ap, sym, ◌∙◌, arith}
use Rattle.std.proofs.Math.Seq.{take-suc}
use Rattle.log_entries.specs.declared.row.Row.{Row}
use Rattle.log_reading.specs.Windows.{base_row, base_rows}
use Rattle.log_reading.specs.declared.base.BaseRow.{BaseRow}
use Rattle.check_state.specs.Standing.{Standing}
use Rattle.log_entries.specs.declared.allowance.Allowance.{Allowance}
use Rattle.log_entries.specs.declared.setup.Setup.{Setup}
use Rattle.log_entries.specs.Rows.{Rows}
use Rattle.log_entries.specs.States.{State, opening_state, opening_limits}
use Rattle.log_reading.specs.Bases.{results_by}

no_results : (n : ℕ) → map results_by (replicate n None) ≡ replicate n []
no_results zero = refl
no_results (suc n) = ap (λ l. [] ∷ l) (no_results n)

-- a base by its parts
abbrev pub base_of : Rows → List (Option Standing) → List Allowance → ℕ → ℕ → ℕ → State
base_of rows healths limits moment ticket cursor = record {
  rows = rows;
  results = map results_by healths;
  limits = limits;
  moment = moment;
  ticket = ticket;
  cursor = cursor;
}

pub opened : (setup : Setup) (rows : Rows) (healths : List (Option Standing)) (limits : List Allowance) (moment cursor : ℕ) → rows ≡ replicate setup.places None
    → healths ≡ replicate (length setup.servers) None → limits ≡ opening_limits setup.servers → moment ≡ 0 → cursor ≡ length setup.servers - 1
    → base_of rows healths limits moment 0 cursor ≡ opening_state setup
opened setup rows healths limits moment cursor by_rows by_healths by_limits by_moment by_cursor =
    let none = replicate (length setup.servers) None in
    let vacant = replicate setup.places None in
    ap (λ x. base_of x healths limits moment 0 cursor) by_rows
    ∙ ap (λ x. base_of vacant x limits moment 0 cursor) by_healths
    ∙ ap (λ x. base_of vacant none x moment 0 cursor) by_limits
    ∙ ap (λ x. base_of vacant none (opening_limits setup.servers) x 0 cursor) by_moment
    ∙ ap (λ x. base_of vacant none (opening_limits setup.servers) 0 0 x) by_cursor
    ∙ ap (λ x. record { rows = vacant; results = x; limits = opening_limits setup.servers; moment = 0; ticket = 0; cursor = length setup.servers - 1 })
    (no_results (length setup.servers))

-- the live requests of the places so far
abbrev pub listed_row : Option Row → List BaseRow
listed_row None = []
listed_row (Some row) = base_row row ∷ []

base_rows-push : (rows : Rows) (cell : Option Row) → base_rows (rows ++ cell ∷ []) ≡ base_rows rows ++ listed_row cell
base_rows-push [] None = refl
base_rows-push [] (Some row) = refl
base_rows-push (None ∷ rows) cell = base_rows-push rows cell
base_rows-push (Some row ∷ rows) cell = ap (λ l. base_row row ∷ l) (base_rows-push rows cell)

pub base_rows-more : (rows : Rows) (i : ℕ) (cell : Option Row) → i < length rows → cell ≡ slice_index_or rows i cell
    → base_rows (take (i + 1) rows) ≡ base_rows (take i rows) ++ listed_row cell
base_rows-more rows i cell more is =
    let next : suc i ≡ i + 1 = omega arith in
    ap (λ k. base_rows (take k rows)) (sym next) ∙ ap base_rows (take-suc rows i cell more) ∙ base_rows-push (take i rows) (slice_index_or rows i cell)
    ∙ ap (λ x. base_rows (take i rows) ++ listed_row x) (sym is)

base_rows-few : (rows : Rows) → length (base_rows rows) ≤ length rows
base_rows-few [] = omega arith
base_rows-few (None ∷ rows) = let rest = base_rows-few rows in omega arith
base_rows-few (Some row ∷ rows) = let rest = base_rows-few rows in omega arith

pub base_rows-fit : (rows : Rows) (i : ℕ) → i < length rows → length (base_rows (take i rows)) < length rows
base_rows-fit rows i more = let few = base_rows-few (take i rows) in let short : length (take i rows) ≡ i = length-take-le i rows (omega arith) in omega arith
