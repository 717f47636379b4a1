-- Moments of a readable log.
use Rattle.std.proofs.Common.{◌≡◌, ℕ, zero, suc, ◌≤◌, List, [], ◌∷◌, ◌++◌, Option, None, Some, take, refl, sym, subst, arith, append_assoc}
use Rattle.std.specs.Option.{unwrap_or, IfSome}
use Rattle.std.proofs.lemmas.List.{append-nil}
use Rattle.std.proofs.lemmas.List.Sums.{fold_push}
use Rattle.log_entries.specs.declared.entry.Entry.{Entry}
use Rattle.log_reading.specs.Grants.{moment_in, moment_of, moment_at}
use Rattle.log_reading.specs.Readable.{AllFollow, IsReadable}
use Rattle.log_reading.specs.Windows.{Window}
use Rattle.log_reading.specs.declared.base.BaseRow.{BaseRow}

-- what one entry more makes of the last moment
pub moment_of-push : (past : List Entry) (e : Entry) → moment_of (past ++ e ∷ []) ≡ unwrap_or (moment_in e) (moment_of past)
moment_of-push past e = fold_push (λ moment entry. unwrap_or (moment_in entry) moment) 0 past e

pub moment_of_none : (past : List Entry) (e : Entry) → moment_in e ≡ None → moment_of (past ++ e ∷ []) ≡ moment_of past
moment_of_none past e none = subst (λ o. moment_of (past ++ e ∷ []) ≡ unwrap_or o (moment_of past)) none (moment_of-push past e)

-- one entry more doesn't set the moment back
moment_rises : (past : List Entry) (e : Entry) → IfSome (moment_in e) (λ moment. moment_of past ≤ moment) → moment_of past ≤ moment_of (past ++ e ∷ [])
moment_rises past e later = subst (λ m. moment_of past ≤ m) (sym (moment_of-push past e)) (by_case (moment_in e) later)
  where
    by_case : (o : Option ℕ) → IfSome o (λ moment. moment_of past ≤ moment) → moment_of past ≤ unwrap_or o (moment_of past)
    by_case None h = omega arith
    by_case (Some m) h = h

-- nor do more entries
from_start : (base : List BaseRow) (past es : List Entry) → AllFollow base past es → (q : ℕ) → moment_of past ≤ moment_of (past ++ take q es)
from_start base past es all zero = subst (λ l. moment_of past ≤ moment_of l) (sym (append-nil past)) (omega arith)
from_start base past [] all (suc q) = subst (λ l. moment_of past ≤ moment_of l) (sym (append-nil past)) (omega arith)
from_start base past (e ∷ es) all (suc q) =
    let one = moment_rises past e all.0.later in
    let rest : moment_of (past ++ e ∷ []) ≤ moment_of ((past ++ e ∷ []) ++ take q es) = from_start base (past ++ e ∷ []) es all.1 q in
    let same : moment_of (past ++ (e ∷ take q es)) ≡ moment_of ((past ++ e ∷ []) ++ take q es) = rw append_assoc refl in
    omega arith

rises : (base : List BaseRow) (past es : List Entry) → AllFollow base past es → (p q : ℕ) → p ≤ q
    → moment_of (past ++ take p es) ≤ moment_of (past ++ take q es)
rises base past es all zero q h = subst (λ l. moment_of l ≤ moment_of (past ++ take q es)) (sym (append-nil past)) (from_start base past es all q)
rises base past es all (suc p) zero h = absurd (omega arith)
rises base past [] all (suc p) (suc q) h = omega arith
rises base past (e ∷ es) all (suc p) (suc q) h =
    let rest : moment_of ((past ++ e ∷ []) ++ take p es) ≤ moment_of ((past ++ e ∷ []) ++ take q es) = rises base (past ++ e ∷ []) es all.1 p q (omega arith) in
    let left : moment_of (past ++ (e ∷ take p es)) ≡ moment_of ((past ++ e ∷ []) ++ take p es) = rw append_assoc refl in
    let right : moment_of (past ++ (e ∷ take q es)) ≡ moment_of ((past ++ e ∷ []) ++ take q es) = rw append_assoc refl in
    omega arith

-- the moments of a readable log never fall
pub moments_rise : (window : Window) → IsReadable window → (p q : ℕ) → p ≤ q → moment_at window.entries p ≤ moment_at window.entries q
moments_rise window readable p q h = rises window.base [] window.entries readable p q h
