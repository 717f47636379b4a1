-- Where tickets joined a queue.
use Rattle.std.proofs.Common.{◌≡◌, ℕ, ◌+◌, ◌≤◌, ◌==◌, ◌&&◌, ◌||◌, Bool, true, false, cond}
use Rattle.std.proofs.Common.{List, [], ◌∷◌, ◌++◌, length, Option, None, Some, refl, ap, sym, ◌∙◌, arith}
use Rattle.std.specs.List.{AllByRecursion, list_any}
use Rattle.std.specs.Option.{option_map_or}
use Rattle.log_entries.specs.declared.entry.Entry.{Entry}
use Rattle.log_entries.specs.declared.entry.Entry.TheVariants.{Granted}
use Rattle.log_entries.specs.declared.queue.Queue.{Queue}
use Rattle.log_entries.specs.Rows.{same_queue}
use Rattle.log_reading.specs.Grants.{Wait, grant_in, joining_in, joins, last_position, joining_of, has_joined}
use Rattle.log_reading.specs.Windows.{waited_in}
use Rattle.log_reading.specs.declared.base.BaseRow.{BaseRow}
use Rattle.std.proofs.lemmas.List.Folds.{list_any-append}

-- the last position is one of a list's positions, or 0
pub last_position-le : (test : Entry → Bool) (es : List Entry) → last_position test es ≤ length es
last_position-le test [] = omega arith
last_position-le test (e ∷ es) = by_any (list_any test (e ∷ es)) (last_position-le test es)
  where
    by_any : (b : Bool) → last_position test es ≤ length es → cond b (last_position test es + 1) 0 ≤ length (e ∷ es)
    by_any true rest = omega arith
    by_any false rest = omega arith

-- the last position after one entry more
last_position-push : (test : Entry → Bool) (es : List Entry) (e : Entry)
    → last_position test (es ++ e ∷ []) ≡ cond (test e) (length es + 1) (last_position test es)
last_position-push test [] e = by_test (test e)
  where
    by_test : (b : Bool) → cond (b || false) (0 + 1) 0 ≡ cond b (0 + 1) 0
    by_test true = refl
    by_test false = refl
last_position-push test (x ∷ es) e =
    ap (λ n. cond (list_any test (x ∷ es ++ e ∷ [])) (n + 1) 0) (last_position-push test es e)
    ∙ ap (λ b. cond (test x || b) (cond (test e) (length es + 1) (last_position test es) + 1) 0) (list_any-append test es (e ∷ []))
    ∙ go (test x) (list_any test es) (test e)
  where
    go : (b c d : Bool) → cond (b || (c || (d || false))) (cond d (length es + 1) (last_position test es) + 1) 0
        ≡ cond d (length (x ∷ es) + 1) (cond (b || c) (last_position test es + 1) 0)
    go true c true = omega arith
    go true c false = refl
    go false true true = omega arith
    go false true false = refl
    go false false true = omega arith
    go false false false = refl

none_pass : (test : Entry → Bool) (es : List Entry) → list_any test es ≡ false → AllByRecursion (λ e. test e ≡ false) es
none_pass test [] none = tt
none_pass test (e ∷ es) none = go (test e) refl none (λ rest. none_pass test es rest)
  where
    go : (b : Bool) → test e ≡ b → b || list_any test es ≡ false → (list_any test es ≡ false → AllByRecursion (λ x. test x ≡ false) es)
        → AllByRecursion (λ x. test x ≡ false) (e ∷ es)
    go true is none pass = cc
    go false is none pass = (is, pass none)

none_in_rest : (test : Entry → Bool) (xs ys : List Entry) → list_any test (xs ++ ys) ≡ false → list_any test ys ≡ false
none_in_rest test xs ys none = or_second (list_any test xs) (list_any test ys) (sym (list_any-append test xs ys) ∙ none)
  where
    or_second : (b c : Bool) → b || c ≡ false → c ≡ false
    or_second true c none = cc
    or_second false c none = none

-- where the last position lies in the first part of a list, nothing of the second part passes
none_behind : (test : Entry → Bool) (xs ys : List Entry) → last_position test (xs ++ ys) ≤ length xs → AllByRecursion (λ e. test e ≡ false) ys
none_behind test [] [] low = tt
none_behind test [] (y ∷ ys) low = go (list_any test (y ∷ ys)) refl low
  where
    go : (b : Bool) → list_any test (y ∷ ys) ≡ b → cond b (last_position test ys + 1) 0 ≤ 0 → AllByRecursion (λ e. test e ≡ false) (y ∷ ys)
    go true is low = absurd (omega arith)
    go false is low = none_pass test (y ∷ ys) is
none_behind test (x ∷ xs) ys low = go (list_any test (x ∷ xs ++ ys)) refl low (λ less. none_behind test xs ys less)
  where
    go : (b : Bool) → list_any test (x ∷ xs ++ ys) ≡ b → cond b (last_position test (xs ++ ys) + 1) 0 ≤ length (x ∷ xs)
        → (last_position test (xs ++ ys) ≤ length xs → AllByRecursion (λ e. test e ≡ false) ys) → AllByRecursion (λ e. test e ≡ false) ys
    go true is low rest = rest (omega arith)
    go false is low rest = none_pass test ys (none_in_rest test (x ∷ xs) ys is)

-- where a ticket's last joining stands in the first part of a log, none stands in the second
pub none_in_second : (t : ℕ) (q : Queue) (xs ys : List Entry) → joining_of t q (xs ++ ys) ≤ length xs → AllByRecursion (λ e. joins t q e ≡ false) ys
none_in_second t q xs ys low = none_behind (joins t q) xs ys low

-- a grant puts no ticket into a queue
pub grants_no_joining : (e : Entry) (w : Wait) (t : ℕ) (q : Queue) → grant_in e ≡ Some w → joins t q e ≡ false
grants_no_joining (Granted u p v) w t q h = refl
grants_no_joining e w t q h = cc

-- the last joining after one entry more
pub joining_of-push : (t : ℕ) (q : Queue) (past : List Entry) (e : Entry)
    → joining_of t q (past ++ e ∷ []) ≡ cond (joins t q e) (length past + 1) (joining_of t q past)
joining_of-push t q past e = last_position-push (joins t q) past e

-- an entry that puts no ticket into a queue
pub nothing_joins : (e : Entry) (t : ℕ) (q : Queue) → joining_in e ≡ None → joins t q e ≡ false
nothing_joins e t q none = ap (λ (o : Option Wait). option_map_or (λ w. (w.ticket == t) && same_queue q w.queue) o false) none

-- the last joining after an entry that doesn't put the ticket into the queue
pub joining_of_other : (t : ℕ) (q : Queue) (past : List Entry) (e : Entry) → joins t q e ≡ false → joining_of t q (past ++ e ∷ []) ≡ joining_of t q past
joining_of_other t q past e other = joining_of-push t q past e ∙ ap (λ b. cond b (length past + 1) (joining_of t q past)) other

-- and after one that does
pub joining_of_last : (t : ℕ) (q : Queue) (past : List Entry) (e : Entry) → joins t q e ≡ true → joining_of t q (past ++ e ∷ []) ≡ length past + 1
joining_of_last t q past e is = joining_of-push t q past e ∙ ap (λ b. cond b (length past + 1) (joining_of t q past)) is

-- a ticket has joined a queue with an entry more
pub joined-push : (base : List BaseRow) (t : ℕ) (q : Queue) (past : List Entry) (e : Entry)
    → has_joined base t q (past ++ e ∷ []) ≡ joins t q e || has_joined base t q past
joined-push base t q past e =
    ap (λ b. waited_in t q base || b) (list_any-append (joins t q) past (e ∷ [])) ∙ go (joins t q e) (waited_in t q base) (list_any (joins t q) past)
  where
    go : (b w c : Bool) → w || (c || (b || false)) ≡ b || (w || c)
    go true true c = refl
    go true false true = refl
    go true false false = refl
    go false true c = refl
    go false false true = refl
    go false false false = refl
