-- A window of a list: its front is left out, or more items come behind it.
use Rattle.std.proofs.Common.{◌≡◌, ◌∙◌, ℕ, ◌+◌, ◌-◌, ◌≤◌, List, ◌++◌, length, take, drop, sym, ap, arith, length-take, length-drop}
use Rattle.std.specs.Prelude.{slice_range}
use Rattle.std.proofs.Math.Seq.{take-add}
use Rattle.std.proofs.lemmas.List.{drop-take, drop-drop}

pub window_drop : {A : Type 0} (xs : List A) (start end count : ℕ) → start + count ≤ end
    → slice_range xs (start + count) end ≡ drop count (slice_range xs start end)
window_drop xs start end count here =
    let rest = end - (start + count) in
    let whole : count + rest ≡ end - start = omega arith in
    ap (take rest) (sym (drop-drop count start xs))
    ∙ sym (drop-take count rest (drop start xs))
    ∙ ap (λ n. drop count (take n (drop start xs))) whole

pub window_more : {A : Type 0} (xs : List A) (held count : ℕ) (old : List A) → take held xs ≡ old
    → slice_range xs 0 (held + count) ≡ old ++ take count (drop held xs)
window_more xs held count old e =
    let whole : (held + count) - 0 ≡ held + count = omega arith in
    ap (λ n. take n xs) whole ∙ take-add held count xs ∙ ap (λ l. l ++ take count (drop held xs)) e

pub window_length : {A : Type 0} (xs : List A) (held count : ℕ) → held + count ≤ length xs → length (take count (drop held xs)) ≡ count
window_length xs held count here = simp (length-take, length-drop) (omega arith)
