-- An entry more of a course.
use Rattle.std.proofs.Common.{◌≡◌, ℕ, ◌+◌, ◌-◌, ◌<◌, min, ◌⊎◌, inl, inr, List, []}
use Rattle.std.proofs.Common.{◌∷◌, ◌++◌, None, length, get_or, refl, ap, sym, subst, ◌∙◌, arith}
use Rattle.std.proofs.lemmas.Bool.{cases_order}
use Rattle.std.proofs.lemmas.List.{take-append-le, take_all, length-append}
use Rattle.std.proofs.lemmas.List.Sums.{fold_push}
use Rattle.std.proofs.Math.ListN.{get_or-append}
use Rattle.std.proofs.Math.Seq.{get_or-append_seam}
use Rattle.log_entries.specs.declared.entry.Entry.{Entry}
use Rattle.log_reading.specs.Grants.{moment_of, moment_at}
use Rattle.log_reading.proofs.Moments.{moment_of-push}
use Rattle.log_stretches.specs.Courses.{AreMoments, later, newer_came, came_in}

pub came_more : (log : List Entry) (entry : Entry) (ticket : ℕ) → came_in (log ++ entry ∷ []) ticket ≡ newer_came ticket (came_in log ticket) entry
came_more log entry ticket = fold_push (newer_came ticket) None log entry

pub no_moments : AreMoments [] []
no_moments = record { each = refl; at = λ n below. absurd (omega arith) }

pub moments_more : (log : List Entry) (entry : Entry) (moments : List ℕ) (last : ℕ) → AreMoments log moments → last ≡ moment_of log
    → AreMoments (log ++ entry ∷ []) (moments ++ later entry last ∷ [])
moments_more log entry moments last are same = record {
  each = length-append moments (later entry last ∷ []) ∙ ap (λ n. n + 1) are.each ∙ sym (length-append log (entry ∷ []));
  at = λ n below. by_place n below (cases_order n (length log));
}
  where
    -- at the new place, and at the others
    newest : get_or (moments ++ later entry last ∷ []) (length log) 0 ≡ moment_at (log ++ entry ∷ []) (length log + 1)
    newest =
        subst (λ k. get_or (moments ++ later entry last ∷ []) k 0 ≡ later entry last) are.each (get_or-append_seam moments (later entry last) [] 0)
        ∙ ap (later entry) same ∙ sym (moment_of-push log entry)
        ∙ ap moment_of (sym (take_all (length log + 1) (log ++ entry ∷ []) (let long = length-append log (entry ∷ []) in omega arith)))

    older : (n : ℕ) → n < length log → get_or (moments ++ later entry last ∷ []) n 0 ≡ moment_at (log ++ entry ∷ []) (n + 1)
    older n h =
        get_or-append moments (later entry last ∷ []) 0 n (let each = are.each in omega arith)
        ∙ are.at n h ∙ ap moment_of (sym (take-append-le (n + 1) log (entry ∷ []) (omega arith)))

    by_place : (n : ℕ) → n < length (log ++ entry ∷ []) → (n ≡ length log) ⊎ ((n < length log) ⊎ (length log < n))
        → get_or (moments ++ later entry last ∷ []) n 0 ≡ moment_at (log ++ entry ∷ []) (n + 1)
    by_place n below (inl here) = subst (λ k. get_or (moments ++ later entry last ∷ []) k 0 ≡ moment_at (log ++ entry ∷ []) (k + 1)) (sym here) newest
    by_place n below (inr (inl before)) = older n before
    by_place n below (inr (inr after)) = let long = length-append log (entry ∷ []) in absurd (omega arith)

-- the moment at a position is the one at the nearest position that there is
pub moment_within : (log : List Entry) (moments : List ℕ) (position within : ℕ) → AreMoments log moments → within ≡ min position (length moments)
    → 0 < within → get_or moments (within - 1) 0 ≡ moment_at log position
moment_within log moments position within are nearest some = by_place (cases_order position (length log))
  where
    by_place : (position ≡ length log) ⊎ ((position < length log) ⊎ (length log < position)) → get_or moments (within - 1) 0 ≡ moment_at log position
    by_place (inl here) = let each = are.each in are.at (within - 1) (omega arith) ∙ ap (moment_at log) (omega arith)
    by_place (inr (inl before)) = let each = are.each in are.at (within - 1) (omega arith) ∙ ap (moment_at log) (omega arith)
    by_place (inr (inr after)) =
        let each = are.each in
        are.at (within - 1) (omega arith)
        ∙ ap moment_of (take_all (within - 1 + 1) log (omega arith) ∙ sym (take_all position log (omega arith)))
