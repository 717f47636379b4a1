-- Stories of few lines, and of many.
use Rattle.std.proofs.Common.{◌≡◌, ℕ, ◌≤◌, List, [], ◌∷◌, ◌++◌, length, codes, append_assoc, ap, sym, ◌∙◌, arith}
use Rattle.std.proofs.lemmas.List.{append-nil, length-append}
use Rattle.std.proofs.lemmas.Grind.{flat_map-append}
use Rattle.view_stories.specs.Stories.{AddsStory, lines_text}

pub few_lines : (old new : List ℕ) (lines : List (List ℕ)) → length lines ≤ 20 → new ≡ old ++ lines_text lines → AddsStory old new
few_lines old new lines few added = record { lines = lines; few = few; added = added }

pub many_lines : (old between new : List ℕ) (lines : List (List ℕ)) (last : List ℕ) → length lines ≤ 19 → between ≡ old ++ lines_text lines
    → new ≡ between ++ (last ++ codes "\n") → AddsStory old new
many_lines old between new lines last few first then_last = record {
  lines = lines ++ last ∷ [];
  few = let long = length-append lines (last ∷ []) in omega arith;
  added =
      then_last ∙ ap (λ t. t ++ (last ++ codes "\n")) first ∙ append_assoc old (lines_text lines) (last ++ codes "\n")
      ∙ ap (λ t. old ++ t) (sym more);
}
  where
    more : lines_text (lines ++ last ∷ []) ≡ lines_text lines ++ (last ++ codes "\n")
    more = flat_map-append (λ line. line ++ codes "\n") lines (last ∷ []) ∙ ap (λ t. lines_text lines ++ t) (append-nil (last ++ codes "\n"))
