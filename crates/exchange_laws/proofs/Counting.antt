-- Lists made one item after another.
use Rattle.std.proofs.Common.{◌≡◌, ◌∙◌, ℕ, List, [], ◌∷◌, ◌++◌, ap, append_assoc, append-nil}
use Rattle.std.specs.List.{flat_map}
use Rattle.std.proofs.lemmas.Grind.{flat_map-append}

-- one item more, at the end of what it is made of
pub one_more : {A : Type 0} (f : A → List ℕ) (before : List A) (w : A) (rest : List ℕ)
    → flat_map f (before ++ w ∷ []) ++ rest ≡ flat_map f before ++ (f w ++ rest)
one_more f before w rest =
    ap (λ l. l ++ rest) (flat_map-append f before (w ∷ []) ∙ ap (λ l. flat_map f before ++ l) (append-nil (f w)))
    ∙ append_assoc (flat_map f before) (f w) rest
