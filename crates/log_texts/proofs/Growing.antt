-- Texts to which one part after another is appended, until memory is wanting.
use Rattle.std.proofs.Common.{◌≡◌, ◌<◌, ℕ, List, [], ◌∷◌, ◌++◌, length, take, drop, get_or, sym, ap, ◌∙◌, append_assoc, append-nil, subst, length-append, arith, Result, Ok, Err, OnErr, suc}
use Rattle.std.specs.List.{flat_map}
use Rattle.std.proofs.lemmas.Grind.{flat_map-append}
use Rattle.std.proofs.lemmas.List.{take-append-drop}
use Rattle.std.proofs.Math.Seq.{drop-cons}
use Rattle.log_texts.specs.Growth.{GrowsByFront}

-- parts were appended, one failed, and others would have come behind it
between : {old mid new part : List ℕ} (before others : List ℕ) → mid ≡ old ++ before → GrowsByFront mid new part
    → GrowsByFront old new (before ++ (part ++ others))
between {old} before others written grows = record {
  front = before ++ grows.front;
  rest = grows.rest ++ others;
  grown = grows.grown ∙ ap (λ l. l ++ grows.front) written ∙ append_assoc old before grows.front;
  parts = ap (λ l. before ++ (l ++ others)) grows.parts ∙ ap (λ l. before ++ l) (append_assoc grows.front grows.rest others)
      ∙ sym (append_assoc before grows.front (grows.rest ++ others));
  missing = let m = grows.missing in omega (arith, length-append grows.rest others);
}

cut_at : {X : Type 0} (xs : List X) (i : ℕ) (d : X) → i < length xs → xs ≡ take i xs ++ (get_or xs i d ∷ drop (suc i) xs)
cut_at xs i d low = sym (take-append-drop i xs) ∙ ap (λ l. take i xs ++ l) (drop-cons xs i d low)

-- a loop over items appends the text of each, until one of them fails
pub failed_at : {X T E : Type 0} (old : List ℕ) {mid new : List ℕ} (result : Result T E) (text : X → List ℕ) (items : List X) (at : ℕ) (item : X)
    → at < length items → mid ≡ old ++ flat_map text (take at items) → GrowsByFront mid new (text (get_or items at item))
    → OnErr result (GrowsByFront old new (flat_map text items))
failed_at old (Ok x) text items at item low written grows = tt
failed_at old (Err e) text items at item low written grows =
    let whole : flat_map text items ≡ flat_map text (take at items) ++ (text (get_or items at item) ++ flat_map text (drop (suc at) items)) =
    ap (flat_map text) (cut_at items at item low) ∙ flat_map-append text (take at items) (get_or items at item ∷ drop (suc at) items) in
    rw whole (between (flat_map text (take at items)) (flat_map text (drop (suc at) items)) written grows)

pub failed_by : {X T E : Type 0} (old : List ℕ) {mid new : List ℕ} (result : Result T E) (text : X → List ℕ) (items : List X) (at : ℕ) (item : X)
    → item ≡ get_or items at item → at < length items → mid ≡ old ++ flat_map text (take at items) → GrowsByFront mid new (text item)
    → OnErr result (GrowsByFront old new (flat_map text items))
failed_by old {mid} {new} result text items at item is low written grows =
    failed_at old result text items at item low written (subst (λ x. GrowsByFront mid new (text x)) is grows)

-- of two calls the first failed, or the second
pub failed_first : {T E : Type 0} (old new : List ℕ) {first : List ℕ} (result : Result T E) (last : List ℕ) → GrowsByFront old new first
    → OnErr result (GrowsByFront old new (first ++ last))
failed_first old new (Ok x) last grows = tt
failed_first old new (Err e) last grows = between [] last (sym (append-nil old)) grows

pub failed_last : {T E : Type 0} (old new last : List ℕ) {mid : List ℕ} (result : Result T E) (first : List ℕ) → mid ≡ old ++ first
    → OnErr result (GrowsByFront mid new last) → OnErr result (GrowsByFront old new (first ++ last))
failed_last old new last (Ok x) first written grows = tt
failed_last old new last (Err e) first written grows =
    subst (λ l. GrowsByFront old new (first ++ l)) (append-nil last) (between first [] written grows)

-- the last three parts belong together
pub regroup : {T E : Type 0} (old new : List ℕ) (result : Result T E) (a b c d : List ℕ) → OnErr result (GrowsByFront old new (a ++ ((b ++ c) ++ d)))
    → OnErr result (GrowsByFront old new (((a ++ b) ++ c) ++ d))
regroup old new result a b c d = subst (λ l. OnErr result (GrowsByFront old new l)) (sym (ap (λ l. l ++ d) (append_assoc a b c) ∙ append_assoc a (b ++ c) d))

-- the same bytes, said in another way
pub told_as : {T E : Type 0} (old new : List ℕ) (result : Result T E) (said bytes : List ℕ) → said ≡ bytes → OnErr result (GrowsByFront old new said)
    → OnErr result (GrowsByFront old new bytes)
told_as old new result said bytes same = subst (λ l. OnErr result (GrowsByFront old new l)) same
