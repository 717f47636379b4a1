-- Elements that pass a test, those of the front of a list first.
use Rattle.std.proofs.Common.{◌≡◌, ◌∙◌, ℕ, ◌+◌, ◌<◌, Bool, true, false, cond, List, [], ◌∷◌, ◌++◌, length, get_or, take, drop, refl, sym, ap, append-nil}
use Rattle.std.specs.Prelude.{◌&&◌, ◌||◌, filter}
use Rattle.std.specs.List.{flat_map, list_all, list_any}
use Rattle.std.proofs.Math.Bool.{or-false}
use Rattle.std.proofs.lemmas.Grind.{flat_map-append}
use Rattle.std.proofs.lemmas.List.{take-append-drop}
use Rattle.std.proofs.lemmas.List.Elements.{filter-append, filter_more}
use Rattle.std.proofs.lemmas.List.Folds.{list_all-append, list_any-append}

flat_cond : {X Y : Type 0} (f : X → List Y) (x : X) (b : Bool) → flat_map f (cond b (x ∷ []) []) ≡ cond b (f x) []
flat_cond f x true = append-nil (f x)
flat_cond f x false = refl

any_cond : {X : Type 0} (p : X → Bool) (x : X) (b : Bool) → list_any p (cond b (x ∷ []) []) ≡ (b && p x)
any_cond p x false = refl
any_cond p x true = or-false (p x)

-- what one more element adds to what those that pass are turned into
pub flat_more : {X Y : Type 0} (keep : X → Bool) (f : X → List Y) (xs : List X) (i : ℕ) (d : X) → i < length xs
    → flat_map f (filter keep (take (i + 1) xs)) ≡ flat_map f (filter keep (take i xs)) ++ cond (keep (get_or xs i d)) (f (get_or xs i d)) []
flat_more keep f xs i d below =
    ap (flat_map f) (filter_more keep xs i d below)
    ∙ flat_map-append f (filter keep (take i xs)) (cond (keep (get_or xs i d)) (get_or xs i d ∷ []) [])
    ∙ ap (λ l. flat_map f (filter keep (take i xs)) ++ l) (flat_cond f (get_or xs i d) (keep (get_or xs i d)))

-- and that of a front and of the rest
pub flat_front : {X Y : Type 0} (keep : X → Bool) (f : X → List Y) (xs : List X) (n : ℕ)
    → flat_map f (filter keep xs) ≡ flat_map f (filter keep (take n xs)) ++ flat_map f (filter keep (drop n xs))
flat_front keep f xs n =
    ap (λ l. flat_map f (filter keep l)) (sym (take-append-drop n xs))
    ∙ ap (flat_map f) (filter-append keep (take n xs) (drop n xs))
    ∙ flat_map-append f (filter keep (take n xs)) (filter keep (drop n xs))

-- one more element may be what is sought
pub any_more : {X : Type 0} (keep p : X → Bool) (xs : List X) (i : ℕ) (d : X) → i < length xs
    → list_any p (filter keep (take (i + 1) xs)) ≡ (list_any p (filter keep (take i xs)) || (keep (get_or xs i d) && p (get_or xs i d)))
any_more keep p xs i d below =
    ap (list_any p) (filter_more keep xs i d below)
    ∙ list_any-append p (filter keep (take i xs)) (cond (keep (get_or xs i d)) (get_or xs i d ∷ []) [])
    ∙ ap (λ b. list_any p (filter keep (take i xs)) || b) (any_cond p (get_or xs i d) (keep (get_or xs i d)))

-- what is found in the front is found
pub any_front : {X : Type 0} (keep p : X → Bool) (xs : List X) (n : ℕ) → list_any p (filter keep (take n xs)) ≡ true → list_any p (filter keep xs) ≡ true
any_front keep p xs n found =
    ap (λ l. list_any p (filter keep l)) (sym (take-append-drop n xs))
    ∙ ap (list_any p) (filter-append keep (take n xs) (drop n xs))
    ∙ list_any-append p (filter keep (take n xs)) (filter keep (drop n xs))
    ∙ ap (λ b. b || list_any p (filter keep (drop n xs))) found

-- all of what each element is turned into
pub list_all_flat_map : {X Y : Type 0} (p : Y → Bool) (f : X → List Y) (xs : List X) → list_all p (flat_map f xs) ≡ list_all (λ x. list_all p (f x)) xs
list_all_flat_map p f [] = refl
list_all_flat_map p f (x ∷ xs) = list_all-append p (f x) (flat_map f xs) ∙ ap (λ b. list_all p (f x) && b) (list_all_flat_map p f xs)

-- one more element behind all
pub flat_last : {X Y : Type 0} (f : X → List Y) (xs : List X) (x : X) → flat_map f xs ++ f x ≡ flat_map f (xs ++ x ∷ [])
flat_last f xs x = ap (λ l. flat_map f xs ++ l) (sym (append-nil (f x))) ∙ sym (flat_map-append f xs (x ∷ []))
