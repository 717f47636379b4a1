-- What is found in a list: the last item, the first one that passes a test, and its place.
use Rattle.std.proofs.Common.{◌≡◌, ℕ, ◌+◌, ◌<◌, ◌∙◌, ◌||◌, Bool, true, false, not, nat_lt, cond, Option, Some, None, IfSome, option_map, List, [], ◌∷◌, ◌++◌}
use Rattle.std.proofs.Common.{length, map, refl, sym, ap}
use Rattle.std.specs.List.{All, last_or, find, filter_map, flat_map, list_any, cons_option, position, position_or_len, prefix_len}
use Rattle.std.proofs.lemmas.List.{length-map}
use Rattle.std.proofs.lemmas.List.Elements.{All-head, All-tail, filter_map-append}
use Rattle.std.proofs.lemmas.List.Folds.{list_any-append}
use Rattle.std.proofs.lemmas.List.Quantifiers.{position-Some}

pub last_or-append : {A : Type 0} (o : Option A) (xs ys : List A) → last_or o (xs ++ ys) ≡ last_or (last_or o xs) ys
last_or-append o [] ys = refl
last_or-append o (x ∷ xs) ys = last_or-append (Some x) xs ys

pub last_or-none : {A B : Type 0} (f : A → Option B) (o : Option B) (xs : List A) → All (λ x. f x ≡ None) xs → last_or o (filter_map f xs) ≡ o
last_or-none f o [] none = refl
last_or-none f o (x ∷ xs) none =
    ap (λ y. last_or o (cons_option y (filter_map f xs))) (All-head (λ y. f y ≡ None) x xs none)
    ∙ last_or-none f o xs (All-tail (λ y. f y ≡ None) x xs none)

pub last_or-last : {A B : Type 0} (f : A → Option B) (before after : List A) (x : A) (y : B) → f x ≡ Some y → All (λ z. f z ≡ None) after
    → last_or None (filter_map f (before ++ x ∷ after)) ≡ Some y
last_or-last f before after x y some none =
    ap (last_or None) (filter_map-append f before (x ∷ after))
    ∙ last_or-append None (filter_map f before) (filter_map f (x ∷ after))
    ∙ ap (λ z. last_or (last_or None (filter_map f before)) (cons_option z (filter_map f after))) some
    ∙ last_or-none f (Some y) after none

-- what holds of each element holds of the one that is found
pub find-All : {A B : Type 0} (test : A → Bool) (f : A → B) (P : B → Type 0) (xs : List A) → All (λ x. P (f x)) xs → IfSome (option_map f (find test xs)) P
find-All test f P [] all = tt
find-All {A = A} test f P (x ∷ xs) all = by_test (test x) (find-All test f P xs (All-tail (λ y. P (f y)) x xs all))
  where
    by_test : (b : Bool) → IfSome (option_map f (find test xs)) P → IfSome (option_map f (cond b (Some x) (find test xs))) P
    by_test true later = All-head (λ y. P (f y)) x xs all
    by_test false later = later

pub find-none : {A : Type 0} (test : A → Bool) (xs : List A) → All (λ x. test x ≡ false) xs → find test xs ≡ None
find-none test [] none = refl
find-none test (x ∷ xs) none =
    ap (λ b. cond b (Some x) (find test xs)) (All-head (λ y. test y ≡ false) x xs none)
    ∙ find-none test xs (All-tail (λ y. test y ≡ false) x xs none)

pub find-first : {A : Type 0} (test : A → Bool) (before after : List A) (x : A) → test x ≡ true → All (λ y. test y ≡ false) before
    → find test (before ++ x ∷ after) ≡ Some x
find-first test [] after x here none = ap (λ b. cond b (Some x) (find test after)) here
find-first test (y ∷ before) after x here none =
    ap (λ b. cond b (Some y) (find test (before ++ x ∷ after))) (All-head (λ z. test z ≡ false) y before none)
    ∙ find-first test before after x here (All-tail (λ z. test z ≡ false) y before none)

pub list_any_flat_map : {A B : Type 0} (p : B → Bool) (f : A → List B) (xs : List A) → list_any (λ x. list_any p (f x)) xs ≡ list_any p (flat_map f xs)
list_any_flat_map p f [] = refl
list_any_flat_map p f (x ∷ xs) = ap (λ b. list_any p (f x) || b) (list_any_flat_map p f xs) ∙ sym (list_any-append p (f x) (flat_map f xs))

prefix_len-map : {X Y : Type 0} (p : Y → Bool) (f : X → Y) (xs : List X) → prefix_len p (map f xs) ≡ prefix_len (λ x. p (f x)) xs
prefix_len-map p f [] = refl
prefix_len-map p f (x ∷ xs) = ap (λ n. cond (p (f x)) (1 + n) 0) (prefix_len-map p f xs)

-- what passes a test is found at the same place by what the test looks at
pub position-map : {X Y : Type 0} (p : Y → Bool) (f : X → Y) (xs : List X) → position p (map f xs) ≡ position (λ x. p (f x)) xs
position-map p f xs =
    ap (λ n. cond (nat_lt n (length (map f xs))) (Some n) None) (prefix_len-map (λ y. not (p y)) f xs)
    ∙ ap (λ m. cond (nat_lt (position_or_len (λ x. p (f x)) xs) m) (Some (position_or_len (λ x. p (f x)) xs)) None) (length-map xs f)

-- where an item is found is within the list
pub position_below : {A : Type 0} (p : A → Bool) (xs : List A) (i : ℕ) → position p xs ≡ Some i → i < length xs
position_below p [] i found = absurd (let none = found in cc)
position_below p (x ∷ xs) i found = (position-Some p (x ∷ xs) i x found).0
