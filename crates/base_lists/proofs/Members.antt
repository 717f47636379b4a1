-- What a list contains, by cases on the list, around one item and after a filter; which filters keep all or none; what holds of each
-- item.
use Rattle.std.proofs.Common.{◌≡◌, ℕ, zero, suc, ◌+◌, ◌<◌, ◌≤◌, ◌⊎◌, Bool, true, false, cond, List, [], ◌∷◌, ◌++◌, length, map, take, drop, filter, Contains}
use Rattle.std.proofs.Common.{refl, sym, ap, subst, ◌∙◌, inl, inr, true≢false, arith, Decides}
use Rattle.std.proofs.Common.{All, get_or, length-append}
use Rattle.std.specs.List.{AllByRecursion, list_all}
use Rattle.std.proofs.Math.ListN.{get_or-map}
use Rattle.std.proofs.lemmas.Bool.Decides.{Decides-and}
use Rattle.std.proofs.lemmas.List.{get_or_append_left, get_or-append-add, length-map}
use Rattle.std.proofs.lemmas.List.Elements.{Contains-append_left, Contains-append_right, Contains-append_cases}

module _ {X : Type 0} where
  pub Contains-nil : (x : X) → Contains [] x → ⊥
  Contains-nil x (k, in_range, is) = omega arith

  pub Contains-head : (x : X) (xs : List X) → Contains (x ∷ xs) x
  Contains-head x xs = (0, omega arith, refl)

  pub Contains-tail : (y : X) (xs : List X) (x : X) → Contains xs x → Contains (y ∷ xs) x
  Contains-tail y xs x (k, in_range, is) = (suc k, omega arith, is)

  pub Contains-cases : (y : X) (xs : List X) (x : X) → Contains (y ∷ xs) x → (y ≡ x) ⊎ Contains xs x
  Contains-cases y xs x (zero, in_range, is) = inl is
  Contains-cases y xs x (suc k, in_range, is) = inr (k, omega arith, is)

  pub Contains-one : (x y : X) → Contains (x ∷ []) y → x ≡ y
  Contains-one x y among = elim (Contains-cases x [] y among) [ inl same ↦ same | inr none ↦ absurd (Contains-nil y none) ]

  -- an item of either part, or the one between
  pub Contains-middle : (xs : List X) (x : X) (ys : List X) → Contains (xs ++ x ∷ ys) x
  Contains-middle xs x ys = Contains-append_right xs (x ∷ ys) x (Contains-head x ys)

  pub Contains-around : (xs : List X) (x : X) (ys : List X) (y : X) → Contains (xs ++ ys) y → Contains (xs ++ x ∷ ys) y
  Contains-around xs x ys y among = elim (Contains-append_cases xs ys y among) [
    | inl left ↦ Contains-append_left xs (x ∷ ys) y left
    | inr right ↦ Contains-append_right xs (x ∷ ys) y (Contains-tail x ys y right)
  ]

  pub Contains-around_cases : (xs : List X) (x : X) (ys : List X) (y : X) → Contains (xs ++ x ∷ ys) y → (x ≡ y) ⊎ Contains (xs ++ ys) y
  Contains-around_cases xs x ys y among = elim (Contains-append_cases xs (x ∷ ys) y among) [
    | inl left ↦ inr (Contains-append_left xs ys y left)
    | inr right ↦ elim (Contains-cases x ys y right) [
      | inl same ↦ inl same
      | inr later ↦ inr (Contains-append_right xs ys y later)
    ]
  ]

  -- what holds of each element, from each element to the list and back
  pub each_from_members : (P : X → Type 0) (xs : List X) → ((x : X) → Contains xs x → P x) → AllByRecursion P xs
  each_from_members P [] holds = tt
  each_from_members P (x ∷ xs) holds = (holds x (Contains-head x xs), each_from_members P xs (λ y among. holds y (Contains-tail x xs y among)))

  pub each_at_member : (P : X → Type 0) (xs : List X) (x : X) → AllByRecursion P xs → Contains xs x → P x
  each_at_member P [] x each among = absurd (Contains-nil x among)
  each_at_member P (y ∷ xs) x each among = elim (Contains-cases y xs x among) [
    | inl same ↦ subst P same each.0
    | inr later ↦ each_at_member P xs x each.1 later
  ]

  -- a filter keeps what passes, and nothing else
  module _ (test : X → Bool) (y : X) (xs : List X) (x : X) where
    filter_step : (b : Bool) → test y ≡ b → (Contains (filter test xs) x → Contains xs x × (test x ≡ true))
        → Contains (cond b (y ∷ filter test xs) (filter test xs)) x → Contains (y ∷ xs) x × (test x ≡ true)
    filter_step true passes tail among = elim (Contains-cases y (filter test xs) x among) [
      | inl same ↦ (subst (Contains (y ∷ xs)) same (Contains-head y xs), ap test (sym same) ∙ passes)
      | inr later ↦ let kept = tail later in (Contains-tail y xs x kept.0, kept.1)
    ]
    filter_step false fails tail among = let kept = tail among in (Contains-tail y xs x kept.0, kept.1)

    filter_kept_step : (b : Bool) → test y ≡ b → test x ≡ true → (Contains xs x → Contains (filter test xs) x)
        → Contains (y ∷ xs) x → Contains (cond b (y ∷ filter test xs) (filter test xs)) x
    filter_kept_step true here passes tail among = elim (Contains-cases y xs x among) [
      | inl same ↦ subst (Contains (y ∷ filter test xs)) same (Contains-head y (filter test xs))
      | inr later ↦ Contains-tail y (filter test xs) x (tail later)
    ]
    filter_kept_step false here passes tail among = elim (Contains-cases y xs x among) [
      | inl same ↦ absurd (true≢false (sym passes ∙ ap test (sym same) ∙ here))
      | inr later ↦ tail later
    ]

  pub Contains-filter : (test : X → Bool) (xs : List X) (x : X) → Contains (filter test xs) x → Contains xs x × (test x ≡ true)
  Contains-filter test [] x among = absurd (Contains-nil x among)
  Contains-filter test (y ∷ xs) x among = filter_step test y xs x (test y) refl (Contains-filter test xs x) among

  pub Contains-filter_kept : (test : X → Bool) (xs : List X) (x : X) → Contains xs x → test x ≡ true → Contains (filter test xs) x
  Contains-filter_kept test [] x among passes = absurd (Contains-nil x among)
  Contains-filter_kept test (y ∷ xs) x among passes =
      filter_kept_step test y xs x (test y) refl passes (λ later. Contains-filter_kept test xs x later passes) among

  pub filter_all : (test : X → Bool) (xs : List X) → AllByRecursion (λ x. test x ≡ true) xs → filter test xs ≡ xs
  filter_all test [] each = refl
  filter_all test (x ∷ xs) each = let passes = each.0 in rw passes (ap (λ l. x ∷ l) (filter_all test xs each.1))

  pub filter_none : (test : X → Bool) (xs : List X) → AllByRecursion (λ x. test x ≡ false) xs → filter test xs ≡ []
  filter_none test [] each = refl
  filter_none test (x ∷ xs) each = let fails = each.0 in rw fails (filter_none test xs each.1)

  -- two tests that agree on the elements keep the same ones
  pub filter_alike : (test other : X → Bool) (xs : List X) → AllByRecursion (λ x. test x ≡ other x) xs → filter test xs ≡ filter other xs
  filter_alike test other [] each = refl
  filter_alike test other (x ∷ xs) each = let same = each.0 in rw same (ap (λ l. cond (other x) (x ∷ l) l) (filter_alike test other xs each.1))

  -- what holds of each item, of other lists
  pub all_weaker : (P Q : X → Type 0) → ((x : X) → P x → Q x) → (xs : List X) → AllByRecursion P xs → AllByRecursion Q xs
  all_weaker P Q f [] all = tt
  all_weaker P Q f (x ∷ xs) all = (f x all.0, all_weaker P Q f xs all.1)

  pub all_both : (P Q : X → Type 0) (xs : List X) → AllByRecursion P xs → AllByRecursion Q xs → AllByRecursion (λ x. P x × Q x) xs
  all_both P Q [] a b = tt
  all_both P Q (x ∷ xs) a b = ((a.0, b.0), all_both P Q xs a.1 b.1)

  pub all_map : {Y : Type 0} (f : X → Y) (P : X → Type 0) (Q : Y → Type 0) → ((x : X) → P x → Q (f x))
      → (xs : List X) → AllByRecursion P xs → AllByRecursion Q (map f xs)
  all_map f P Q g [] all = tt
  all_map f P Q g (x ∷ xs) all = (g x all.0, all_map f P Q g xs all.1)

  pub all_append : (P : X → Type 0) (xs ys : List X) → AllByRecursion P xs → AllByRecursion P ys → AllByRecursion P (xs ++ ys)
  all_append P [] ys a b = b
  all_append P (x ∷ xs) ys a b = (a.0, all_append P xs ys a.1 b)

  pub all_push : (P : X → Type 0) (xs : List X) (x : X) → AllByRecursion P xs → P x → AllByRecursion P (xs ++ x ∷ [])
  all_push P xs x all last = all_append P xs (x ∷ []) all (last, tt)

  pub all_take : (P : X → Type 0) (n : ℕ) (xs : List X) → AllByRecursion P xs → AllByRecursion P (take n xs)
  all_take P zero xs all = tt
  all_take P (suc n) [] all = tt
  all_take P (suc n) (x ∷ xs) all = (all.0, all_take P n xs all.1)

  pub all_drop : (P : X → Type 0) (n : ℕ) (xs : List X) → AllByRecursion P xs → AllByRecursion P (drop n xs)
  all_drop P zero xs all = all
  all_drop P (suc n) [] all = tt
  all_drop P (suc n) (x ∷ xs) all = all_drop P n xs all.1

  -- and of each item from one on, what holds of one there
  pub from_one_on : (P : X → Type 0) (xs : List X) (from at : ℕ) (other : X) → AllByRecursion P (drop from xs) → from ≤ at → at < length xs
      → P (get_or xs at other)
  from_one_on P [] from at other all reached there = absurd (omega arith)
  from_one_on P (x ∷ xs) zero zero other all reached there = all.0
  from_one_on P (x ∷ xs) zero (suc at) other all reached there = from_one_on P xs zero at other all.1 (omega arith) (omega arith)
  from_one_on P (x ∷ xs) (suc from) zero other all reached there = absurd (omega arith)
  from_one_on P (x ∷ xs) (suc from) (suc at) other all reached there = from_one_on P xs from at other all (omega arith) (omega arith)

  pub all_filter : (P : X → Type 0) (p : X → Bool) (xs : List X) → AllByRecursion P xs → AllByRecursion P (filter p xs)
  all_filter P p [] all = tt
  all_filter P p (x ∷ xs) all = go (p x) (all_filter P p xs all.1)
    where
      go : (b : Bool) → AllByRecursion P (filter p xs) → AllByRecursion P (cond b (x ∷ filter p xs) (filter p xs))
      go true rest = (all.0, rest)
      go false rest = rest

  -- what passes a test has one with each fact of all
  pub one_of : (P : X → Type 0) (p : X → Bool) (xs : List X) → 0 < length (filter p xs) → AllByRecursion P xs → (x : X) × (p x ≡ true) × P x
  one_of P p [] some all = absurd (omega arith)
  one_of P p (x ∷ xs) some all = go (p x) refl some (λ s. one_of P p xs s all.1)
    where
      go : (b : Bool) → p x ≡ b → 0 < length (cond b (x ∷ filter p xs) (filter p xs))
          → (0 < length (filter p xs) → (y : X) × (p y ≡ true) × P y) → (y : X) × (p y ≡ true) × P y
      go true e s rest = (x, e, all.0)
      go false e s rest = rest s

  -- a test of each decides what holds of each
  pub all_decides : (p : X → Bool) (P : X → Type 0) → ((x : X) → Decides (p x) (P x)) → (xs : List X) → Decides (list_all p xs) (AllByRecursion P xs)
  all_decides p P each [] = (λ e. tt, λ h. refl)
  all_decides p P each (x ∷ xs) = Decides-and (p x) (list_all p xs) (each x) (all_decides p P each xs)

  -- what holds of each element by its place holds of each in a part
  pub all_front : (P : X → Type 0) (xs ys : List X) → All P (xs ++ ys) → All P xs
  all_front P xs ys all k d within = subst P (get_or_append_left xs ys d k within) (all k d (let long = length-append xs ys in omega arith))

  pub all_back : (P : X → Type 0) (xs ys : List X) → All P (xs ++ ys) → All P ys
  all_back P xs ys all k d within = subst P (get_or-append-add xs ys k d) (all (length xs + k) d (let long = length-append xs ys in omega arith))

  pub All-from_map : {Y : Type 0} (P : Y → Type 0) (f : X → Y) (xs : List X) → All P (map f xs) → All (λ x. P (f x)) xs
  All-from_map P f xs all k d below = subst P (get_or-map f xs k d) (all k (f d) (omega (arith, length-map xs f)))

-- what is made of an element
pub Contains-map : {X Y : Type 0} (f : X → Y) (xs : List X) (x : X) → Contains xs x → Contains (map f xs) (f x)
Contains-map f [] x among = absurd (Contains-nil x among)
Contains-map f (y ∷ ys) x among = elim (Contains-cases y ys x among) [
  | inl same ↦ subst (λ z. Contains (f y ∷ map f ys) (f z)) same (Contains-head (f y) (map f ys))
  | inr later ↦ Contains-tail (f y) (map f ys) (f x) (Contains-map f ys x later)
]
