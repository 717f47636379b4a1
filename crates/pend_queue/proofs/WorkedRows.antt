-- The definitions at worked examples: what must hold, and wrong lists that must not be taken.
use Rattle.std.proofs.Common.{◌≡◌, ◌≢◌, ℕ, List, [], ◌∷◌, Some, None, refl, nat_cmp}
use Rattle.pend_queue.specs.Pairs.{IsAscending, KeyIsAbsent, HaveNoCommonKey, inserted, pair_at, pairs_without, merged}

abbrev queue : List (ℕ × ℕ)
queue = (1, 10) ∷ (4, 40) ∷ (9, 90) ∷ []

ascending_row : IsAscending nat_cmp queue
ascending_row = ((refl, (refl, tt)), ((refl, tt), (tt, tt)))

-- neither a fall nor a key twice
no_fall : IsAscending {V = ℕ} nat_cmp ((4, 40) ∷ (1, 10) ∷ []) → ⊥
no_fall up = cc up.0.0

no_key_twice : IsAscending {V = ℕ} nat_cmp ((4, 40) ∷ (4, 41) ∷ []) → ⊥
no_key_twice up = cc up.0.0

inserted_between : inserted nat_cmp (5, 50) queue ≡ (1, 10) ∷ (4, 40) ∷ (5, 50) ∷ (9, 90) ∷ []
inserted_between = refl

inserted_first : inserted nat_cmp (0, 0) queue ≡ (0, 0) ∷ queue
inserted_first = refl

inserted_last : inserted nat_cmp (10, 100) queue ≡ (1, 10) ∷ (4, 40) ∷ (9, 90) ∷ (10, 100) ∷ []
inserted_last = refl

not_appended : inserted nat_cmp (5, 50) queue ≢ (1, 10) ∷ (4, 40) ∷ (9, 90) ∷ (5, 50) ∷ []
not_appended same = cc same

pair_row : pair_at nat_cmp 4 queue ≡ Some (4, 40)
pair_row = refl

no_pair : pair_at nat_cmp 5 queue ≡ None
no_pair = refl

without_row : pairs_without nat_cmp 4 queue ≡ (1, 10) ∷ (9, 90) ∷ []
without_row = refl

without_absent_key : pairs_without nat_cmp 5 queue ≡ queue
without_absent_key = refl

merged_row : merged nat_cmp queue ((0, 0) ∷ (5, 50) ∷ []) ≡ (0, 0) ∷ (1, 10) ∷ (4, 40) ∷ (5, 50) ∷ (9, 90) ∷ []
merged_row = refl

apart_row : HaveNoCommonKey nat_cmp queue ((0, 0) ∷ (5, 50) ∷ [])
apart_row = (absent, (absent_too, tt))
  where
    absent : KeyIsAbsent nat_cmp 0 queue
    absent = (λ same. cc same, (λ same. cc same, (λ same. cc same, tt)))

    absent_too : KeyIsAbsent nat_cmp 5 queue
    absent_too = (λ same. cc same, (λ same. cc same, (λ same. cc same, tt)))

not_apart : HaveNoCommonKey nat_cmp queue ((4, 41) ∷ []) → ⊥
not_apart apart = apart.0.1.0 refl
