-- The cut, found by one walk along the stays.
use Rattle.std.proofs.Common.{◌≡◌, ℕ, Bool, true, false, cond, ℤ, int_lt, List, [], ◌∷◌, map, filter, Option, Some, None, refl}
use Rattle.std.specs.List.{fold, last_or}
use Rattle.std.specs.Option.{unwrap_or}
use Rattle.log_reading.specs.declared.grant.Stay.{Stay}
use Rattle.late_cert.specs.Reports.{slots_due_after, last_cut}

-- the cut, from a first one on
abbrev pub cut_from : ℤ → ℕ → List Stay → ℕ
cut_from due acc ss = fold (λ cut s. cond (int_lt due s.due) s.slot cut) acc ss

last_from : (due : ℤ) (o : Option ℕ) (ss : List Stay) → unwrap_or (last_or o (slots_due_after due ss)) 0 ≡ cut_from due (unwrap_or o 0) ss
last_from due o [] = refl
last_from due o (s ∷ ss) = go (int_lt due s.due) (λ p. last_from due p ss)
  where
    rest : List Stay
    rest = filter (λ stay. int_lt due stay.due) ss

    go : (b : Bool) → ((p : Option ℕ) → unwrap_or (last_or p (slots_due_after due ss)) 0 ≡ cut_from due (unwrap_or p 0) ss)
        → unwrap_or (last_or o (map (λ stay. stay.slot) (cond b (s ∷ rest) rest))) 0 ≡ cut_from due (cond b s.slot (unwrap_or o 0)) ss
    go true walk = walk (Some s.slot)
    go false walk = walk o

-- the last slot of those that are due later, as a walk finds it
pub last_cut-walk : (due : ℤ) (ss : List Stay) → last_cut due ss ≡ cut_from due 0 ss
last_cut-walk due ss = last_from due None ss
