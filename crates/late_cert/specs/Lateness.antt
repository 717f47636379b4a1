-- The lateness of slots, and the other ways to assign them.
use Rattle.std.specs.Prelude.{ℕ, ◌<◌, ℤ, pos, ◌-ℤ◌, List, [], ◌∷◌, map}
use Rattle.std.specs.Int.{int_max}
use Rattle.std.specs.List.Sorted.{IsPermutation}
use Rattle.log_reading.specs.Windows.{Window}
use Rattle.log_reading.specs.Grants.{moment_at}
use Rattle.log_reading.specs.declared.grant.Stay.{Stay}

-- the lateness of a stay that gets the slot at a position: the moment there minus the due date
abbrev pub lateness : Window → ℕ → Stay → ℤ
lateness window slot stay = pos (moment_at window.entries slot) -ℤ stay.due

-- the lateness of a stay with its own slot
abbrev pub own_lateness : Window → Stay → ℤ
own_lateness window stay = lateness window stay.slot stay

-- the slots that stays got, in order
abbrev pub own_slots : List Stay → List ℕ
own_slots stays = map (λ stay. stay.slot) stays

-- one slot for each stay, and each after that stay joined
abbrev pub AreAfterJoining : List Stay → List ℕ → Type 0
AreAfterJoining [] [] = Unit {0}
AreAfterJoining (stay ∷ stays) (slot ∷ slots) = (stay.joined < slot) × AreAfterJoining stays slots
AreAfterJoining stays slots = ⊥

-- an assignment of slots to stays: their own slots in any order, one for each stay, each after that stay joined
pub record IsAssignment (stays : List Stay) (slots : List ℕ) : Type 0 where
  pub rearranged : IsPermutation (own_slots stays) slots
  pub after_joining : AreAfterJoining stays slots

-- the lateness of each stay with the slot that it is assigned
abbrev pub latenesses : Window → List Stay → List ℕ → List ℤ
latenesses window (stay ∷ stays) (slot ∷ slots) = lateness window slot stay ∷ latenesses window stays slots
latenesses window stays slots = []

-- the greatest of these numbers; 0 where there are none
abbrev pub greatest : List ℤ → ℤ
greatest [] = pos 0
greatest (number ∷ []) = number
greatest (number ∷ next ∷ numbers) = int_max number (greatest (next ∷ numbers))
