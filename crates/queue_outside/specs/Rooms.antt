-- The requests that wait outside.
use Rattle.std.specs.Prelude.{◌≡◌, ℕ, ℤ, pos, ◌+◌, ◌<◌, ◌≤◌, ◌⊎◌, ◌+ℤ◌, List, [], drop, length}
use Rattle.std.specs.List.{AllByRecursion}
use Rattle.due_key.specs.declared.key.Key.{Key}
use Rattle.due_key.specs.Order.{key_cmp, ComesBefore}
use Rattle.pend_queue.specs.Pairs.{IsAscending, inserted, pairs_without}

-- the outsiders by rising key, the most that there may be, and the number of the next one
pub record Outsiders : Type 0 where
  pub pairs : List (Key × ℕ)
  pub room : ℕ
  pub number : ℕ

abbrev pub IsFull : Outsiders → Type 0
IsFull it = (it.room ≤ length it.pairs) ⊎ (it.number ≡ 18446744073709551615)

abbrev pub nobody : ℕ → Outsiders
nobody room = record { pairs = []; room = room; number = 0 }

-- the key of an outsider that comes now
abbrev pub outsider_key : Outsiders → ℤ → ℕ → ℤ → Key
outsider_key it class now offset = record { class = class; due = pos now +ℤ offset; ticket = it.number }

abbrev pub came : Outsiders → Key → ℕ → Outsiders
came it key outsider = record { pairs = inserted key_cmp (key, outsider) it.pairs; room = it.room; number = it.number + 1 }

abbrev pub first_gone : Outsiders → Outsiders
first_gone it = record { pairs = drop 1 it.pairs; room = it.room; number = it.number }

abbrev pub left : Outsiders → Key → Outsiders
left it key = record { pairs = pairs_without key_cmp key it.pairs; room = it.room; number = it.number }

-- the key is before the keys of all of them
abbrev pub AllComeAfter : Key → List (Key × ℕ) → Type 0
AllComeAfter key pairs = AllByRecursion (λ p. ComesBefore key p.0) pairs

pub record IsOutsideOrder (pairs : List (Key × ℕ)) (queue_room room number : ℕ) : Type 0 where
  pub rooms : queue_room ≡ room
  pub ascending : IsAscending key_cmp pairs
  pub fits : length pairs ≤ room
  pub before : AllByRecursion (λ p. p.0.ticket < number) pairs
