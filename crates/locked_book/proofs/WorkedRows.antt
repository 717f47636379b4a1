-- Worked examples of turns, whole and halted; and wrong ones, which don't hold.
use Rattle.std.proofs.Common.{◌≡◌, ℕ, ◌/◌, ◌<◌, List, [], ◌∷◌, Contains, Some, inl, refl, sym, ◌∙◌, subst, arith}
use Rattle.base_lists.proofs.Members.{Contains-nil}
use Rattle.grant_board.specs.Views.{count_at}
use Rattle.locked_book.specs.Calls.{Booked}
use Rattle.locked_book.specs.Turns.{VisitsFrom, WalksBlocks, StopsInBlock, WalksAll, Halts, Turns}
use Rattle.locked_book.proofs.Turns.{all_visited}
use Rattle.log_entries.specs.Histories.{refuses_tick}
use Rattle.log_entries.specs.declared.refusal.Refusal.TheVariants.{LogFull}

-- where no place is visited nothing changes
no_visit : (old : Booked) → VisitsFrom 7 0 [] old [] old []
no_visit old = (refl, refl)

-- a place below the first one isn't visited
visited_below : (old new : Booked) → ¬ (VisitsFrom 7 5 (4 ∷ []) old [] new [])
visited_below old new visits = let above = visits.0 in omega arith

-- a place isn't visited twice
visited_twice : (old new : Booked) → ¬ (VisitsFrom 7 0 (4 ∷ 4 ∷ []) old [] new [])
visited_twice old new visits = let above = visits.1.3.0 in omega arith

-- where the log is full at first the turn halts there, and nothing changes
halts_at_first : (old : Booked) → refuses_tick old.history ≡ Some LogFull → Halts 7 old [] old []
halts_at_first old full = record { cause = inl (full, refl, refl) }

-- and it isn't whole
whole_though_full : (old new : Booked) → refuses_tick old.history ≡ Some LogFull → ¬ (Turns 7 old [] new [])
whole_though_full old new full turns = let same = sym full ∙ turns.asked in cc

-- each place that was out at first is visited in a whole turn
visits_all : (old new : Booked) → (turns : Turns 7 old [] new []) → (places : List ℕ)
    × VisitsFrom 7 0 places old [] turns.between turns.woken_between × ((place : ℕ) → 0 < count_at place old.view.out → Contains places place)
visits_all old new turns = all_visited 7 old [] turns.between turns.woken_between turns.walks

-- each place of the board lies in a block that is walked
in_a_block : (old new : Booked) (place : ℕ) → (walks : WalksAll 7 old [] new []) → place < old.view.terms.places → place / 64 < walks.blocks
in_a_block old new place walks low = let all = walks.in_blocks in omega (arith, low, all)

-- the second block isn't passed over where nothing was out at place 70 at first, and the walk over
-- the first block gave it out
passed_over : (old new : Booked) → (walks : WalksBlocks 7 2 old [] new []) → count_at 70 old.view.out ≡ 0 → 0 < count_at 70 walks.0.view.out
    → ¬ (walks.3.places ≡ [])
passed_over old new walks none out empty =
    Contains-nil 70 (subst (λ places. Contains places 70) empty ((walks.3.exact 70).1 (refl, out)))

-- a place that the walk over its own block gave out isn't visited in it
visited_unread : (old new : Booked) → (walks : WalksBlocks 7 1 old [] new []) → count_at 9 walks.0.view.out ≡ 0 → ¬ (Contains walks.3.places 9)
visited_unread old new walks none there = let out = ((walks.3.exact 9).0 there).1 in omega (arith, none, out)

-- a turn doesn't stop at a place that the walk over its own block gave out
stopped_unread : (old new : Booked) → (stops : StopsInBlock 7 1 old [] new []) → ¬ (count_at stops.next old.view.out ≡ 0)
stopped_unread old new stops none = let out = stops.was_out in omega (arith, none, out)
