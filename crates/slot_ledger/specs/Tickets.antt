-- The index of tickets, as a list of pairs of which some have lost their places.
use Rattle.std.specs.Prelude.{◌≡◌, ◌≢◌, ◌⊎◌, ℕ, ◌+◌, ◌-◌, ◌<◌, ◌≤◌, ◌++◌, ◌∷◌, []}
use Rattle.std.specs.Prelude.{Bool, List, Option, Some, All, option_map, is_some, length, take, drop, slice_get}
use Rattle.std.specs.List.{filter_map}
use Rattle.slot_ledger.specs.declared.tickets.TicketPlace.{TicketPlace}

-- tickets with their places, by rising ticket, and the most that there is room for
pub record Indexed : Type 0 where
  pub pairs : List (ℕ × ℕ)
  pub room : ℕ

-- no pair has the ticket
abbrev pub TicketIsAbsent : ℕ → List (ℕ × ℕ) → Type 0
TicketIsAbsent ticket pairs = All (λ pair. pair.0 ≢ ticket) pairs

-- the pair of the ticket is removed, and no other
pub record Removes (ticket : ℕ) (old new : List (ℕ × ℕ)) : Type 0 where
  pub front : List (ℕ × ℕ)
  pub back : List (ℕ × ℕ)
  pub place : ℕ
  pub before : old ≡ front ++ (ticket, place) ∷ back
  pub after : new ≡ front ++ back
  pub gone : TicketIsAbsent ticket new

-- the ticket and the place of an pair that has one
abbrev pub pair_of : TicketPlace → Option (ℕ × ℕ)
pair_of pair = option_map (λ place. (pair.ticket, place)) pair.place

-- the tickets and places of those pairs that have one
abbrev pub number_pairs : List TicketPlace → List (ℕ × ℕ)
number_pairs pairs = filter_map pair_of pairs

abbrev pub has_place : TicketPlace → Bool
has_place pair = is_some pair.place

-- each ticket is below all later ones
abbrev pub IsBelowAll : TicketPlace → List TicketPlace → Type 0
IsBelowAll pair later = All (λ other. pair.ticket < other.ticket) later

abbrev pub IsRising : List TicketPlace → Type 0
IsRising [] = Unit {0}
IsRising (pair ∷ pairs) = IsBelowAll pair pairs × IsRising pairs

-- the pairs that count stand in two stretches: the first so many, and those from the next place on; what lies between
-- is left over
abbrev pub stretches : ℕ → ℕ → List TicketPlace → List TicketPlace
stretches kept next pairs = take kept pairs ++ drop next pairs

-- the second stretch begins no earlier than the first one ends, and no later than the list does
pub record TicketsAreWithin (kept next : ℕ) (pairs : List TicketPlace) : Type 0 where
  pub ordered : kept ≤ next
  pub within : next ≤ length pairs

-- two stretches of a list: from the first through the second one each ticket is above those before it, and the list's last
-- pair counts
pub record AreStretches (kept next : ℕ) (pairs : List TicketPlace) : Type 0 where
  pub within : TicketsAreWithin kept next pairs
  pub rising : IsRising (stretches kept next pairs)
  pub last : 0 < length pairs → next < length pairs

-- a sweep goes one pair on: the second stretch begins one place later, the first one may have grown by the pair that was
-- passed, the tickets still rise, and no pair that counts has come or gone
pub record SweepsOneOn (kept next more : ℕ) (old new : List TicketPlace) : Type 0 where
  pub within : TicketsAreWithin more (next + 1) new
  pub rising : IsRising (stretches more (next + 1) new)
  pub pairs : number_pairs (stretches more (next + 1) new) ≡ number_pairs (stretches kept next old)
  pub len : length new ≡ length old

-- the pair at a place of the list is that of a ticket
abbrev pub HasTicketAmong : ℕ → List TicketPlace → ℕ → Type 0
HasTicketAmong ticket pairs at = (pair : TicketPlace) × (slice_get pairs at ≡ Some pair) × (pair.ticket ≡ ticket)

-- and it counts: its place lies in one of the two stretches
abbrev pub IsInStretches : ℕ → ℕ → ℕ → List TicketPlace → ℕ → Type 0
IsInStretches ticket kept next pairs at = HasTicketAmong ticket pairs at × ((at < kept) ⊎ (next ≤ at))

-- the last pair has a lower ticket
abbrev pub IsAboveLast : ℕ → List TicketPlace → Type 0
IsAboveLast ticket pairs = (last : TicketPlace) → slice_get pairs (length pairs - 1) ≡ Some last → last.ticket < ticket
