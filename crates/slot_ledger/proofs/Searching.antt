-- What a search by ticket finds among entries by rising ticket.
use Rattle.std.proofs.Common.{◌≡◌, ◌≢◌, ℕ, zero, suc, ◌+◌, ◌<◌, ◌≤◌, List, [], ◌∷◌, ◌++◌, None, Some, Result, Ok, Err, Contains}
use Rattle.std.proofs.Common.{MatchOption, length, get_or, set, take, drop, slice_get, inl, inr, refl, sym, ap, subst, ◌∙◌, arith, length-set, Equal, nat_cmp}
use Rattle.std.specs.List.Sorted.{IsSearchInRange, IsBinarySearchResult, IsNonDecreasingBy}
use Rattle.std.specs.Ordering.{ordering_index}
use Rattle.std.specs.Result.{result_ok}
use Rattle.std.proofs.lemmas.Bool.{cases_lt, cases_eq}
use Rattle.std.proofs.lemmas.Bool.Decides.{nat_tests}
use Rattle.std.proofs.lemmas.List.Elements.{All-append, filter_map-append}
use Rattle.std.proofs.lemmas.Option.{slice_get-get_or, slice_get_within, get_or_from_slice_get}
use Rattle.slot_ledger.specs.declared.tickets.TicketPlace.{TicketPlace}
use Rattle.slot_ledger.specs.Tickets.{TicketIsAbsent, IsRising, HasTicketAmong, AreStretches, IsInStretches, Removes, pair_of, number_pairs, stretches}
use Rattle.slot_ledger.proofs.Rising.{each_pair, rising_parts, rising_changed, place_there, place_removed}
use Rattle.slot_ledger.proofs.Stretches.{IsAround, around, read_around}

-- a later ticket is higher
rises : (entries : List TicketPlace) → IsRising entries → (i j : ℕ) (d : TicketPlace) → i < j → j < length entries
    → (get_or entries i d).ticket < (get_or entries j d).ticket
rises [] up i j d before within = absurd (omega arith)
rises (e ∷ entries) up i zero d before within = absurd (omega arith)
rises (e ∷ entries) up zero (suc j) d before within = up.0 j d (omega arith)
rises (e ∷ entries) up (suc i) (suc j) d before within = rises entries up.1 i j d (omega arith) (omega arith)

module _ (ticket : ℕ) (entries : List TicketPlace) (up : IsRising entries) where
  comparisons_rise : IsNonDecreasingBy (λ e. ordering_index (nat_cmp e.ticket ticket)) entries
  comparisons_rise i j d le within = elim (cases_eq i j) [
    | inl same ↦ subst (λ (n : ℕ). ordering_index (nat_cmp (get_or entries i d).ticket ticket) ≤ ordering_index
        (nat_cmp (get_or entries n d).ticket ticket)) same (omega arith)
    | inr differs ↦ let below : (get_or entries i d).ticket < (get_or entries j d).ticket = rises entries up i j d (omega arith) within in
        grind (arith, nat_tests)
  ]

  -- a binary search ends at the ticket's entry, or there is none
  pub searched : (r : Result ℕ ℕ) → IsSearchInRange r (length entries) → IsBinarySearchResult (λ e. nat_cmp e.ticket ticket) entries r
      → MatchOption (result_ok r) (TicketIsAbsent ticket (number_pairs entries)) (λ at. HasTicketAmong ticket entries at)
  searched (Ok at) in_range equal = found entries refl
    where
      found : (all : List TicketPlace) → entries ≡ all → HasTicketAmong ticket entries at
      found [] are = let none : length entries ≡ 0 = ap length are in absurd (omega arith)
      found (e ∷ rest) are = let tied : nat_cmp (get_or entries at e).ticket ticket ≡ Equal = equal e in
          (get_or entries at e, slice_get-get_or entries at e in_range, grind (arith, nat_tests))
  searched (Err at) in_range parted =
      each_pair (λ n. n ≢ ticket) entries (λ k d within same.
      let apart = parted comparisons_rise in
      let tied : nat_cmp (get_or entries k d).ticket ticket ≡ Equal = grind (arith, nat_tests) in
      elim (cases_lt k at) [
        | inl low ↦ let less = apart.0 k d (omega arith) low in cc
        | inr high ↦ let greater = apart.1 k d high within in cc
      ])

-- a search in both stretches
module _ (ticket kept next : ℕ) (entries : List TicketPlace) (are : AreStretches kept next entries) where
  pub first_rises : IsRising (take kept entries)
  first_rises = (rising_parts (take kept entries) (drop next entries) are.rising).first

  pub second_rises : IsRising (drop next entries)
  second_rises = (rising_parts (take kept entries) (drop next entries) are.rising).second

  pub in_neither : TicketIsAbsent ticket (number_pairs (take kept entries)) → TicketIsAbsent ticket (number_pairs (drop next entries))
      → TicketIsAbsent ticket (number_pairs (stretches kept next entries))
  in_neither first second = subst (TicketIsAbsent ticket) (sym (filter_map-append pair_of (take kept entries) (drop next entries)))
      (All-append (λ pair. pair.0 ≢ ticket) (number_pairs (take kept entries)) (number_pairs (drop next entries)) first second)

get_in_take : (kept : ℕ) (entries : List TicketPlace) (at : ℕ) (e : TicketPlace) → slice_get (take kept entries) at ≡ Some e
    → (slice_get entries at ≡ Some e) × (at < kept)
get_in_take zero entries at e is = cc
get_in_take (suc kept) [] at e is = cc
get_in_take (suc kept) (x ∷ entries) zero e is = (is, omega arith)
get_in_take (suc kept) (x ∷ entries) (suc at) e is = let rest = get_in_take kept entries at e is in (rest.0, omega arith)

get_in_drop : (next : ℕ) (entries : List TicketPlace) (at : ℕ) → slice_get (drop next entries) at ≡ slice_get entries (next + at)
get_in_drop zero entries at = let e : at ≡ 0 + at = omega arith in ap (slice_get entries) e
get_in_drop (suc next) [] at = refl
get_in_drop (suc next) (x ∷ entries) at = let e : suc next + at ≡ suc (next + at) = omega arith in
    subst (λ n. slice_get (drop next entries) at ≡ slice_get (x ∷ entries) n) (sym e) (get_in_drop next entries at)

pub in_first : (ticket kept next : ℕ) (entries : List TicketPlace) (at : ℕ) → HasTicketAmong ticket (take kept entries) at
    → IsInStretches ticket kept next entries at
in_first ticket kept next entries at has = let there = get_in_take kept entries at has.0 has.1 in ((has.0, there.0, has.2), inl there.1)

pub in_second : (ticket kept next : ℕ) (entries : List TicketPlace) (at : ℕ) → HasTicketAmong ticket (drop next entries) at
    → IsInStretches ticket kept next entries (next + at)
in_second ticket kept next entries at has = ((has.0, sym (get_in_drop next entries at) ∙ has.1, has.2), inr (omega arith))

-- what is read at the place of a ticket's entry, and what is left when its place is taken
module _ (ticket kept next at : ℕ) (entries : List TicketPlace) (x : TicketPlace) (are : AreStretches kept next entries)
    (there : IsInStretches ticket kept next entries at)
    (read : x ≡ get_or entries at x) where
  same_entry : x ≡ there.0.0
  same_entry = read ∙ get_or_from_slice_get entries at there.0.0 x there.0.1

  own_ticket : x.ticket ≡ ticket
  own_ticket = ap (λ (e : TicketPlace). e.ticket) same_entry ∙ there.0.2

  in_range : at < length entries
  in_range = slice_get_within entries at there.0.0 there.0.1

  parts : (front : List TicketPlace) × (back : List TicketPlace) × IsAround kept next at entries front back
  parts = around kept next at entries are.within in_range there.1

  read_parts : stretches kept next entries ≡ parts.0 ++ x ∷ parts.1
  read_parts = read_around kept next at entries parts.0 parts.1 there.0.0 parts.2 there.0.1 ∙ ap (λ (e : TicketPlace). parts.0 ++ e ∷ parts.1) (sym same_entry)

  rising_there : IsRising (parts.0 ++ x ∷ parts.1)
  rising_there = subst IsRising read_parts are.rising

  pub place_tells : MatchOption x.place (TicketIsAbsent ticket (number_pairs (stretches kept next entries)))
      (λ place. Contains (number_pairs (stretches kept next entries)) (ticket, place))
  place_tells =
      subst (λ (l : List TicketPlace). MatchOption x.place (TicketIsAbsent ticket (number_pairs l)) (λ place. Contains (number_pairs l) (ticket, place))) (sym read_parts)
      (subst (λ (n : ℕ). MatchOption x.place (TicketIsAbsent n (number_pairs (parts.0 ++ x ∷ parts.1)))
      (λ place. Contains (number_pairs (parts.0 ++ x ∷ parts.1)) (n, place))) own_ticket
      (place_there parts.0 parts.1 x rising_there x.place refl))

  pub still_stretches : (d : TicketPlace) → d.ticket ≡ ticket → AreStretches kept next (set entries at d)
  still_stretches d same =
      let long = length-set entries at d in
      let bound = are.within.within in
      record {
        within = record { ordered = are.within.ordered; within = omega arith };
        rising = subst IsRising (sym (parts.2.written d)) (rising_changed parts.0 parts.1 x rising_there d (same ∙ sym own_ticket));
        last = λ some. let last = are.last (omega arith) in omega arith;
      }

  pub place_taken : (d : TicketPlace) (place : ℕ) → d.place ≡ None → Contains (number_pairs (stretches kept next entries)) (ticket, place)
      → Removes ticket (number_pairs (stretches kept next entries)) (number_pairs (stretches kept next (set entries at d)))
  place_taken d place none among =
      subst (λ (l : List TicketPlace). Removes ticket (number_pairs (stretches kept next entries)) (number_pairs l)) (sym (parts.2.written d))
      (subst (λ (l : List TicketPlace). Removes ticket (number_pairs l) (number_pairs (parts.0 ++ d ∷ parts.1))) (sym read_parts)
      (subst (λ (n : ℕ). Removes n (number_pairs (parts.0 ++ x ∷ parts.1)) (number_pairs (parts.0 ++ d ∷ parts.1))) own_ticket
      (place_removed parts.0 parts.1 x rising_there d place none
      (subst (λ (n : ℕ). Contains (number_pairs (parts.0 ++ x ∷ parts.1)) (n, place)) (sym own_ticket)
      (subst (λ (l : List TicketPlace). Contains (number_pairs l) (ticket, place)) read_parts among)))))
