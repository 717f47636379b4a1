-- The entries of an index that count: those below one place and those from another on.
use Rattle.std.proofs.Common.{◌≡◌, ◌⊎◌, ℕ, suc, ◌+◌, ◌-◌, ◌<◌, ◌≤◌, List, [], ◌∷◌, ◌++◌}
use Rattle.std.proofs.Common.{None, Some, length, get_or, set, take, drop, slice_get, filter, All, inl, inr}
use Rattle.std.proofs.Common.{refl, sym, ap, subst, ◌∙◌, arith, length-append, length-take, length-drop, append_assoc}
use Rattle.std.proofs.Math.Seq.{take-set-lt}
use Rattle.std.proofs.lemmas.List.{set_split, take-set-le, drop-set-lt, drop-set-add, take-append-le, drop-append-le, take_more, take_all, drop_more}
use Rattle.std.proofs.lemmas.List.Elements.{All-append, All-cons, All-head, All-nil, All-weaker}
use Rattle.std.proofs.lemmas.Option.{slice_get_within, get_or_from_slice_get, slice_get-get_or}
use Rattle.base_lists.proofs.Places.{set_read}
use Rattle.slot_ledger.specs.declared.tickets.TicketPlace.{TicketPlace}
use Rattle.slot_ledger.specs.Tickets.{IsBelowAll, IsRising, TicketsAreWithin, AreStretches, SweepsOneOn, IsAboveLast, has_place, number_pairs, stretches}
use Rattle.slot_ledger.proofs.Rising.{rising_parts, rising_without, rising_more, rising_filter, pairs_around, pairs_without, pairs_kept, each_kept}

-- what stands around a place that counts, whatever is written there
pub record IsAround (kept next at : ℕ) (entries front back : List TicketPlace) : Type 0 where
  pub written : (e : TicketPlace) → stretches kept next (set entries at e) ≡ front ++ e ∷ back

module _ (kept next at : ℕ) (entries : List TicketPlace) (within : TicketsAreWithin kept next entries) (there : at < length entries) where
  around_low : at < kept → (front : List TicketPlace) × (back : List TicketPlace) × IsAround kept next at entries front back
  around_low low = (
    take at (take kept entries),
    drop (suc at) (take kept entries) ++ drop next entries,
    record {
      written = λ e.
          let ordered = within.ordered in
          let bound = within.within in
          let long = length-take kept entries in
          ap (λ (l : List TicketPlace). l ++ drop next (set entries at e)) (take-set-lt kept entries at e low
          ∙ set_split (take kept entries) at e (omega arith))
          ∙ ap (λ (l : List TicketPlace). (take at (take kept entries) ++ e ∷ drop (suc at) (take kept entries)) ++ l)
          (drop-set-lt next entries at e (omega arith))
          ∙ append_assoc (take at (take kept entries)) (e ∷ drop (suc at) (take kept entries)) (drop next entries);
    },
  )

  around_high : (more : ℕ) → at ≡ next + more → (front : List TicketPlace) × (back : List TicketPlace) × IsAround kept next at entries front back
  around_high more is = (
    take kept entries ++ take more (drop next entries),
    drop (suc more) (drop next entries),
    record {
      written = λ e.
          let ordered = within.ordered in
          let long = length-drop next entries in
          ap (λ (l : List TicketPlace). l ++ drop next (set entries at e)) (take-set-le kept entries at e (omega arith))
          ∙ ap (λ (n : ℕ). take kept entries ++ drop next (set entries n e)) is
          ∙ ap (λ (l : List TicketPlace). take kept entries ++ l) (drop-set-add next entries more e ∙ set_split (drop next entries) more e (omega arith))
          ∙ sym (append_assoc (take kept entries) (take more (drop next entries)) (e ∷ drop (suc more) (drop next entries)));
    },
  )

  pub around : (at < kept) ⊎ (next ≤ at) → (front : List TicketPlace) × (back : List TicketPlace) × IsAround kept next at entries front back
  around side = elim side [
    | inl low ↦ around_low low
    | inr high ↦ around_high (at - next) (omega arith)
  ]

pub read_around : (kept next at : ℕ) (entries front back : List TicketPlace) (e : TicketPlace) → IsAround kept next at entries front back
    → slice_get entries at ≡ Some e
    → stretches kept next entries ≡ front ++ e ∷ back
read_around kept next at entries front back e is there = ap (stretches kept next) (sym (set_read entries at e there)) ∙ is.written e

-- an entry without a place that is passed
module _ (kept next : ℕ) (entries : List TicketPlace) (e : TicketPlace) (are : AreStretches kept next entries) (there : slice_get entries next ≡ Some e) where
  here : next < length entries
  here = slice_get_within entries next e there

  first_of_rest : drop next entries ≡ e ∷ drop (next + 1) entries
  first_of_rest = drop_more entries next e here ∙ ap (λ (x : TicketPlace). x ∷ drop (next + 1) entries) (get_or_from_slice_get entries next e e there)

  pub pass_dropped : e.place ≡ None → SweepsOneOn kept next kept entries entries
  pass_dropped none =
      let ordered = are.within.ordered in
      let in_range = here in
      let parts : stretches kept next entries ≡ take kept entries ++ e ∷ drop (next + 1) entries =
      ap (λ (l : List TicketPlace). take kept entries ++ l) first_of_rest in
      record {
        within = record { ordered = omega arith; within = omega arith };
        rising = rising_without (take kept entries) (drop (next + 1) entries) e (subst IsRising parts are.rising);
        pairs = sym (pairs_without (take kept entries) (drop (next + 1) entries) e none) ∙ ap number_pairs (sym parts);
        len = refl;
      }

-- entries of which all count
pub whole : (entries : List TicketPlace) → IsRising entries → AreStretches 0 0 entries
whole entries up = record { within = record { ordered = omega arith; within = omega arith }; rising = up; last = λ some. some }

-- a ticket above the last one is above all
module _ (kept next ticket : ℕ) (entries : List TicketPlace) (are : AreStretches kept next entries) (above : IsAboveLast ticket entries) where
  above_all_with : (e : TicketPlace) → 0 < length entries → All (λ entry. entry.ticket < ticket) (stretches kept next entries)
  above_all_with d some =
      let n = length entries - 1 in
      let last = get_or entries n d in
      let init = take n entries in
      let beyond = are.last some in
      let ordered = are.within.ordered in
      let long = length-take n entries in
      let whole_is : entries ≡ init ++ last ∷ [] =
      sym (take_all (n + 1) entries (omega arith)) ∙ take_more entries n d (omega arith) in
      let parts : stretches kept next entries ≡ (take kept entries ++ drop next init) ++ last ∷ [] =
      ap (λ (l : List TicketPlace). take kept entries ++ drop next l) whole_is
      ∙ ap (λ (l : List TicketPlace). take kept entries ++ l) (drop-append-le next init (last ∷ []) (omega arith))
      ∙ sym (append_assoc (take kept entries) (drop next init) (last ∷ [])) in
      let rising = rising_parts (take kept entries ++ drop next init) (last ∷ []) (subst IsRising parts are.rising) in
      let top : last.ticket < ticket = above last (slice_get-get_or entries n d (omega arith)) in
      subst (All (λ entry. entry.ticket < ticket)) (sym parts)
      (All-append (λ entry. entry.ticket < ticket) (take kept entries ++ drop next init) (last ∷ [])
      (All-weaker (λ x. IsBelowAll x (last ∷ [])) (λ x. x.ticket < ticket)
      (λ x below. let lower : x.ticket < last.ticket = All-head (λ other. x.ticket < other.ticket) last [] below in
      omega arith) (take kept entries ++ drop next init) rising.across)
      (All-cons (λ entry. entry.ticket < ticket) last [] top (All-nil (λ entry. entry.ticket < ticket))))

  pub above_all : All (λ entry. entry.ticket < ticket) (stretches kept next entries)
  above_all k d within = above_all_with d some k d within
    where
      some : 0 < length entries
      some =
          let a = length-append (take kept entries) (drop next entries) in
          let b = length-take kept entries in
          let c = length-drop next entries in
          omega arith

-- one entry more
module _ (kept next : ℕ) (entries : List TicketPlace) (e : TicketPlace) (within : TicketsAreWithin kept next entries) where
  pub stretches-push : stretches kept next (entries ++ e ∷ []) ≡ stretches kept next entries ++ e ∷ []
  stretches-push =
      let ordered = within.ordered in
      let bound = within.within in
      ap (λ (l : List TicketPlace). l ++ drop next (entries ++ e ∷ [])) (take-append-le kept entries (e ∷ []) (omega arith))
      ∙ ap (λ (l : List TicketPlace). take kept entries ++ l) (drop-append-le next entries (e ∷ []) bound)
      ∙ sym (append_assoc (take kept entries) (drop next entries) (e ∷ []))

  pub are-push : IsRising (stretches kept next entries) → All (λ other. other.ticket < e.ticket) (stretches kept next entries)
      → AreStretches kept next (entries ++ e ∷ [])
  are-push up below =
      let long = length-append entries (e ∷ []) in
      let bound = within.within in
      record {
        within = record { ordered = within.ordered; within = omega arith };
        rising = subst IsRising (sym stretches-push) (rising_more (stretches kept next entries) e up below);
        last = λ some. omega arith;
      }

-- entries that take one ticket more at their end: they have these pairs, all of lower tickets
pub record AreReady (ticket kept next : ℕ) (entries : List TicketPlace) (pairs : List (ℕ × ℕ)) : Type 0 where
  pub are : AreStretches kept next entries
  pub below : All (λ entry. entry.ticket < ticket) (stretches kept next entries)
  pub same : number_pairs (stretches kept next entries) ≡ pairs

module _ (ticket kept next : ℕ) (entries : List TicketPlace) (are : AreStretches kept next entries) where
  pub ready_as_they_are : IsAboveLast ticket entries → AreReady ticket kept next entries (number_pairs (stretches kept next entries))
  ready_as_they_are above = record { are = are; below = above_all kept next ticket entries are above; same = refl }

  pub ready_compacted : All (λ pair. pair.0 < ticket) (number_pairs (stretches kept next entries))
      → AreReady ticket 0 0 (filter has_place (stretches kept next entries)) (number_pairs (stretches kept next entries))
  ready_compacted highest = record {
    are = whole (filter has_place (stretches kept next entries)) (rising_filter has_place (stretches kept next entries) are.rising);
    below = each_kept (λ n. n < ticket) (stretches kept next entries) highest;
    same = pairs_kept (stretches kept next entries);
  }

module _ (kept next : ℕ) (entries : List TicketPlace) (e : TicketPlace) (place : ℕ) (pairs : List (ℕ × ℕ)) (is : e.place ≡ Some place)
    (ready : AreReady e.ticket kept next entries pairs) where
  pub pushed_are : AreStretches kept next (entries ++ e ∷ [])
  pushed_are = are-push kept next entries e ready.are.within ready.are.rising ready.below

  pub pushed_pairs : number_pairs (stretches kept next (entries ++ e ∷ [])) ≡ pairs ++ (e.ticket, place) ∷ []
  pushed_pairs =
      ap number_pairs (stretches-push kept next entries e ready.are.within)
      ∙ pairs_around (stretches kept next entries) [] e (Some place) is
      ∙ ap (λ (l : List (ℕ × ℕ)). l ++ (e.ticket, place) ∷ []) ready.same
