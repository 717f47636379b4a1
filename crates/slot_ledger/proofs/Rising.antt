-- Entries by rising ticket, and their pairs.
use Rattle.std.proofs.Common.{◌≡◌, ◌≢◌, ℕ, ◌<◌, Bool, true, false, cond, List, [], ◌∷◌, ◌++◌, Option, None}
use Rattle.std.proofs.Common.{Some, option_map, is_some, length, filter, All, Contains, MatchOption, refl, sym, ap, subst, ◌∙◌, arith}
use Rattle.std.specs.List.{cons_option}
use Rattle.std.proofs.lemmas.List.Elements.{All-append, All-cons, All-contains, All-filter, All-head}
use Rattle.std.proofs.lemmas.List.Elements.{All-nil, All-tail, All-weaker, filter_map-append, Contains-append_right}
use Rattle.base_lists.proofs.Members.{all_front, all_back}
use Rattle.slot_ledger.specs.declared.tickets.TicketPlace.{TicketPlace}
use Rattle.slot_ledger.specs.Tickets.{TicketIsAbsent, IsBelowAll, IsRising, Removes, has_place, pair_of, number_pairs}

-- what two parts are that rise together
pub record AreRisingParts (front back : List TicketPlace) : Type 0 where
  pub first : IsRising front
  pub second : IsRising back
  pub across : All (λ entry. IsBelowAll entry back) front

pub rising_parts : (front back : List TicketPlace) → IsRising (front ++ back) → AreRisingParts front back
rising_parts [] back up = record { first = tt; second = up; across = All-nil (λ entry. IsBelowAll entry back) }
rising_parts (e ∷ front) back up =
    let parts = rising_parts front back up.1 in
    record {
      first = (all_front (λ other. e.ticket < other.ticket) front back up.0, parts.first);
      second = parts.second;
      across = All-cons (λ entry. IsBelowAll entry back) e front (all_back (λ other. e.ticket < other.ticket) front back up.0) parts.across;
    }

pub rising_joined : (front back : List TicketPlace) → AreRisingParts front back → IsRising (front ++ back)
rising_joined [] back parts = parts.second
rising_joined (e ∷ front) back parts = (
  All-append (λ other. e.ticket < other.ticket) front back parts.first.0 (All-head (λ entry. IsBelowAll entry back) e front parts.across),
  rising_joined front back (record { first = parts.first.1; second = parts.second; across = All-tail (λ entry. IsBelowAll entry back) e front parts.across }),
)

-- one entry goes, is changed, or is added
module _ (front back : List TicketPlace) (e : TicketPlace) (up : IsRising (front ++ e ∷ back)) where
  pub rising_without : IsRising (front ++ back)
  rising_without =
      let parts = rising_parts front (e ∷ back) up in
      rising_joined front back (record {
        first = parts.first;
        second = parts.second.1;
        across = All-weaker (λ x. IsBelowAll x (e ∷ back)) (λ x. IsBelowAll x back)
            (λ x below. All-tail (λ other. x.ticket < other.ticket) e back below) front parts.across;
      })

  pub rising_changed : (d : TicketPlace) → d.ticket ≡ e.ticket → IsRising (front ++ d ∷ back)
  rising_changed d same =
      let parts = rising_parts front (e ∷ back) up in
      rising_joined front (d ∷ back) (record {
        first = parts.first;
        second = (subst (λ n. All (λ other. n < other.ticket) back) (sym same) parts.second.0, parts.second.1);
        across =
            All-weaker (λ x. IsBelowAll x (e ∷ back)) (λ x. IsBelowAll x (d ∷ back))
            (λ x below. All-cons (λ other. x.ticket < other.ticket) d back
            (subst (λ n. x.ticket < n) (sym same) (All-head (λ other. x.ticket < other.ticket) e back below))
            (All-tail (λ other. x.ticket < other.ticket) e back below))
            front parts.across;
      })

pub rising_more : (entries : List TicketPlace) (e : TicketPlace) → IsRising entries → All (λ other. other.ticket < e.ticket) entries
    → IsRising (entries ++ e ∷ [])
rising_more entries e up below = rising_joined entries (e ∷ []) (record {
  first = up;
  second = (All-nil (λ other. e.ticket < other.ticket), tt);
  across = All-weaker (λ x. x.ticket < e.ticket) (λ x. IsBelowAll x (e ∷ []))
      (λ x lower. All-cons (λ other. x.ticket < other.ticket) e [] lower (All-nil (λ other. x.ticket < other.ticket))) entries below;
})

rising_step : (b : Bool) (e : TicketPlace) (entries : List TicketPlace) → IsBelowAll e entries → IsRising entries → IsRising (cond b (e ∷ entries) entries)
rising_step true e entries below up = (below, up)
rising_step false e entries below up = up

pub rising_filter : (test : TicketPlace → Bool) (entries : List TicketPlace) → IsRising entries → IsRising (filter test entries)
rising_filter test [] up = tt
rising_filter test (e ∷ entries) up = rising_step (test e) e (filter test entries) (All-filter test (λ other. e.ticket < other.ticket) entries up.0)
    (rising_filter test entries up.1)

-- the pairs with an entry in the middle that has a place or has none
pub pairs_around : (front back : List TicketPlace) (e : TicketPlace) (o : Option ℕ) → e.place ≡ o
    → number_pairs (front ++ e ∷ back) ≡ number_pairs front ++ cons_option (option_map (λ place. (e.ticket, place)) o) (number_pairs back)
pairs_around front back e o is = filter_map-append pair_of front (e ∷ back)
    ∙ ap (λ (p : Option ℕ). number_pairs front ++ cons_option (option_map (λ place. (e.ticket, place)) p) (number_pairs back)) is

pub pairs_without : (front back : List TicketPlace) (e : TicketPlace) → e.place ≡ None → number_pairs (front ++ e ∷ back) ≡ number_pairs (front ++ back)
pairs_without front back e is = pairs_around front back e None is ∙ sym (filter_map-append pair_of front back)

-- what holds of the tickets of entries holds of those of their pairs, and back where the entries have places
module _ (P : ℕ → Type 0) where
  pair_step : (e : TicketPlace) (o : Option ℕ) (pairs : List (ℕ × ℕ)) → P e.ticket → All (λ pair. P pair.0) pairs
      → All (λ pair. P pair.0) (cons_option (option_map (λ place. (e.ticket, place)) o) pairs)
  pair_step e None pairs this rest = rest
  pair_step e (Some place) pairs this rest = All-cons (λ pair. P pair.0) (e.ticket, place) pairs this rest

  pub each_pair : (entries : List TicketPlace) → All (λ entry. P entry.ticket) entries → All (λ pair. P pair.0) (number_pairs entries)
  each_pair [] all = All-nil (λ pair. P pair.0)
  each_pair (e ∷ entries) all = pair_step e e.place (number_pairs entries) (All-head (λ entry. P entry.ticket) e entries all)
      (each_pair entries (All-tail (λ entry. P entry.ticket) e entries all))

  kept_step : (e : TicketPlace) (o : Option ℕ) (pairs : List (ℕ × ℕ)) (kept : List TicketPlace)
      → (All (λ pair. P pair.0) pairs → All (λ entry. P entry.ticket) kept)
      → All (λ pair. P pair.0) (cons_option (option_map (λ place. (e.ticket, place)) o) pairs)
      → All (λ entry. P entry.ticket) (cond (is_some o) (e ∷ kept) kept)
  kept_step e None pairs kept rest all = rest all
  kept_step e (Some place) pairs kept rest all =
      All-cons (λ entry. P entry.ticket) e kept (All-head (λ pair. P pair.0) (e.ticket, place) pairs all)
      (rest (All-tail (λ pair. P pair.0) (e.ticket, place) pairs all))

  pub each_kept : (entries : List TicketPlace) → All (λ pair. P pair.0) (number_pairs entries) → All (λ entry. P entry.ticket) (filter has_place entries)
  each_kept [] all = All-nil (λ entry. P entry.ticket)
  each_kept (e ∷ entries) all = kept_step e e.place (number_pairs entries) (filter has_place entries) (each_kept entries) all

-- the entries that have a place have all the pairs, and are as many
module _ (e : TicketPlace) (kept : List TicketPlace) (pairs : List (ℕ × ℕ)) where
  same_step : (o : Option ℕ) → e.place ≡ o → number_pairs kept ≡ pairs
      → number_pairs (cond (is_some o) (e ∷ kept) kept) ≡ cons_option (option_map (λ place. (e.ticket, place)) o) pairs
  same_step None is same = same
  same_step (Some place) is same = pairs_around [] kept e (Some place) is ∙ ap (λ (l : List (ℕ × ℕ)). (e.ticket, place) ∷ l) same

  length_step : (o : Option ℕ) → length kept ≡ length pairs
      → length (cond (is_some o) (e ∷ kept) kept) ≡ length (cons_option (option_map (λ place. (e.ticket, place)) o) pairs)
  length_step None same = same
  length_step (Some place) same = omega arith

pub pairs_kept : (entries : List TicketPlace) → number_pairs (filter has_place entries) ≡ number_pairs entries
pairs_kept [] = refl
pairs_kept (e ∷ entries) = same_step e (filter has_place entries) (number_pairs entries) e.place refl (pairs_kept entries)

pub length-kept : (entries : List TicketPlace) → length (filter has_place entries) ≡ length (number_pairs entries)
length-kept [] = refl
length-kept (e ∷ entries) = length_step e (filter has_place entries) (number_pairs entries) e.place (length-kept entries)

-- an entry in the middle of what rises
module _ (front back : List TicketPlace) (e : TicketPlace) (up : IsRising (front ++ e ∷ back)) where
  -- no other has its ticket
  pub others_absent : TicketIsAbsent e.ticket (number_pairs front ++ number_pairs back)
  others_absent =
      let parts = rising_parts front (e ∷ back) up in
      All-append (λ pair. pair.0 ≢ e.ticket) (number_pairs front) (number_pairs back)
      (each_pair (λ n. n ≢ e.ticket) front (All-weaker (λ x. IsBelowAll x (e ∷ back)) (λ x. x.ticket ≢ e.ticket)
      (λ x all same. let below : x.ticket < e.ticket = All-head (λ other. x.ticket < other.ticket) e back all in absurd (omega arith)) front parts.across))
      (each_pair (λ n. n ≢ e.ticket) back (All-weaker (λ x. e.ticket < x.ticket) (λ x. x.ticket ≢ e.ticket)
      (λ x above same. absurd (omega arith)) back parts.second.0))

  -- its place is that of its ticket's pair
  pub place_there : (o : Option ℕ) → e.place ≡ o
      → MatchOption o (TicketIsAbsent e.ticket (number_pairs (front ++ e ∷ back))) (λ place. Contains (number_pairs (front ++ e ∷ back)) (e.ticket, place))
  place_there None is = subst (TicketIsAbsent e.ticket) (sym (pairs_around front back e None is)) others_absent
  place_there (Some place) is =
      subst (λ (l : List (ℕ × ℕ)). Contains l (e.ticket, place)) (sym (pairs_around front back e (Some place) is))
      (Contains-append_right (number_pairs front) ((e.ticket, place) ∷ number_pairs back) (e.ticket, place) (0, omega arith, refl))

  -- where it loses its place, its pair is gone
  pub place_removed : (d : TicketPlace) (place : ℕ) → d.place ≡ None → Contains (number_pairs (front ++ e ∷ back)) (e.ticket, place)
      → Removes e.ticket (number_pairs (front ++ e ∷ back)) (number_pairs (front ++ d ∷ back))
  place_removed d place none among = by_place e.place refl
    where
      after : number_pairs (front ++ d ∷ back) ≡ number_pairs front ++ number_pairs back
      after = pairs_around front back d None none

      by_place : (o : Option ℕ) → e.place ≡ o → Removes e.ticket (number_pairs (front ++ e ∷ back)) (number_pairs (front ++ d ∷ back))
      by_place None is = absurd (All-contains (λ pair. pair.0 ≢ e.ticket) (number_pairs front ++ number_pairs back) (e.ticket, place) others_absent
          (subst (λ (l : List (ℕ × ℕ)). Contains l (e.ticket, place)) (pairs_around front back e None is) among) refl)
      by_place (Some own) is = record {
        front = number_pairs front;
        back = number_pairs back;
        place = own;
        before = pairs_around front back e (Some own) is;
        after = after;
        gone = subst (TicketIsAbsent e.ticket) (sym after) others_absent;
      }
