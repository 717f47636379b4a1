-- Histories that are the same but for places answer every call alike.
use Rattle.std.proofs.Common.{◌≡◌, ℕ, Bool, true, false, is_some, is_none, List, [], ◌∷◌, ◌++◌, Option, map, length, nat_le, All, refl, ap, sym, ◌∙◌, subst}
use Rattle.std.specs.Option.{option_map_or}
use Rattle.std.proofs.lemmas.List.{length-map, map-append}
use Rattle.std.proofs.lemmas.List.Elements.{All-head, All-tail}
use Rattle.log_entries.specs.declared.entry.Entry.{Entry}
use Rattle.log_entries.specs.declared.refusal.Refusal.TheVariants.{LogFull, NoSuchTicket, WrongPhase, NoSuchServer, TicketsSpent, PlacesFull}
use Rattle.log_entries.specs.declared.row.Phase.{Phase}
use Rattle.log_entries.specs.declared.row.Row.{Row}
use Rattle.log_entries.specs.declared.setup.Setup.{Setup}
use Rattle.log_entries.specs.Determined.{events, unplaced, AreSameButForPlaces, IsSameButForPlaces, AreSameHistories, AreRefusedAlike}
use Rattle.log_entries.specs.Histories.{History, state_of, next_window, rolled, begins_event}
use Rattle.log_entries.specs.Judgement.{AllMayCome, AreLawful, granting, stage_after}
use Rattle.log_entries.specs.Legal.{IsLegal, AddsEvent}
use Rattle.log_entries.specs.Refusals.{first_of, lacks_room, pins_to_none, tickets_are_spent, ticket_refusal}
use Rattle.log_entries.specs.Refusals.{arrival_refusal, tick_refusal, check_refusal, limit_refusal}
use Rattle.log_entries.specs.States.{State, after_all, point_of}
use Rattle.log_entries.proofs.Consistency.{at_stage}
use Rattle.log_entries.proofs.Determined.{IsLeft, determined, head_begins, head_goes_on}
use Rattle.log_entries.proofs.Dispatched.{legal_consistent}
use Rattle.log_entries.proofs.Judged.{over_none}
use Rattle.log_entries.proofs.Runs.{after_on, is_event}
use Rattle.log_entries.proofs.SameRows.{row_of-same}
use Rattle.log_entries.proofs.Windows.{legal_keeps}

-- logs that are the same but for places are as long
same_length : (es fs : List Entry) → AreSameButForPlaces es fs → length es ≡ length fs
same_length es fs alike = sym (length-map es unplaced) ∙ ap length alike ∙ length-map fs unplaced

-- what is told of a setup, a state and how many entries left it, is told of both
module _ {R : Type 0} (tell : Setup → State → ℕ → R) where
  told_alike : (h other : History) → AreSameHistories h other
      → tell h.setup (state_of h) (length h.log) ≡ tell h.setup (record (state_of h) { rows = (state_of other).rows }) (length h.log)
      → tell h.setup (state_of h) (length h.log) ≡ tell other.setup (state_of other) (length other.log)
  told_alike h other same here =
      here
      ∙ ap (λ (s : State). tell h.setup s (length h.log)) (sym same.state.rest)
      ∙ ap (λ (n : ℕ). tell h.setup (state_of other) n) (same_length h.log other.log same.log)
      ∙ ap (λ (x : Setup). tell x (state_of other) (length other.log)) (sym same.setup)

ticket_alike : (wrong : Phase → Bool) (h other : History) → IsLegal h → IsLegal other → AreSameHistories h other → (u : ℕ)
    → ticket_refusal wrong h.setup (state_of h) (length h.log) u ≡ ticket_refusal wrong other.setup (state_of other) (length other.log) u
ticket_alike wrong h other legal its same u =
    told_alike (λ setup s n. ticket_refusal wrong setup s n u) h other same
    (ap (λ (row : Option Row). first_of ((lacks_room h.setup (length h.log), LogFull) ∷ (is_none row, NoSuchTicket) ∷
    (option_map_or (λ (it : Row). wrong it.phase) row false, WrongPhase) ∷ []))
    (row_of-same (state_of h).rows (state_of other).rows same.state.rows (legal_consistent h legal).tickets (legal_consistent other its).tickets u))

arrival_alike : (h other : History) → AreSameHistories h other → (pin : Option ℕ)
    → arrival_refusal h.setup (state_of h) (length h.log) pin ≡ arrival_refusal other.setup (state_of other) (length other.log) pin
arrival_alike h other same pin =
    told_alike (λ setup s n. arrival_refusal setup s n pin) h other same
    (ap (λ (count : ℕ). first_of ((lacks_room h.setup (length h.log), LogFull) ∷ (pins_to_none h.setup pin, NoSuchServer) ∷
    (tickets_are_spent (state_of h).ticket, TicketsSpent) ∷ (nat_le h.setup.places count, PlacesFull) ∷ []))
    (same.state.rows.counted is_some refl))

pub refused_alike : (h other : History) → IsLegal h → IsLegal other → AreSameHistories h other → AreRefusedAlike h other
refused_alike h other legal its same = record {
  arrival = arrival_alike h other same;
  done = ticket_alike _ h other legal its same;
  failure = ticket_alike _ h other legal its same;
  abort = ticket_alike _ h other legal its same;
  tick = told_alike (λ setup s n. tick_refusal setup n) h other same refl;
  check = λ server. told_alike (λ setup s n. check_refusal setup n server) h other same refl;
  limit = λ server. told_alike (λ setup s n. limit_refusal setup n server) h other same refl;
}

-- what a legal log leaves, where the next event begins
rests : (h : History) → IsLegal h → IsLeft h.setup (state_of h) granting
rests h legal = record {
  consistent = at_stage (state_of h).rows (state_of h).ticket (stage_after granting h.log) granting (legal_consistent h legal)
      (over_none h.setup (state_of h) (stage_after granting h.log) legal.lawful.whole);
  keeps = legal_keeps h legal;
}

none_begins : (es : List Entry) → All (λ entry. begins_event entry ≡ false) es → events es ≡ []
none_begins [] none = refl
none_begins (e ∷ es) none =
    head_goes_on e es (All-head (λ entry. begins_event entry ≡ false) e es none) ∙ none_begins es (All-tail (λ entry. begins_event entry ≡ false) e es none)

one_begins : (e : Entry) (es : List Entry) → begins_event e ≡ true → All (λ entry. begins_event entry ≡ false) es
    → map unplaced (events (e ∷ es)) ≡ unplaced e ∷ []
one_begins e es begins none = ap (map unplaced) (head_begins e es begins ∙ ap (λ l. e ∷ l) (none_begins es none))

-- what an event brings
module _ (setup : Setup) (base obase : State) (log olog : List Entry) (e f : Entry) (b c : List Entry) where
  abbrev mine : History
  mine = record { setup = setup; base = base; log = log }

  abbrev its : History
  its = record { setup = setup; base = obase; log = olog }

  brought_alike : IsLegal mine → IsLegal its → AreSameHistories mine its → AreLawful (point_of setup (state_of mine) (length log)) (e ∷ b)
      → AreLawful (point_of setup (state_of its) (length olog)) (f ∷ c)
      → All (λ entry. begins_event entry ≡ false) b → All (λ entry. begins_event entry ≡ false) c → unplaced e ≡ unplaced f
      → AreSameButForPlaces (e ∷ b) (f ∷ c) × IsSameButForPlaces (after_all setup (state_of mine) (e ∷ b)) (after_all setup (state_of its) (f ∷ c))
  brought_alike legal too same all each one other alike =
      let begins = is_event (point_of setup (state_of mine) (length log)) e legal.lawful.settled all.judged.0 in
      let starts = is_event (point_of setup (state_of its) (length olog)) f too.lawful.settled each.judged.0 in
      determined setup (e ∷ b) (f ∷ c) (state_of mine) (state_of its) (length log) granting (rests mine legal) (rests its too) same.state all.judged
      (subst (λ (n : ℕ). AllMayCome (point_of setup (state_of its) n) granting (f ∷ c)) (sym (same_length log olog same.log)) each.judged)
      (record { over = all.whole; settled = all.settled }) (record { over = each.whole; settled = each.settled })
      (one_begins e b begins one ∙ ap (λ x. x ∷ []) alike ∙ sym (one_begins f c starts other))

  grown_alike : IsLegal mine → IsLegal its → AreSameHistories mine its → AreLawful (point_of setup (state_of mine) (length log)) (e ∷ b)
      → AreLawful (point_of setup (state_of its) (length olog)) (f ∷ c)
      → All (λ entry. begins_event entry ≡ false) b → All (λ entry. begins_event entry ≡ false) c → unplaced e ≡ unplaced f
      → AreSameHistories (record mine { log = log ++ e ∷ b }) (record its { log = olog ++ f ∷ c })
  grown_alike legal too same all each one other alike =
      let brought = brought_alike legal too same all each one other alike in
      let old : map unplaced log ≡ map unplaced olog = same.log in
      let more : map unplaced (e ∷ b) ≡ map unplaced (f ∷ c) = brought.0 in
      record {
        setup = refl;
        base = same.base;
        log = map-append unplaced log (e ∷ b) ∙ ap (λ l. l ++ map unplaced (e ∷ b)) old ∙ ap (λ l. map unplaced olog ++ l) more
            ∙ sym (map-append unplaced olog (f ∷ c));
        state = subst (λ (s : State). IsSameButForPlaces s (after_all setup obase (olog ++ f ∷ c))) (sym (after_on setup base log (e ∷ b)))
            (subst (λ (s : State). IsSameButForPlaces (after_all setup (state_of mine) (e ∷ b)) s) (sym (after_on setup obase olog (f ∷ c))) brought.1);
      }

-- a history of these parts
whole : (h : History) (setup : Setup) (base : State) (log : List Entry) → h.setup ≡ setup → h.base ≡ base → h.log ≡ log
    → h ≡ record { setup = setup; base = base; log = log }
whole h setup base log setups bases logs =
    ap (λ (x : Setup). record h { setup = x }) setups
    ∙ ap (λ (x : State). record { setup = setup; base = x; log = h.log }) bases
    ∙ ap (λ (x : List Entry). record { setup = setup; base = base; log = x }) logs

-- events that are the same but for their places leave histories that are
pub added_alike : (h other next theirs : History) (e f : Entry) → IsLegal h → IsLegal other → AreSameHistories h other → AddsEvent h next e
    → AddsEvent other theirs f → unplaced e ≡ unplaced f → AreSameHistories next theirs
added_alike h other next theirs e f legal its same adds too alike =
    subst (λ x. AreSameHistories x theirs) (sym (whole next h.setup h.base (h.log ++ e ∷ adds.brought) adds.setup adds.base adds.log))
    (subst (AreSameHistories (record h { log = h.log ++ e ∷ adds.brought }))
    (sym (whole theirs other.setup other.base (other.log ++ f ∷ too.brought) too.setup too.base too.log))
    (at_setup other.setup (sym same.setup) its same too.lawful))
  where
    at_setup : (x : Setup) → h.setup ≡ x → IsLegal (record other { setup = x }) → AreSameHistories h (record other { setup = x })
        → AreLawful (point_of x (after_all x other.base other.log) (length other.log)) (f ∷ too.brought)
        → AreSameHistories (record h { log = h.log ++ e ∷ adds.brought }) (record { setup = x; base = other.base; log = other.log ++ f ∷ too.brought })
    at_setup x is =
        subst
        (λ (y : Setup). IsLegal (record other { setup = y }) → AreSameHistories h (record other { setup = y })
        → AreLawful (point_of y (after_all y other.base other.log) (length other.log)) (f ∷ too.brought)
        → AreSameHistories (record h { log = h.log ++ e ∷ adds.brought }) (record { setup = y; base = other.base; log = other.log ++ f ∷ too.brought }))
        is
        (λ theirs_legal theirs_same lawful. grown_alike h.setup h.base other.base h.log other.log e f adds.brought too.brought legal theirs_legal theirs_same
        adds.lawful lawful adds.one_event too.one_event alike)

-- and so do rolls
pub rolled_alike : (h other : History) → AreSameHistories h other → AreSameHistories (next_window h) (next_window other)
rolled_alike h other same = record { setup = same.setup; base = based; log = refl; state = based }
  where
    based : IsSameButForPlaces (rolled h.setup (state_of h)) (rolled other.setup (state_of other))
    based = record {
      rows = same.state.rows;
      rest =
          ap (λ (x : Setup). rolled x (state_of other)) same.setup
          ∙ ap (λ (s : State). record (rolled h.setup s) { rows = (state_of other).rows }) same.state.rest;
    }
