-- How a history goes on inside an event, and the event whole.
use Rattle.std.proofs.Common.{◌≡◌, ℕ, ◌+◌, ◌≤◌, false, true, List, [], ◌∷◌, ◌++◌, length, refl, ap, sym, ◌∙◌, arith}
use Rattle.std.proofs.Common.{append_assoc, length-append}
use Rattle.std.proofs.lemmas.List.{append-nil}
use Rattle.std.proofs.lemmas.List.Elements.{All-cons, All-nil, All-append}
use Rattle.log_entries.specs.declared.entry.Entry.{Entry}
use Rattle.log_entries.specs.declared.setup.Setup.{Setup}
use Rattle.log_entries.specs.Histories.{History, begins_event}
use Rattle.log_entries.specs.Legal.{AddsEvent}
use Rattle.log_entries.specs.Judgement.{granting}
use Rattle.log_entries.proofs.Runs.{adds_piece}
use Rattle.dispatch_state.specs.Histories.{with_entry, stage_of, waiting_of, HasPlaces, IsOverNext, HasEntryRoom}
use Rattle.dispatch_state.proofs.Placing.{same_setup, same_base, longer, places_on, places_next, few_wait, over_granting, may_granting}
use Rattle.dispatch_core.specs.Steps.{GoesOn, PlacesRequest, Settles, CarriesOn, HasEventRoom}

-- an entry that begins no event
abbrev IsInside : Entry → Type 0
IsInside entry = begins_event entry ≡ false

-- ways of going on
abbrev pub goes_none : (h : History) → GoesOn h h
goes_none h = record { entries = []; log = sym (append-nil h.log); setup = refl; base = refl; one_event = All-nil IsInside }

abbrev pub goes_entry : (h next : History) (e : Entry) → next ≡ with_entry h e → begins_event e ≡ false → GoesOn h next
goes_entry h next e goes inside = record {
  entries = e ∷ [];
  log = ap (λ (x : History). x.log) goes;
  setup = same_setup h next e goes;
  base = same_base h next e goes;
  one_event = All-cons IsInside e [] inside (All-nil IsInside);
}

abbrev pub goes_then : (a b c : History) → GoesOn a b → GoesOn b c → GoesOn a c
goes_then a b c first second = record {
  entries = first.entries ++ second.entries;
  log = second.log ∙ ap (λ (l : List Entry). l ++ second.entries) first.log ∙ append_assoc a.log first.entries second.entries;
  setup = second.setup ∙ first.setup;
  base = second.base ∙ first.base;
  one_event = All-append IsInside first.entries second.entries first.one_event second.one_event;
}

-- a way of going on, and an entry more
abbrev pub goes_more : (a b c : History) (e : Entry) → GoesOn a b → c ≡ with_entry b e → begins_event e ≡ false → GoesOn a c
goes_more a b c e goes more inside = goes_then a b c goes (goes_entry b c e more inside)

abbrev pub goes_places : (a b : History) → PlacesRequest a b → GoesOn a b
goes_places a b is = goes_entry a b is.placement is.placed is.one_event

-- how long it is then
pub goes_long : (a b : History) (goes : GoesOn a b) → length b.log ≡ length a.log + length goes.entries
goes_long a b goes = ap length goes.log ∙ length-append a.log goes.entries

-- there is room for the grants where there was for them and for some entries more, and no more came
pub room_left : (a b : History) (goes : GoesOn a b) (n : ℕ) → length goes.entries ≤ n → length a.log + n + a.setup.places ≤ a.setup.log
    → HasPlaces a → length b.log + waiting_of b ≤ b.setup.log
room_left a b goes n few room has =
    let long = goes_long a b goes in
    let waiting = few_wait b (places_on a b goes.setup goes.base has) in
    let places : b.setup.places ≡ a.setup.places = ap (λ (s : Setup). s.places) goes.setup in
    let most : b.setup.log ≡ a.setup.log = ap (λ (s : Setup). s.log) goes.setup in
    omega arith

-- once begun, what has room for an event has room for the rest of it
pub begun_room : (h one : History) (e : Entry) → HasEntryRoom h → HasPlaces h → one ≡ with_entry h e → HasEventRoom one
begun_room h one e room has begun =
    let long = longer h one e begun in
    let places : one.setup.places ≡ h.setup.places = ap (λ (s : Setup). s.places) (same_setup h one e begun) in
    let most : one.setup.log ≡ h.setup.log = ap (λ (s : Setup). s.log) (same_setup h one e begun) in
    record { room = omega arith; places = places_next h one e begun has }

-- nothing is owed where the event's own entries have come
pub carries : (a b : History) (goes : GoesOn a b) (n : ℕ) → stage_of b ≡ granting → length goes.entries ≤ n
    → length a.log + n + a.setup.places ≤ a.setup.log → HasPlaces a → CarriesOn a b
carries a b goes n stage few room has = record {
  goes = goes;
  over = over_granting b stage;
  may_grant = may_granting b stage;
  room = room_left a b goes n few room has;
}

-- an event whole: its first entry, what that brings, and grants
pub adds : (h one last now : History) (event : Entry) → begins_event event ≡ true → one ≡ with_entry h event → GoesOn one last → IsOverNext last
    → Settles last now
    → AddsEvent h now event
adds h one last now event begins begun goes over settled =
    let all = goes_then one last now goes settled.goes in
    let log = all.log ∙ ap (λ (x : History). x.log ++ all.entries) begun ∙ append_assoc h.log (event ∷ []) all.entries in
    record {
      brought = all.entries;
      log = log;
      one_event = all.one_event;
      setup = all.setup ∙ same_setup h one event begun;
      base = all.base ∙ same_base h one event begun;
      lawful = adds_piece h now event all.entries begins (all.setup ∙ same_setup h one event begun) (all.base ∙ same_base h one event begun) log
          (record { judged = settled.judged.judged; whole = settled.over over; settled = settled.settled });
    }

pub carried_adds : (h one last now : History) (event : Entry) → begins_event event ≡ true → one ≡ with_entry h event → CarriesOn one last → Settles last now
    → AddsEvent h now event
carried_adds h one last now event begins begun is settled = adds h one last now event begins begun is.goes is.over settled
