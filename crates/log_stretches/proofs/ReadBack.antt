-- An entry more, read from the end of a log.
use Rattle.std.proofs.Common.{◌≡◌, ℕ, ◌+◌, ◌==◌, cond, List, [], ◌∷◌, ◌++◌, Option, None, Some, reverse, refl, ap, sym, ◌∙◌}
use Rattle.std.proofs.lemmas.List.{reverse-append}
use Rattle.std.specs.Option.{option_map_or}
use Rattle.log_entries.specs.declared.entry.Entry.{Entry}
use Rattle.log_stretches.specs.declared.stretch.Lane.{Lane}
use Rattle.log_stretches.specs.declared.stretch.Placing.{Placing}
use Rattle.log_stretches.specs.declared.stretch.Stretch.{Stretch}
use Rattle.log_stretches.specs.Stretches.{placing_in, placed_after, stretch_to, stretches_after}
use Rattle.log_stretches.specs.ReadBack.{AreReadBack}

-- what an entry makes of where a ticket is placed first, and of the stretches, by what it is
placed_more : (count : ℕ) (entry : Entry) (later : List Entry) (ticket : ℕ) (o : Option Placing) → placing_in entry ≡ o
    → placed_after count (entry ∷ later) ticket
    ≡ option_map_or (λ (it : Placing). cond (it.ticket == ticket) (Some (count + 1)) (placed_after (count + 1) later ticket)) o
    (placed_after (count + 1) later ticket)
placed_more count entry later ticket o is =
    ap (λ x. option_map_or (λ (it : Placing). cond (it.ticket == ticket) (Some (count + 1)) (placed_after (count + 1) later ticket)) x
    (placed_after (count + 1) later ticket)) is

stretches_more : (count : ℕ) (entry : Entry) (later : List Entry) (o : Option Placing) → placing_in entry ≡ o
    → stretches_after count (entry ∷ later)
    ≡ option_map_or (λ (it : Placing). stretch_to (count + 1) it (placed_after (count + 1) later it.ticket)) o [] ++ stretches_after (count + 1) later
stretches_more count entry later o is =
    ap (λ x. option_map_or (λ (it : Placing). stretch_to (count + 1) it (placed_after (count + 1) later it.ticket)) x []
    ++ stretches_after (count + 1) later) is

pub nothing_more : (count : ℕ) (entry : Entry) (later : List Entry) (next : ℕ → Option ℕ) (stretches : List Stretch) → placing_in entry ≡ None
    → AreReadBack (count + 1) later next stretches → AreReadBack count (entry ∷ later) next stretches
nothing_more count entry later next stretches is before = record {
  next = λ t. before.next t ∙ sym (placed_more count entry later t None is);
  stretches = before.stretches ∙ sym (stretches_more count entry later None is);
}

-- a list of one stretch or none is itself from behind
one_back : (at : ℕ) (placing : Placing) (to : Option ℕ) (lane : Option Lane) → placing.lane ≡ lane
    → reverse (stretch_to at placing to) ≡ stretch_to at placing to
one_back at placing to None is =
    let short : stretch_to at placing to ≡ [] =
    ap (λ x. option_map_or (λ lane. record { ticket = placing.ticket; lane = lane; from = at; to = to } ∷ []) x []) is in
    ap reverse short ∙ sym short
one_back at placing to (Some lane) is =
    let short : stretch_to at placing to ≡ record { ticket = placing.ticket; lane = lane; from = at; to = to } ∷ [] =
    ap (λ x. option_map_or (λ lane. record { ticket = placing.ticket; lane = lane; from = at; to = to } ∷ []) x []) is in
    ap reverse short ∙ sym short

pub one_more : (count : ℕ) (entry : Entry) (later : List Entry) (old new : ℕ → Option ℕ) (before after : List Stretch) (placing : Placing) (to : Option ℕ)
    → placing_in entry ≡ Some placing → to ≡ old placing.ticket
    → ((t : ℕ) → new t ≡ cond (placing.ticket == t) (Some (count + 1)) (old t))
    → after ≡ before ++ stretch_to (count + 1) placing to
    → AreReadBack (count + 1) later old before → AreReadBack count (entry ∷ later) new after
one_more count entry later old new before after placing to is next updates longer so_far = record {
  next = λ t.
      updates t ∙ ap (λ o. cond (placing.ticket == t) (Some (count + 1)) o) (so_far.next t) ∙ sym (placed_more count entry later t (Some placing) is);
  stretches =
      ap reverse longer ∙ reverse-append before (stretch_to (count + 1) placing to)
      ∙ ap (λ l. l ++ reverse before) (one_back (count + 1) placing to placing.lane refl)
      ∙ ap (λ l. stretch_to (count + 1) placing to ++ l) so_far.stretches
      ∙ ap (λ o. stretch_to (count + 1) placing o ++ stretches_after (count + 1) later) (next ∙ so_far.next placing.ticket)
      ∙ sym (stretches_more count entry later (Some placing) is);
}
