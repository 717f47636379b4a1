use Rattle.std.proofs.Common.{◌≡◌, ◌+◌, Some, slice_set, refl, sym, subst}
use Rattle.log_entries.specs.declared.row.Phase.TheVariants.{Loose}
use Rattle.slot_ledger.specs.Ledgers.{with_cells}
use Rattle.due_key.specs.Range.{IsBetween}
use Rattle.due_key.specs.declared.class.TheConstants.{LOWEST_CLASS, HIGHEST_CLASS}
use Rattle.due_key.specs.declared.key.Key.{Key}
use Rattle.log_entries.specs.declared.entry.Arrival.{Arrival}
use Rattle.log_entries.specs.declared.entry.Entry.TheVariants.{Arrive}
use Rattle.log_entries.specs.Histories.{refuses_arrival}
use Rattle.queue_waits.specs.Waitlists.{list_of}
use Rattle.dispatch_state.specs.Histories.{MayBeginNext}
use Rattle.dispatch_state.specs.LoggedStates.{LoggedState, IsLoggedState, history_of, noted}
use Rattle.log_entries.specs.Logs.{Recorded}
use Rattle.log_entries.specs.States.{arrived}
use Rattle.log_reading.specs.Readable.{MayFollow}
use Rattle.log_reading.specs.Windows.{base_rows}
use Rattle.dispatch_state.proofs.Stepping.{follows_on}
use Rattle.dispatch_state.proofs.Beginning.{arrival_fits, place_is_small, pin_is_small, next_is_highest, arrive_kept, newcomer_at}
use Rattle.dispatch_state.proofs.Stepping.{closed}
use Rattle.dispatch_state.proofs.Stepping.{here_begins}
use Rattle.dispatch_state.proofs.state.DispatchState.arrive.Given as given
use Rattle.dispatch_state.proofs.state.DispatchState.arrive.Goals.{After-later-now, After-arrival_of}
use Rattle.dispatch_state.proofs.state.DispatchState.arrive.Goals as goal

-- the logged state before
abbrev before : (g : given.Over) (c : After-later-now g) → LoggedState g.row.Q-Node.Denot
before g c =
    record { kept = c.self.inside.ledger; log = c.self.inside.log; waits = list_of c.self.inside.waiting; position = c.self.inside.position }

begins : (g : given.Over) (c : After-later-now g)
    → MayBeginNext (history_of (before g c)) c.args.moment (refuses_arrival (history_of (before g c)) c.args.pin)
begins g c =
    here_begins _ _ _ c.args.moment c.later-now.result (λ h. refuses_arrival h c.args.pin) c.self.invariant c.self.view_is c.requires.begins
    c.later-now.ensures.later c.later-now.ensures.range

module _ (g : given.Over) (c : After-arrival_of g) where
  -- the arrival, with its numbers as they are elsewhere
  abbrev arrival : Arrival
  arrival =
      record { ticket = c.self.inside.position.ticket + 1; class = c.args.class; due = c.of-due.result; pin = c.args.pin; place = c.in_ok-place.place }

  admitted : (node : g.row.Q-Node.Denot) × (g.Q.PendQueue.pair_of node ≡ ((arrived arrival).key, c.in_ok-place.place))
      × (c.admit.new.ledger ≡ with_cells c.self.inside.ledger (slice_set c.self.inside.ledger.cells c.in_ok-place.place
      (Some (record { row = arrived arrival; node = Some node }))))
  admitted =
      subst (λ (k : Key). (node : g.row.Q-Node.Denot) × (g.Q.PendQueue.pair_of node ≡ (k, c.in_ok-place.place))
      × (c.admit.new.ledger ≡ with_cells c.self.inside.ledger (slice_set c.self.inside.ledger.cells c.in_ok-place.place
      (Some (record { row = record { key = k; pin = c.args.pin; failures = 0; phase = Loose }; node = Some node })))))
      c.key-key.ensures.key c.in_ok-place.ensures.admitted

  -- the logged state with the arrival
  kept : IsLoggedState g.Q.PendQueue.pair_of (record {
    kept = with_cells c.self.inside.ledger (slice_set c.self.inside.ledger.cells c.in_ok-place.place
        (Some (record { row = arrived arrival; node = Some admitted.0 })));
    log = noted c.self.inside.log (Arrive c.later-now.result arrival);
    waits = list_of c.self.inside.waiting;
    position = record { cursor = c.self.inside.position.cursor; last = c.later-now.result; ticket = arrival.ticket };
  })
  kept =
      let begins =
      here_begins _ _ _ c.args.moment c.later-now.result (λ h. refuses_arrival h c.args.pin) c.self.invariant c.self.view_is c.requires.begins
      c.later-now.ensures.later c.later-now.ensures.range in
      arrive_kept _ _ c.args.moment c.later-now.result c.in_ok-place.place c.args.offset arrival admitted.0 c.self.invariant begins c.later-now.ensures.later
      refl refl c.of-due.ensures.sum c.of-due.ensures.range
      (subst (λ (k : Key). IsBetween LOWEST_CLASS HIGHEST_CLASS k.class) c.key-key.ensures.key c.key-key.ensures.range) c.in_ok-place.ensures.vacant
      admitted.1

  logged : (now : Recorded) → now ≡ noted c.self.inside.log (Arrive c.later-now.result c.arrival_of.result)
      → now ≡ noted c.self.inside.log (Arrive c.later-now.result arrival)
  logged now noted_is = subst (λ (a : Arrival). now ≡ noted c.self.inside.log (Arrive c.later-now.result a)) c.arrival_of.ensures noted_is

  -- and as its fields have it
  left : (now : Recorded) → now ≡ noted c.self.inside.log (Arrive c.later-now.result c.arrival_of.result) → IsLoggedState g.Q.PendQueue.pair_of (record {
    kept = c.admit.new.ledger;
    log = now;
    waits = list_of c.self.inside.waiting;
    position = record { cursor = c.self.inside.position.cursor; last = c.later-now.result; ticket = arrival.ticket };
  })
  left now noted_is = closed _ _ _ _ _ _ _ _ admitted.2 (logged now noted_is) refl kept

pub admit-requires-clause-room : goal.admit-requires-clause-room
admit-requires-clause-room g c =
    arrival_fits _ _ c.args.pin c.self.invariant (begins g (goal.at.admit-requires-clause-room g c).After-later-now).accepted

pub admit-requires-clause-highest : goal.admit-requires-clause-highest
admit-requires-clause-highest g c = rw c.key-key.ensures.key (next_is_highest _ _ c.self.invariant)

pub arrival_of-requires-clause-place : goal.arrival_of-requires-clause-place
arrival_of-requires-clause-place g c = place_is_small _ _ c.in_ok-place.place c.self.invariant c.in_ok-place.ensures.vacant

pub arrival_of-requires-clause-pin : goal.arrival_of-requires-clause-pin
arrival_of-requires-clause-pin g c =
    pin_is_small _ _ c.args.pin c.self.invariant (begins g (goal.at.arrival_of-requires-clause-pin g c).After-later-now).accepted

pub note-requires-clause-follows : goal.note-requires-clause-follows
note-requires-clause-follows g c =
    subst (λ (a : Arrival). MayFollow (base_rows c.self.inside.log.base.rows) c.self.inside.log.entries (Arrive c.later-now.result a))
    (sym c.arrival_of.ensures) (follows_on _ _ _ _ (kept g (goal.at.note-requires-clause-follows g c).After-arrival_of).judged)

pub invariant_of-self-2 : goal.invariant_of-self-2
invariant_of-self-2 g c =
    let a = (goal.at.invariant_of-self-2 g c).After-arrival_of in
    left g a _ c.note.ensures

pub returns-clause-pin : goal.returns-clause-pin
returns-clause-pin g c =
    let a = (goal.at.returns-clause-pin g c).After-arrival_of in
    (newcomer_at _ _ _ c.in_ok-place.place _ (left g a _ c.note.ensures) (admitted g a).2 c.in_ok-place.ensures.vacant).1

pub returns-clause-at : goal.returns-clause-at
returns-clause-at g c =
    let a = (goal.at.returns-clause-at g c).After-arrival_of in
    (newcomer_at _ _ _ c.in_ok-place.place _ (left g a _ c.note.ensures) (admitted g a).2 c.in_ok-place.ensures.vacant).0
