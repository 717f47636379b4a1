-- How events begin on a logged state, and the entries that change nothing that it holds.
use Rattle.std.proofs.Common.{◌≡◌, ℕ, zero, suc, ◌+◌, ◌-◌, ◌^◌, ◌≤◌, ◌<◌, max, Bool, true, false, List, [], ◌∷◌, ◌++◌}
use Rattle.std.proofs.Common.{Option, None, Some, is_some, option_map, slice_get, count_by, length, replicate, ℤ, pos, ◌+ℤ◌, refl, ap, sym, ◌∙◌}
use Rattle.std.proofs.Common.{subst, arith}
use Rattle.std.specs.Option.{option_and_then, IfSome}
use Rattle.std.proofs.Math.ListN.{set}
use Rattle.std.proofs.lemmas.Bool.Decides.{nat_tests}
use Rattle.std.proofs.lemmas.List.{length-map, map-set}
use Rattle.std.proofs.lemmas.List.Sums.{sum_by-cons}
use Rattle.std.proofs.lemmas.Option.{same_Some, slice_get-map, slice_get_within}
use Rattle.due_key.specs.declared.key.Key.{Key}
use Rattle.due_key.specs.declared.class.TheConstants.{LOWEST_CLASS, HIGHEST_CLASS}
use Rattle.due_key.specs.declared.offset.TheConstants.{LOWEST_OFFSET, HIGHEST_OFFSET}
use Rattle.due_key.specs.Range.{IsBetween}
use Rattle.log_entries.specs.declared.allowance.Allowance.{Allowance}
use Rattle.log_entries.specs.declared.entry.Arrival.{Arrival}
use Rattle.log_entries.specs.declared.entry.Entry.{Entry}
use Rattle.log_entries.specs.declared.entry.Entry.TheVariants.{Arrive}
use Rattle.log_entries.specs.declared.refusal.Refusal.TheVariants.{PlacesFull, LogFull, NoSuchServer, TicketsSpent}
use Rattle.log_entries.specs.declared.row.Row.{Row}
use Rattle.log_entries.specs.declared.setup.Setup.{Setup}
use Rattle.log_entries.specs.Health.{ups_of}
use Rattle.log_entries.specs.Histories.{History, state_of, effective, refuses_arrival}
use Rattle.log_entries.specs.Judgement.{IsNewcomer}
use Rattle.log_entries.specs.Refusals.{first_of, is_full, pins_to_none}
use Rattle.log_entries.specs.Rows.{Rows, row_of, pin_of}
use Rattle.log_entries.specs.Setups.{IsSound}
use Rattle.log_entries.specs.States.{State, after, arrived, opening_state, opening_limits}
use Rattle.log_entries.specs.Scenes.{Scene}
use Rattle.log_entries.proofs.Windows.{opening_base}
use Rattle.base_lists.proofs.Replicated.{none_in_empty}
use Rattle.base_lists.proofs.Places.{tally, get-set_same, set_read}
use Rattle.log_entries.proofs.RowLemmas.{row_of_at, row_of_none}
use Rattle.base_lists.proofs.Members.{Contains-nil}
use Rattle.log_reading.specs.Grants.{joining_in}
use Rattle.slot_ledger.specs.declared.places.Cell.{Cell}
use Rattle.slot_ledger.specs.Ledgers.{Kept, with_cells}
use Rattle.slot_ledger.specs.Cells.{rows_in, StandsIn, HasTicketAt, HasNoTicket}
use Rattle.slot_ledger.proofs.Counting.{row_in}
use Rattle.server_pick.specs.declared.placement.Placement.{Placement}
use Rattle.server_pick.specs.Picked.{IsPlacement, cursor_placed}
use Rattle.queue_waits.specs.Waitlists.{Waiters}
use Rattle.dispatch_state.specs.declared.position.Position.{Position}
use Rattle.dispatch_state.specs.declared.position.Ticketed.{Ticketed}
use Rattle.dispatch_state.specs.Histories.{scene_of, IsTicketAt, IsFound, MayComeNext, MayBeginNext, HasEntryRoom}
use Rattle.dispatch_state.specs.LoggedStates.{LoggedState, history_of, noted, HasItsNode, IsLoggedState, position_of, waiter_of, waiters_of}
use Rattle.dispatch_state.specs.Turns.{WaitsSince, AreInTurn}
use Rattle.dispatch_state.proofs.Entries.{moment_moved}
use Rattle.dispatch_state.proofs.Healthy.{opening_ups}
use Rattle.dispatch_state.proofs.Resting.{none_rests, rests}
use Rattle.dispatch_state.proofs.Stepping.{stands_row, stands_cell, nodes_set, state_consistent, state_places, stepped, row_less}
use Rattle.dispatch_state.proofs.Turns.{rows_rest}
use Rattle.log_entries.proofs.Accepted.{arrival_tests}
use Rattle.dispatch_state.proofs.Waits.{waiter_at, waiters_same, none_join}

module _ {N : Type 0} (pair_of : N → Key × ℕ) where
  -- an event that changes no row begins
  pub begun_kept : (t : LoggedState N) (event : ℕ → Entry) (moment now : ℕ) → IsLoggedState pair_of t → joining_in (event now) ≡ None
      → now ≡ max t.position.last moment
      → MayComeNext (history_of t) (event (effective (history_of t) moment))
      → after t.kept.setup (state_of (history_of t)) (event now) ≡ record (state_of (history_of t)) { moment = now }
      → IsLoggedState pair_of
      (record {
        kept = t.kept;
        log = noted t.log (event now);
        waits = t.waits;
        position =
            record { cursor = t.position.cursor; last = now; ticket = t.position.ticket };
      })
  begun_kept t event moment now is none later may leaves =
      let s = state_of (history_of t) in
      let e = event now in
      let when : now ≡ effective (history_of t) moment = later ∙ ap (λ (p : Position). max p.last moment) is.holds.position in
      let far = moment_moved t.position s now is.holds.position in
      row_less pair_of t e t.kept.ups t.kept.limits (record {
        cursor =
            t.position.cursor;
        last = now;
        ticket = t.position.ticket;
      }) is (subst (λ n. MayComeNext (history_of t) (event n)) (sym when) may) none
      (ap (λ (x : State). x.rows) leaves)
      (let grows : s.moment ≤ now = (let m : s.moment ≤ max s.moment moment = grind (arith, nat_tests) in omega arith) in
      let is_now : (after t.kept.setup s e).moment ≡ now = ap (λ (x : State). x.moment) leaves in omega arith)
      (is.holds.ups ∙ ap (λ (x : State). ups_of t.kept.setup.servers x.results) (sym leaves))
      (is.holds.limits ∙ ap (λ (x : State). x.limits) (sym leaves))
      (far ∙ ap position_of (sym leaves))

  -- an entry that changes nothing that a logged state holds
  pub still_kept : (t : LoggedState N) (e : Entry) → IsLoggedState pair_of t → joining_in e ≡ None → MayComeNext (history_of t) e
      → after t.kept.setup (state_of (history_of t)) e ≡ state_of (history_of t)
      → IsLoggedState pair_of (record { kept = t.kept; log = noted t.log e; waits = t.waits; position = t.position })
  still_kept t e is none may leaves =
      let s = state_of (history_of t) in
      row_less pair_of t e t.kept.ups t.kept.limits t.position is may none (ap (λ (x : State). x.rows) leaves)
      (let same : (after t.kept.setup s e).moment ≡ s.moment = ap (λ (x : State). x.moment) leaves in omega arith)
      (is.holds.ups ∙ ap (λ (x : State). ups_of t.kept.setup.servers x.results) (sym leaves))
      (is.holds.limits ∙ ap (λ (x : State). x.limits) (sym leaves))
      (is.holds.position ∙ ap position_of (sym leaves))

  -- what a look-up of a ticket tells
  pub found_is : (t : LoggedState N) (ticket place : ℕ) → IsLoggedState pair_of t → HasTicketAt ticket t.kept.cells place
      → IsFound (state_of (history_of t)).rows ticket (record { place = place; ticket = ticket })
  found_is t ticket place is has =
      record { named = refl; at = (has.0.row, stands_row t.kept.cells (state_of (history_of t)).rows place has.0 is.holds.rows has.1, has.2) }

  pub missed_is : (t : LoggedState N) (ticket : ℕ) → IsLoggedState pair_of t → HasNoTicket ticket t.kept.cells
      → row_of ticket (state_of (history_of t)).rows ≡ None
  missed_is t ticket is missed =
      row_of_none (state_of (history_of t)).rows ticket (λ p r stands named.
      let s = stands_cell t.kept.cells (state_of (history_of t)).rows p r is.holds.rows stands in
      missed p s.0 s.1 (ap (λ (x : Row). x.key.ticket) s.2 ∙ named))

  pub phase_is : (t : LoggedState N) (it : Ticketed) (row : Row) → IsLoggedState pair_of t → (at : IsTicketAt (state_of (history_of t)).rows it)
      → (s : Cell N) × StandsIn t.kept.cells it.place s × (s.row ≡ row)
      → option_map (λ (r : Row). r.phase) (row_of it.ticket (state_of (history_of t)).rows) ≡ Some row.phase
  phase_is t it row is at read =
      let rows = (state_of (history_of t)).rows in
      let there = stands_row t.kept.cells rows it.place read.0 is.holds.rows read.1 in
      let same : at.0 ≡ read.0.row = same_Some at.0 read.0.row (same_Some (Some at.0) (Some read.0.row) (sym at.1 ∙ there)) in
      ap (option_map (λ (r : Row). r.phase)) (row_of_at rows it.ticket it.place at.0 (state_consistent pair_of t is).tickets at.1 at.2)
      ∙ ap (λ (r : Row). Some r.phase) (same ∙ read.2)

  -- a logged state's scene is its history's
  pub scene_is : (t : LoggedState N) → IsLoggedState pair_of t
      → record { servers = t.kept.setup.servers; limits = t.kept.limits; ups = t.kept.ups; rows = rows_in t.kept.cells } ≡ scene_of
      (history_of t)
  scene_is t is =
      ap (λ (r : Rows). record { servers = t.kept.setup.servers; limits = t.kept.limits; ups = t.kept.ups; rows = r }) is.holds.rows
      ∙ ap (λ (u : List Bool). record { servers = t.kept.setup.servers; limits = t.kept.limits; ups = u; rows = (state_of (history_of t)).rows }) is.holds.ups
      ∙ ap (λ (l : List Allowance). record {
        servers = t.kept.setup.servers;
        limits = l;
        ups = ups_of t.kept.setup.servers (state_of (history_of t)).results;
        rows = (state_of (history_of t)).rows;
      }) is.holds.limits

  pub cursor_is : (t : LoggedState N) → IsLoggedState pair_of t → t.position.cursor ≡ (state_of (history_of t)).cursor
  cursor_is t is = ap (λ (p : Position). p.cursor) is.holds.position

  pub moment_is : (t : LoggedState N) → IsLoggedState pair_of t → t.position.last ≡ (state_of (history_of t)).moment
  moment_is t is = ap (λ (p : Position). p.last) is.holds.position

  pub ticket_is : (t : LoggedState N) → IsLoggedState pair_of t → t.position.ticket ≡ (state_of (history_of t)).ticket
  ticket_is t is = ap (λ (p : Position). p.ticket) is.holds.position

-- a row more is a cell more
count_rows : {N : Type 0} (cells : List (Option (Cell N))) → count_by is_some (rows_in cells) ≡ count_by is_some cells
count_rows [] = refl
count_rows {N} (None ∷ cells) =
    let rest : count_by is_some (rows_in cells) ≡ count_by is_some cells = count_rows cells in
    let a = sum_by-cons (λ (x : Option Row). tally (is_some x)) None (rows_in cells) in
    let b = sum_by-cons (λ (x : Option (Cell N)). tally (is_some x)) None cells in
    omega arith
count_rows {N} (Some s ∷ cells) =
    let rest : count_by is_some (rows_in cells) ≡ count_by is_some cells = count_rows cells in
    let a = sum_by-cons (λ (x : Option Row). tally (is_some x)) (Some s.row) (rows_in cells) in
    let b = sum_by-cons (λ (x : Option (Cell N)). tally (is_some x)) (Some s) cells in
    omega arith

-- a server that there is has a small number
pin_below : (setup : Setup) (pin : Option ℕ) → IsSound setup → pins_to_none setup pin ≡ false → IfSome pin (λ server. server < 2 ^ 8)
pin_below setup None sound known = tt
pin_below setup (Some server) sound known =
    let few = sound.servers in
    let below : server < length setup.servers = grind (arith, nat_tests) in
    omega arith

first_none : (a b c d : Bool) → a ≡ false → b ≡ false → c ≡ false → d ≡ false
    → first_of ((a, LogFull) ∷ (b, NoSuchServer) ∷ (c, TicketsSpent) ∷ (d, PlacesFull) ∷ []) ≡ None
first_none a b c d e f g h = rw (e, f, g, h) refl

none_rows : (N : Type 0) (n : ℕ) → rows_in {H = N} (replicate n None) ≡ replicate n None
none_rows N zero = refl
none_rows N (suc n) = ap (λ (l : Rows). None ∷ l) (none_rows N n)

none_waits : (n : ℕ) → waiters_of [] (replicate n None) ≡ replicate n None
none_waits zero = refl
none_waits (suc n) = ap (λ (l : Waiters). None ∷ l) (none_waits n)

module _ {N : Type 0} (pair_of : N → Key × ℕ) where
  -- an accepted arrival finds a free place
  pub arrival_fits : (t : LoggedState N) (pin : Option ℕ) → IsLoggedState pair_of t → refuses_arrival (history_of t) pin ≡ None
      → count_by is_some t.kept.cells < length t.kept.cells
  arrival_fits t pin is accepted =
      let h = history_of t in
      let full : is_full h.setup (state_of h).rows ≡ false = (arrival_tests _ _ _ _ accepted).3 in
      let fewer : count_by is_some (state_of h).rows < h.setup.places = grind (arith, nat_tests) in
      let counted = count_rows t.kept.cells in
      let rows : count_by is_some (rows_in t.kept.cells) ≡ count_by is_some (state_of h).rows = ap (count_by is_some) is.holds.rows in
      let places = state_places pair_of t is in
      let long : length (rows_in t.kept.cells) ≡ length (state_of h).rows = ap length is.holds.rows in
      let same : length (rows_in t.kept.cells) ≡ length t.kept.cells = length-map t.kept.cells row_in in
      omega arith

  -- a free place and a server that there is have small numbers
  pub place_is_small : (t : LoggedState N) (place : ℕ) → IsLoggedState pair_of t → slice_get t.kept.cells place ≡ Some None → place < 2 ^ 16
  place_is_small t place is vacant =
      let within = slice_get_within t.kept.cells place None vacant in
      let places = state_places pair_of t is in
      let long : length (rows_in t.kept.cells) ≡ length (state_of (history_of t)).rows = ap length is.holds.rows in
      let same : length (rows_in t.kept.cells) ≡ length t.kept.cells = length-map t.kept.cells row_in in
      let few = is.sound.places in
      omega arith

  pub pin_is_small : (t : LoggedState N) (pin : Option ℕ) → IsLoggedState pair_of t → refuses_arrival (history_of t) pin ≡ None
      → IfSome pin (λ server. server < 2 ^ 8)
  pin_is_small t pin is accepted = pin_below t.kept.setup pin is.sound (arrival_tests _ _ _ _ accepted).1

  -- the next ticket is above all others
  pub next_is_highest : (t : LoggedState N) → IsLoggedState pair_of t → (p : ℕ) (s : Cell N) → StandsIn t.kept.cells p s
      → s.row.key.ticket < t.position.ticket + 1
  next_is_highest t is p s stands =
      let below = (state_consistent pair_of t is).below p s.row (stands_row t.kept.cells (state_of (history_of t)).rows p s is.holds.rows stands) in
      let now = ticket_is pair_of t is in
      omega arith

  -- an arrival
  pub arrive_kept : (t : LoggedState N) (moment now place : ℕ) (offset : ℤ) (a : Arrival) (node : N) → IsLoggedState pair_of t
      → MayBeginNext (history_of t) moment (refuses_arrival (history_of t) a.pin)
      → now ≡ max t.position.last moment → a.ticket ≡ t.position.ticket + 1 → a.place ≡ place → a.due ≡ (pos now +ℤ offset)
      → IsBetween LOWEST_OFFSET HIGHEST_OFFSET offset → IsBetween LOWEST_CLASS HIGHEST_CLASS a.class
      → slice_get t.kept.cells place ≡ Some None → pair_of node ≡ ((arrived a).key, place)
      → IsLoggedState pair_of
      (record {
        kept = with_cells t.kept (set t.kept.cells place (Some (record { row = arrived a; node = Some node })));
        log = noted t.log (Arrive now a);
        waits = t.waits;
        position = record { cursor = t.position.cursor; last = now; ticket = a.ticket };
      })
  arrive_kept t moment now place offset a node is begins later next at due within class vacant its =
      let h = history_of t in
      let s = state_of h in
      let when : now ≡ effective h moment = later ∙ ap (λ (p : Position). max p.last moment) is.holds.position in
      let free : slice_get s.rows place ≡ Some None = ap (λ (l : Rows). slice_get l place) (sym is.holds.rows) ∙ slice_get-map row_in t.kept.cells place
      ∙ ap (option_map row_in) vacant in
      let cell : Cell N = record { row = arrived a; node = Some node } in
      let newcomer : IsNewcomer s now a = record {
        numbered = next ∙ ap (λ n. n + 1) (ticket_is pair_of t is);
        vacant = subst (λ n. slice_get s.rows n ≡ Some None) (sym at) free;
        class = class;
        due = (offset, within, due);
      } in
      let may : MayComeNext h (Arrive now a) = subst (λ n. MayComeNext h (Arrive n a)) (sym when) (begins, subst (λ n. IsNewcomer s n a) when newcomer) in
      stepped pair_of t (Arrive now a) t.kept.ups t.kept.limits (set t.kept.cells place (Some cell)) t.waits (record {
        cursor =
            t.position.cursor;
        last = now;
        ticket = a.ticket;
      }) is may refl (record {
        rows =
            map-set row_in t.kept.cells place (Some cell) ∙ ap (λ (l : Rows). set l place (Some (arrived a))) is.holds.rows
            ∙ ap (λ n. set s.rows n (Some (arrived a))) (sym at);
        nodes =
            nodes_set pair_of t.kept.cells place None (Some cell) is.holds.nodes vacant
            (λ x same. subst (λ (y : Cell N). HasItsNode pair_of place y.row.phase y) (same_Some cell x same) (node, refl, its));
        ups = is.holds.ups;
        limits = is.holds.limits;
        waiters = is.holds.waiters
            ∙ sym (set_read (waiters_of t.log.entries s.rows) place None (waiter_at t.log.entries s.rows place None free))
            ∙ sym (map-set (waiter_of t.log.entries) s.rows place (Some (arrived a)))
            ∙ sym (waiters_same t.log.entries (Arrive now a) (set s.rows place (Some (arrived a))) (none_join (Arrive now a) refl))
            ∙ ap (λ n. waiters_of (t.log.entries ++ Arrive now a ∷ []) (set s.rows n (Some (arrived a)))) (sym at);
        in_turn = subst (λ n. AreInTurn (WaitsSince (set s.rows n (Some (arrived a)))) now t.waits.order) (sym at)
            (rows_rest s.rows place s.moment now None (Some (arrived a)) t.waits.order is.holds.in_turn free (λ queue. none_rests queue)
            (λ queue. rests queue (arrived a) refl) (let grows : s.moment ≤ max s.moment moment = grind (arith, nat_tests) in let e = when in
            omega arith));
        position = ap (λ (p : Position). record { cursor = p.cursor; last = now; ticket = a.ticket }) is.holds.position;
      })

  -- the row that arrived is the ticket's
  pub newcomer_at : (kept : Kept N) (next : LoggedState N) (place : ℕ) (s : Cell N) → IsLoggedState pair_of next
      → next.kept ≡ with_cells kept (set kept.cells place (Some s)) → slice_get kept.cells place ≡ Some None
      → IsTicketAt (state_of (history_of next)).rows (record { place = place; ticket = s.row.key.ticket })
      × (pin_of s.row.key.ticket (state_of (history_of next)).rows ≡ s.row.pin)
  newcomer_at kept next place s is written vacant =
      let rows = (state_of (history_of next)).rows in
      let stands : StandsIn next.kept.cells place s = ap (λ (k : Kept N). slice_get k.cells place) written
      ∙ get-set_same kept.cells place None (Some s) vacant in
      let there = stands_row next.kept.cells rows place s is.holds.rows stands in (
        (s.row, there, refl),
        ap (option_and_then (λ (r : Row). r.pin))
            (row_of_at rows s.row.key.ticket place s.row (state_consistent pair_of next is).tickets there refl),
      )

  -- a new logged state
  pub new_is : (setup : Setup) (t : LoggedState N) (servers : ℕ) → IsSound setup → servers ≡ length setup.servers
      → t.kept ≡ record {
        setup = setup;
        ups = replicate (length setup.servers) true;
        limits = opening_limits setup.servers;
        cells = replicate setup.places None;
      }
      → t.log ≡ record { base = opening_state setup; entries = []; room = setup.log }
      → t.waits ≡ record { waiters = replicate setup.places None; order = []; servers = servers }
      → t.position ≡ record { cursor = servers - 1; last = 0; ticket = 0 } → IsLoggedState pair_of t
  new_is setup t servers sound many kept log waits far =
      subst (IsLoggedState pair_of)
      (ap (λ (k : Kept N). record {
        kept = k;
        log = record { base = opening_state setup; entries = []; room = setup.log };
        waits =
            record { waiters = replicate setup.places None; order = []; servers = servers };
        position = record { cursor = servers - 1; last = 0; ticket = 0 };
      })
      (sym kept)
      ∙ ap (λ l. record {
        kept = t.kept;
        log = l;
        waits = record { waiters = replicate setup.places None; order = []; servers = servers };
        position =
            record { cursor = servers - 1; last = 0; ticket = 0 };
      }) (sym log)
      ∙ ap (λ w. record { kept = t.kept; log = t.log; waits = w; position = record { cursor = servers - 1; last = 0; ticket = 0 } }) (sym waits)
      ∙ ap (λ (p : Position). record { kept = t.kept; log = t.log; waits = t.waits; position = p }) (sym far))
      (record {
        sound = sound;
        judged = record { begins = opening_base setup; judged = tt };
        holds = record {
          rows = none_rows N setup.places;
          nodes =
              λ p s there. absurd
              (none_in_empty setup.places p s.row
              (stands_row (replicate setup.places None) (replicate setup.places None) p s (none_rows N setup.places) there));
          ups = opening_ups setup;
          limits = refl;
          waiters = sym (none_waits setup.places);
          in_turn = record {
            waiting = λ place among. absurd (Contains-nil place among);
            all = λ place since its. absurd (none_in_empty setup.places place its.0 its.2);
            never_fall = tt;
            past = λ place since its. absurd (none_in_empty setup.places place its.0 its.2);
          };
          position = ap (λ n. record { cursor = n - 1; last = 0; ticket = 0 }) many;
        };
        servers = many;
        log_room = refl;
      })

  -- nothing refuses an arrival
  pub none_refuses : (t : LoggedState N) (pin : Option ℕ) → IsLoggedState pair_of t → HasEntryRoom (history_of t) → pins_to_none t.kept.setup pin ≡ false
      → t.position.ticket + 1 < 2 ^ 40 → count_by is_some t.kept.cells < t.kept.setup.places → None ≡ refuses_arrival (history_of t) pin
  none_refuses t pin is fits known few some =
      let now = ticket_is pair_of t is in
      let counted = count_rows t.kept.cells in
      let rows : count_by is_some (rows_in t.kept.cells) ≡ count_by is_some (state_of (history_of t)).rows = ap (count_by is_some) is.holds.rows in
      sym (first_none _ _ _ _ (grind (arith, nat_tests)) known (grind (arith, nat_tests)) (grind (arith, nat_tests)))

  -- where a request goes
  pub placed_here : (t : LoggedState N) (pin avoid : Option ℕ) (placement : Placement) (now : History) → IsLoggedState pair_of t → history_of t ≡ now
      → IsPlacement (record {
        servers = t.kept.setup.servers;
        limits = t.kept.limits;
        ups = t.kept.ups;
        rows = rows_in t.kept.cells;
      }) t.position.cursor pin avoid placement
      → IsPlacement (scene_of now) (state_of now).cursor pin avoid placement
  placed_here t pin avoid placement now is same placed =
      subst (λ (h : History). IsPlacement (scene_of h) (state_of h).cursor pin avoid placement) same
      (subst (λ n. IsPlacement (scene_of (history_of t)) n pin avoid placement) (cursor_is pair_of t is)
      (subst (λ (s : Scene). IsPlacement s t.position.cursor pin avoid placement) (scene_is pair_of t is) placed))

  pub cursor_here : (t : LoggedState N) (next : ℕ) (pin : Option ℕ) (placement : Placement) (now : History) → IsLoggedState pair_of t → history_of t ≡ now
      → next ≡ cursor_placed pin placement t.position.cursor → next ≡ cursor_placed pin placement (state_of now).cursor
  cursor_here t next pin placement now is same moved =
      subst (λ (h : History). next ≡ cursor_placed pin placement (state_of h).cursor) same
      (subst (λ n. next ≡ cursor_placed pin placement n) (cursor_is pair_of t is) moved)
