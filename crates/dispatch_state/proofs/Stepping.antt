-- What a logged state holds, while one entry changes it.
use Rattle.std.proofs.Common.{◌≡◌, ℕ, ◌+◌, ◌<◌, ◌≤◌, ◌^◌, max, Bool, false, List, [], ◌∷◌, ◌++◌, Option, None, Some, option_map, slice_get, length}
use Rattle.std.proofs.Common.{refl, ap, sym, ◌∙◌, subst, arith, inl, inr}
use Rattle.std.proofs.Math.ListN.{set}
use Rattle.std.proofs.lemmas.Bool.Decides.{nat_tests}
use Rattle.std.proofs.lemmas.List.{map-set}
use Rattle.std.proofs.lemmas.Option.{same_Some, slice_get-map}
use Rattle.due_key.specs.declared.key.Key.{Key}
use Rattle.log_entries.specs.declared.entry.Entry.{Entry}
use Rattle.log_entries.specs.declared.row.Phase.{Phase}
use Rattle.log_entries.specs.declared.row.Phase.TheVariants.{Loose, Waiting, Serving, Told}
use Rattle.log_entries.specs.declared.row.Row.{Row}
use Rattle.log_entries.specs.Health.{ups_of}
use Rattle.log_entries.specs.declared.refusal.Refusal.{Refusal}
use Rattle.log_entries.specs.Histories.{History, state_of, effective, start_of}
use Rattle.log_entries.specs.Judgement.{granting, MayCome}
use Rattle.log_entries.specs.Logs.{Recorded}
use Rattle.log_entries.specs.Refusals.{is_waiting}
use Rattle.log_entries.specs.Rows.{Rows, StandsAt}
use Rattle.log_entries.specs.declared.allowance.Allowance.{Allowance}
use Rattle.log_entries.specs.declared.setup.Setup.{Setup}
use Rattle.log_entries.specs.States.{State, after, point_of}
use Rattle.log_entries.proofs.Consistency.{IsConsistent}
use Rattle.log_entries.proofs.Dispatched.{base_consistent}
use Rattle.log_entries.proofs.Judged.{after_all-push, judged_push, consistent_all, places_all}
use Rattle.base_lists.proofs.Places.{get-set_cases, set_read}
use Rattle.log_entries.proofs.RowLemmas.{HaveOwnTickets}
use Rattle.log_reading.specs.Grants.{joining_in}
use Rattle.log_reading.specs.Readable.{MayFollow}
use Rattle.log_reading.specs.Windows.{base_rows}
use Rattle.log_reading.proofs.Judged.{judged_follows}
use Rattle.slot_ledger.specs.declared.places.Cell.{Cell}
use Rattle.slot_ledger.specs.Ledgers.{Kept, with_cells}
use Rattle.slot_ledger.specs.Cells.{rows_in, StandsIn, HasRow}
use Rattle.slot_ledger.proofs.Counting.{row_in}
use Rattle.queue_waits.specs.Waitlists.{Waitlist}
use Rattle.dispatch_state.specs.declared.position.Position.{Position}
use Rattle.dispatch_state.specs.declared.position.Ticketed.{Ticketed}
use Rattle.dispatch_state.specs.Histories.{stage_of, IsTicketAt, IsJudged, MayAccept, MayComeNext, MayBeginNext}
use Rattle.dispatch_state.specs.LoggedStates.{LoggedState, history_of, noted, HasItsNode, HaveNodes, Holds, IsLoggedState, position_of, waiter_of, waiters_of}
use Rattle.dispatch_state.specs.Turns.{WaitsSince, AreInTurn}
use Rattle.dispatch_state.proofs.Resting.{rests}
use Rattle.dispatch_state.proofs.Turns.{Rests, rows_rest}
use Rattle.dispatch_state.proofs.Waits.{waiters_same, waiters_set, idle_waiter, waiter_at, none_join}

-- what is required of a logged state's history is required of what its fields hold
pub here_at : (h now : History) (it : Ticketed) → h ≡ now → IsTicketAt (state_of now).rows it → IsTicketAt (state_of h).rows it
here_at h now it same at = subst (λ (x : History). IsTicketAt (state_of x).rows it) (sym same) at

pub here_may : (h now : History) (e : Entry) → h ≡ now → MayComeNext now e → MayComeNext h e
here_may h now e same may = subst (λ (x : History). MayComeNext x e) (sym same) may

-- the last entry of a judged window may follow those before it
pub follows_on : (setup : Setup) (base : State) (log : List Entry) (e : Entry) → IsJudged (record { setup = setup; base = base; log = log ++ e ∷ [] })
    → MayFollow (base_rows base.rows) log e
follows_on setup base log e is = judged_follows setup base log e is.begins is.judged

module _ {N : Type 0} where
  pub stands_row : (cells : List (Option (Cell N))) (rows : Rows) (p : ℕ) (s : Cell N) → rows_in cells ≡ rows → StandsIn cells p s
      → StandsAt rows p s.row
  stands_row cells rows p s same stands = ap (λ (l : Rows). slice_get l p) (sym same) ∙ slice_get-map row_in cells p ∙ ap (option_map row_in) stands

  pub stands_cell : (cells : List (Option (Cell N))) (rows : Rows) (p : ℕ) (r : Row) → rows_in cells ≡ rows → StandsAt rows p r
      → (s : Cell N) × StandsIn cells p s × (s.row ≡ r)
  stands_cell cells rows p r same stands = by_cell (slice_get cells p) refl
    where
      by_cell : (cell : Option (Option (Cell N))) → slice_get cells p ≡ cell → (s : Cell N) × StandsIn cells p s × (s.row ≡ r)
      by_cell None e =
          let h : None ≡ Some (Some r) = sym (slice_get-map row_in cells p ∙ ap (option_map row_in) e) ∙ ap (λ (l : Rows). slice_get l p) same
          ∙ stands in cc
      by_cell (Some None) e =
          let h : Some None ≡ Some (Some r) = sym (slice_get-map row_in cells p ∙ ap (option_map row_in) e) ∙ ap (λ (l : Rows). slice_get l p) same
          ∙ stands in cc
      by_cell (Some (Some s)) e =
          let h : Some (Some s.row) ≡ Some (Some r) = sym (slice_get-map row_in cells p ∙ ap (option_map row_in) e)
          ∙ ap (λ (l : Rows). slice_get l p) same ∙ stands in
          (s, e, same_Some s.row r (same_Some (Some s.row) (Some r) h))

-- the row at a live request's place is the ticket's
pub at_row : (rows : Rows) (it : Ticketed) (p : ℕ) (row : Row) → HaveOwnTickets rows → IsTicketAt rows it → StandsAt rows p row
    → row.key.ticket ≡ it.ticket → StandsAt rows it.place row
at_row rows it p row own at stands named =
    let place : p ≡ it.place = own.own p it.place row at.0 stands at.1 (named ∙ sym at.2) in
    subst (λ n. StandsAt rows n row) place stands

module _ {N : Type 0} (pair_of : N → Key × ℕ) where
  -- the node of a cell, for its key and place
  abbrev pub NodeOf : ℕ → Cell N → Type 0
  NodeOf place cell = (node : N) × (cell.node ≡ Some node) × (pair_of node ≡ (cell.row.key, place))

  -- a row that doesn't wait has its node
  pub node_of : (place : ℕ) (s : Cell N) → is_waiting s.row.phase ≡ false → HasItsNode pair_of place s.row.phase s → NodeOf place s
  node_of place s idle has = by_phase s.row.phase idle has
    where
      by_phase : (p : Phase) → is_waiting p ≡ false → HasItsNode pair_of place p s → NodeOf place s
      by_phase Loose e h = h
      by_phase (Serving v) e h = h
      by_phase (Told c) e h = h
      by_phase (Waiting q m) e h = cc

  pub its_node : (place : ℕ) (s : Cell N) (phase : Phase) → NodeOf place s → HasItsNode pair_of place phase s
  its_node place s Loose has = has
  its_node place s (Serving v) has = has
  its_node place s (Told c) has = has
  its_node place s (Waiting q m) has = tt

  -- the nodes once one cell is written
  pub nodes_set : (cells : List (Option (Cell N))) (p : ℕ) (old cell : Option (Cell N)) → HaveNodes pair_of cells → slice_get cells p ≡ Some old
      → ((x : Cell N) → cell ≡ Some x → HasItsNode pair_of p x.row.phase x) → HaveNodes pair_of (set cells p cell)
  nodes_set cells p old cell nodes stood node = λ k x there.
      elim (get-set_cases cells p k old cell (Some x) stood there) [
        | inl e ↦ subst (λ n. HasItsNode pair_of n x.row.phase x) (sym e.0) (node x e.1)
        | inr e ↦ nodes k x e.1
      ]

  -- the states of a logged state's log are consistent
  pub state_consistent : (t : LoggedState N) → IsLoggedState pair_of t
      → IsConsistent (state_of (history_of t)).rows (state_of (history_of t)).ticket (stage_of (history_of t))
  state_consistent t is =
      consistent_all (start_of (history_of t)) granting t.log.entries (base_consistent t.kept.setup t.log.base is.judged.begins) is.judged.judged

  -- there are as many places as the setup says
  pub state_places : (t : LoggedState N) → IsLoggedState pair_of t → length (state_of (history_of t)).rows ≡ t.kept.setup.places
  state_places t is = places_all t.kept.setup t.log.base t.log.entries ∙ is.judged.begins.places

  -- a live request has a cell at its place
  pub has_row : (t : LoggedState N) (it : Ticketed) → IsLoggedState pair_of t → IsTicketAt (state_of (history_of t)).rows it → HasRow t.kept.cells it.place
  has_row t it is at = let s = stands_cell t.kept.cells (state_of (history_of t)).rows it.place at.0 is.holds.rows at.1 in (s.0, s.1)

  -- a logged state with an entry more, which holds what that leaves
  pub stepped : (t : LoggedState N) (e : Entry) (ups : List Bool) (limits : List Allowance) (cells : List (Option (Cell N))) (waits : Waitlist) (position : Position)
      → IsLoggedState pair_of t
      → MayComeNext (history_of t) e → waits.servers ≡ t.waits.servers
      → Holds pair_of (record {
        kept = record { setup = t.kept.setup; ups = ups; limits = limits; cells = cells };
        log = noted t.log e;
        waits = waits;
        position = position;
      })
      (t.log.entries ++ e ∷ []) (after t.kept.setup (state_of (history_of t)) e)
      → IsLoggedState pair_of (record {
        kept = record { setup = t.kept.setup; ups = ups; limits = limits; cells = cells };
        log = noted t.log e;
        waits = waits;
        position = position;
      })
  stepped t e ups limits cells waits position is may many holds = record {
    sound = is.sound;
    judged = record {
      begins = is.judged.begins;
      judged = judged_push (start_of (history_of t)) granting t.log.entries e is.judged.judged
          (let count : 0 + length t.log.entries ≡ length t.log.entries = omega arith in
          subst (λ n. MayCome (point_of t.kept.setup (state_of (history_of t)) n) (stage_of (history_of t)) e) (sym count) may);
    };
    holds = subst (Holds pair_of (record {
      kept =
          record { setup = t.kept.setup; ups = ups; limits = limits; cells = cells };
      log = noted t.log e;
      waits = waits;
      position = position;
    }) (t.log.entries ++ e ∷ []))
        (sym (after_all-push t.kept.setup t.log.base t.log.entries e)) holds;
    servers = many ∙ is.servers;
    log_room = is.log_room;
  }

  -- a logged state whose parts are known by equations
  pub closed : (kept next : Kept N) (log now : Recorded) (waits left : Waitlist) (position : Position) → next ≡ kept → now ≡ log → left ≡ waits
      → IsLoggedState pair_of (record { kept = kept; log = log; waits = waits; position = position })
      → IsLoggedState pair_of (record { kept = next; log = now; waits = left; position = position })
  closed kept next log now waits left position same logged waiting is =
      subst (λ (k : Kept N). IsLoggedState pair_of (record { kept = k; log = now; waits = left; position = position })) (sym same)
      (subst (λ (r : Recorded). IsLoggedState pair_of (record { kept = kept; log = r; waits = left; position = position })) (sym logged)
      (subst (λ (w : Waitlist). IsLoggedState pair_of (record { kept = kept; log = log; waits = w; position = position })) (sym waiting) is))

  -- an entry that changes no row
  pub row_less : (t : LoggedState N) (e : Entry) (ups : List Bool) (limits : List Allowance) (position : Position) → IsLoggedState pair_of t → MayComeNext (history_of t) e
      → joining_in e ≡ None
      → (after t.kept.setup (state_of (history_of t)) e).rows ≡ (state_of (history_of t)).rows
      → (state_of (history_of t)).moment ≤ (after t.kept.setup (state_of (history_of t)) e).moment
      → ups ≡ ups_of t.kept.setup.servers (after t.kept.setup (state_of (history_of t)) e).results
      → limits ≡ (after t.kept.setup (state_of (history_of t)) e).limits
      → position ≡ position_of (after t.kept.setup (state_of (history_of t)) e)
      → IsLoggedState pair_of
      (record {
        kept = record { setup = t.kept.setup; ups = ups; limits = limits; cells = t.kept.cells };
        log = noted t.log e;
        waits = t.waits;
        position = position;
      })
  row_less t e ups limits position is may none rows later up limited far =
      let s = state_of (history_of t) in
      stepped t e ups limits t.kept.cells t.waits position is may refl (record {
        rows = is.holds.rows ∙ sym rows;
        nodes = is.holds.nodes;
        ups = up;
        limits = limited;
        waiters = is.holds.waiters ∙ sym (waiters_same t.log.entries e s.rows (none_join e none)) ∙ ap (waiters_of (t.log.entries ++ e ∷ [])) (sym rows);
        in_turn =
            subst (λ (l : Rows). AreInTurn (WaitsSince l) (after t.kept.setup s e).moment t.waits.order) (sym rows)
            (turn_later s.rows s.moment (after t.kept.setup s e).moment t.waits.order is.holds.in_turn later);
        position = far;
      })
    where
      turn_later : (rows : Rows) (before now : ℕ) (places : List ℕ) → AreInTurn (WaitsSince rows) before places → before ≤ now
          → AreInTurn (WaitsSince rows) now places
      turn_later rows before now places are le =
          Rattle.dispatch_state.proofs.Turns.turn_alike (WaitsSince rows) (WaitsSince rows) before now places are (λ k since w. w) (λ k since w. w) le

  -- what is known of a ticket's row where an entry changes it
  pub record Changes (t : LoggedState N) (e : Entry) (p : ℕ) (s : Cell N) (cell : Option (Cell N)) : Type 0 where
    pub stands : StandsIn t.kept.cells p s
    pub rows : (after t.kept.setup (state_of (history_of t)) e).rows ≡ set (state_of (history_of t)).rows p (row_in cell)
    pub results : (after t.kept.setup (state_of (history_of t)) e).results ≡ (state_of (history_of t)).results
    pub limits : (after t.kept.setup (state_of (history_of t)) e).limits ≡ (state_of (history_of t)).limits
    pub node : (x : Cell N) → cell ≡ Some x → HasItsNode pair_of p x.row.phase x

  -- an entry that changes a ticket's row, and with it who waits
  pub row_changed : (t : LoggedState N) (e : Entry) (p : ℕ) (s : Cell N) (cell : Option (Cell N)) (waits : Waitlist) (position : Position) → IsLoggedState pair_of t
      → MayComeNext (history_of t) e → Changes t e p s cell → waits.servers ≡ t.waits.servers
      → waits.waiters ≡ waiters_of (t.log.entries ++ e ∷ []) (set (state_of (history_of t)).rows p (row_in cell))
      → AreInTurn (WaitsSince (set (state_of (history_of t)).rows p (row_in cell))) (after t.kept.setup (state_of (history_of t)) e).moment waits.order
      → position ≡ position_of (after t.kept.setup (state_of (history_of t)) e)
      → IsLoggedState pair_of (record { kept = with_cells t.kept (set t.kept.cells p cell); log = noted t.log e; waits = waits; position = position })
  row_changed t e p s cell waits position is may change many waiters turn far =
      let state = state_of (history_of t) in
      stepped t e t.kept.ups t.kept.limits (set t.kept.cells p cell) waits position is may many (record {
        rows = map-set row_in t.kept.cells p cell ∙ ap (λ (l : Rows). set l p (row_in cell)) is.holds.rows ∙ sym change.rows;
        nodes = nodes_set t.kept.cells p (Some s) cell is.holds.nodes change.stands change.node;
        ups = is.holds.ups ∙ ap (ups_of t.kept.setup.servers) (sym change.results);
        limits = is.holds.limits ∙ sym change.limits;
        waiters = waiters ∙ ap (waiters_of (t.log.entries ++ e ∷ [])) (sym change.rows);
        in_turn = subst (λ (l : Rows). AreInTurn (WaitsSince l) (after t.kept.setup state e).moment waits.order) (sym change.rows) turn;
        position = far;
      })

  -- a row that doesn't wait becomes one that doesn't, or none
  pub idle_changed : (t : LoggedState N) (e : Entry) (p : ℕ) (s : Cell N) (cell : Option (Cell N)) (position : Position) → IsLoggedState pair_of t
      → MayComeNext (history_of t) e → Changes t e p s cell → joining_in e ≡ None
      → is_waiting s.row.phase ≡ false → waiter_of (t.log.entries ++ e ∷ []) (row_in cell) ≡ None → Rests (row_in cell)
      → (state_of (history_of t)).moment ≤ (after t.kept.setup (state_of (history_of t)) e).moment
      → position ≡ position_of (after t.kept.setup (state_of (history_of t)) e)
      → IsLoggedState pair_of (record { kept = with_cells t.kept (set t.kept.cells p cell); log = noted t.log e; waits = t.waits; position = position })
  idle_changed t e p s cell position is may change none idle nobody resting later far =
      let state = state_of (history_of t) in
      let there = stands_row t.kept.cells state.rows p s is.holds.rows change.stands in
      let own = (state_consistent t is).tickets in
      row_changed t e p s cell t.waits position is may change refl
      (is.holds.waiters
      ∙ sym (set_read (waiters_of t.log.entries state.rows) p None
      (waiter_at t.log.entries state.rows p (Some s.row) there ∙ ap Some (idle_waiter t.log.entries s.row idle)))
      ∙ ap (set (waiters_of t.log.entries state.rows) p) (sym nobody)
      ∙ sym (waiters_set t.log.entries e state.rows p s.row (row_in cell) own there (λ n q differs. none_join e none n q)))
      (rows_rest state.rows p state.moment (after t.kept.setup state e).moment (Some s.row) (row_in cell) t.waits.order is.holds.in_turn there
      (λ queue. rests queue s.row idle) resting later)
      far

  -- an event that a logged state may accept may begin
  pub here_begins : (t : LoggedState N) (now : History) (moment last : ℕ) (refused : History → Option Refusal) → IsLoggedState pair_of t → history_of t ≡ now
      → MayAccept now (refused now) → last ≡ max t.position.last moment → last < 2 ^ 62 → MayBeginNext (history_of t) moment (refused (history_of t))
  here_begins t now moment last refused is same may later within =
      let h = history_of t in
      let here : MayAccept h (refused h) = subst (λ (x : History). MayAccept x (refused x)) (sym same) may in
      let when : last ≡ effective h moment = later ∙ ap (λ (p : Position). max p.last moment) is.holds.position in
      record {
        over = here.over;
        settled = here.settled;
        accepted = here.accepted;
        later = grind (arith, nat_tests);
        within = subst (λ n. n < 2 ^ 62) when within;
      }
