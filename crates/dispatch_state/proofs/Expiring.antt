-- Which requests have waited as long as they may, by the order in which they joined.
use Rattle.std.proofs.Common.{◌≡◌, ℕ, ◌+◌, ◌<◌, ◌≤◌, List, [], ◌∷◌, ◌++◌, Option, None, Some, MatchOption, is_some}
use Rattle.std.proofs.Common.{IsTrue, slice_get, Contains, length, length-append, append_assoc, refl, ap, sym, ◌∙◌, subst, arith, inl, inr, nat_cmp}
use Rattle.std.specs.Option.{IfSome}
use Rattle.std.proofs.lemmas.Bool.Decides.{nat_tests}
use Rattle.std.proofs.lemmas.List.Elements.{Contains-append_cases, Contains-push_cases, Contains-append_left, Contains-append_right, Contains-push}
use Rattle.std.proofs.lemmas.Option.{same_Some}
use Rattle.due_key.specs.declared.key.Key.{Key}
use Rattle.log_entries.specs.declared.queue.Queue.{Queue}
use Rattle.log_entries.specs.declared.row.Phase.{Phase}
use Rattle.log_entries.specs.declared.row.Phase.TheVariants.{Loose, Waiting, Serving, Told}
use Rattle.log_entries.specs.declared.row.Row.{Row}
use Rattle.log_entries.specs.declared.setup.Setup.{Setup}
use Rattle.log_entries.specs.Histories.{History, state_of, effective, SomeExpires}
use Rattle.log_entries.specs.Judgement.{HasExpired}
use Rattle.log_entries.specs.Rows.{StandsAt}
use Rattle.log_entries.proofs.RowLemmas.{HaveOwnTickets}
use Rattle.pend_queue.specs.Pairs.{IsAscending, KeyIsAbsent, inserted}
use Rattle.pend_queue.proofs.Ascending.{absent_from_members}
use Rattle.pend_queue.proofs.Inserted.{Contains-inserted, Contains-inserted_new, Contains-inserted_old, length-inserted}
use Rattle.base_lists.proofs.Members.{Contains-nil, Contains-head, Contains-cases, each_at_member}
use Rattle.base_lists.proofs.Never.{false_true}
use Rattle.slot_ledger.specs.declared.places.Cell.{Cell}
use Rattle.slot_ledger.specs.Cells.{StandsIn, HasRow}
use Rattle.base_lists.specs.Once.{ComeOnce}
use Rattle.queue_waits.specs.Order.{next_after}
use Rattle.base_lists.proofs.Members.{Contains-middle}
use Rattle.base_lists.proofs.Once.{not_before, once_within}
use Rattle.queue_waits.proofs.Rings.{next_after_parts}
use Rattle.std.proofs.lemmas.Option.{slice_get_within}
use Rattle.dispatch_state.specs.declared.position.Position.{Position}
use Rattle.dispatch_state.specs.Turns.{WaitsSince, NeverFall, AreInTurn}
use Rattle.dispatch_state.specs.Timeouts.{HasRowAt, ExpiresAt, AreExpired}
use Rattle.dispatch_state.specs.LoggedStates.{LoggedState, history_of, IsLoggedState}
use Rattle.dispatch_state.proofs.Stepping.{stands_row, stands_cell, state_consistent, state_places}

-- a request that has waited as long as it may waits since a moment that far back
pub record Since (setup : Setup) (now : ℕ) (phase : Phase) : Type 0 where
  pub queue : Queue
  pub since : ℕ
  pub waits : phase ≡ Waiting queue since
  pub limited : 0 < setup.queue_timeout
  pub long_ago : since + setup.queue_timeout ≤ now

pub expired_since : (setup : Setup) (now : ℕ) (phase : Phase) → HasExpired setup now phase → Since setup now phase
expired_since setup now (Waiting queue since) expired = record { queue = queue; since = since; waits = refl; limited = expired.0; long_ago = expired.1 }
expired_since setup now Loose expired = absurd expired
expired_since setup now (Serving server) expired = absurd expired
expired_since setup now (Told cause) expired = absurd expired

-- the first element of a list
first_member : (xs : List ℕ) (x : ℕ) → slice_get xs 0 ≡ Some x → Contains xs x
first_member [] x e = cc
first_member (y ∷ ys) x e = subst (Contains (y ∷ ys)) (same_Some y x e) (Contains-head y ys)

rest_of : (xs : List ℕ) (x : ℕ) → slice_get xs 0 ≡ Some x → (later : List ℕ) × (xs ≡ x ∷ later)
rest_of [] x e = cc
rest_of (y ∷ ys) x e = (ys, ap (λ z. z ∷ ys) (same_Some y x e))

never_fall_suffix : (waits : ℕ → ℕ → Type 0) (before rest : List ℕ) → NeverFall waits (before ++ rest) → NeverFall waits rest
never_fall_suffix waits [] rest fall = fall
never_fall_suffix waits (place ∷ before) rest fall = never_fall_suffix waits before rest fall.1

module _ (h : History) (places : List ℕ) (are : AreInTurn (WaitsSince (state_of h).rows) (state_of h).moment places) where
  -- each of the stays has a request
  pub stay_has_row : (place : ℕ) → Contains places place → HasRowAt h place
  stay_has_row place among = let it = are.waiting place among in (it.1.0, it.1.2)

  pub first_has_row : (first : Option ℕ) → first ≡ slice_get places 0 → IfSome first (HasRowAt h)
  first_has_row None is = tt
  first_has_row (Some place) is = stay_has_row place (first_member places place (sym is))

  -- one that has waited as long as it may is among them
  pub expired_stays : (now p : ℕ) (row : Row) → StandsAt (state_of h).rows p row → HasExpired h.setup now row.phase → Contains places p
  expired_stays now p row stands expired = let it = expired_since h.setup now row.phase expired in are.all p it.since (row, it.queue, stands, it.waits)

  -- and then the first of the rest of them has
  earlier_expires : (now place p : ℕ) (before later : List ℕ) (row : Row) → places ≡ before ++ place ∷ later → Contains (place ∷ later) p
      → StandsAt (state_of h).rows p row → HasExpired h.setup now row.phase → ExpiresAt h now place
  earlier_expires now place p before later row parts among stands expired = elim (Contains-cases place later p among) [
    | inl same ↦ (row, subst (λ n. StandsAt (state_of h).rows n row) (sym same) stands, expired)
    | inr after ↦
        let it = expired_since h.setup now row.phase expired in
        let own = are.waiting place (subst (λ (l : List ℕ). Contains l place) (sym parts) (Contains-middle before place later)) in
        let fall = never_fall_suffix (WaitsSince (state_of h).rows) before (place ∷ later)
        (subst (NeverFall (WaitsSince (state_of h).rows)) parts are.never_fall) in
        let no_later : own.0 ≤ it.since =
        each_at_member (λ other. (since next : ℕ) → WaitsSince (state_of h).rows place since → WaitsSince (state_of h).rows other next
        → since ≤ next) later p fall.0 after own.0 it.since own.1 (row, it.queue, stands, it.waits) in
        let limited = it.limited in
        let long_ago = it.long_ago in
        (own.1.0, own.1.2, subst (λ (phase : Phase). HasExpired h.setup now phase) (sym own.1.3) (limited, omega arith))
  ]

  none_expires : (now p : ℕ) (before rest : List ℕ) (row : Row) → places ≡ before ++ rest → IfSome (slice_get rest 0) (λ at. ¬ (ExpiresAt h now at))
      → Contains rest p → StandsAt (state_of h).rows p row → HasExpired h.setup now row.phase → ⊥
  none_expires now p before [] row parts none among stands expired = Contains-nil p among
  none_expires now p before (place ∷ later) row parts none among stands expired =
      none (earlier_expires now place p before later row parts among stands expired)

  -- some request has waited as long as it may where the first one has
  pub some_expires : (now moment : ℕ) (first oldest : Option ℕ) → first ≡ slice_get places 0 → now ≡ effective h moment
      → MatchOption oldest (IfSome first (λ at. ¬ (ExpiresAt h now at))) (λ at. (first ≡ Some at) × ExpiresAt h now at)
      → (IsTrue (is_some oldest) → SomeExpires h moment) × (SomeExpires h moment → IsTrue (is_some oldest))
  some_expires now moment first None is when none = (
    λ some. false_true some,
    λ some. absurd (none_expires now some.1.0 [] places some.0 refl (subst (λ (o : Option ℕ). IfSome o (λ at. ¬ (ExpiresAt h now at))) is none)
        (expired_stays now some.1.0 some.0 some.1.1 (subst (λ n. HasExpired h.setup n some.0.phase) (sym when) some.2))
        some.1.1
        (subst (λ n. HasExpired h.setup n some.0.phase) (sym when) some.2)),
  )
  some_expires now moment first (Some at) is when its =
      (λ some. (its.1.0, (at, its.1.1), subst (λ n. HasExpired h.setup n its.1.0.phase) when its.1.2), λ some. refl)

-- how far a walk along the stays has come: over those before, whose requests have waited as long as they may, and whose
-- tickets are in the queue
pub record HasWalked (h : History) (places : List ℕ) (now : ℕ) (tickets : List (ℕ × ℕ)) (oldest : Option ℕ) : Type 0 where
  pub before : List ℕ
  pub rest : List ℕ
  pub parts : places ≡ before ++ rest
  pub told : (p : ℕ) (row : Row) → Contains before p → StandsAt (state_of h).rows p row
      → Contains tickets (row.key.ticket, p) × HasExpired h.setup now row.phase
  pub named : (ticket p : ℕ) → Contains tickets (ticket, p) → (row : Row) × Contains before p × StandsAt (state_of h).rows p row
      × (row.key.ticket ≡ ticket)
  pub ascending : IsAscending nat_cmp tickets
  pub counted : length tickets ≡ length before
  pub next : MatchOption oldest (IfSome (slice_get rest 0) (λ at. ¬ (ExpiresAt h now at))) (λ at. (slice_get rest 0 ≡ Some at) × ExpiresAt h now at)

-- what was said of a place that is read elsewhere
pub next_is : (h : History) (now : ℕ) (first read oldest : Option ℕ) → first ≡ read
    → MatchOption oldest (IfSome first (λ at. ¬ (ExpiresAt h now at))) (λ at. (first ≡ Some at) × ExpiresAt h now at)
    → MatchOption oldest (IfSome read (λ at. ¬ (ExpiresAt h now at))) (λ at. (read ≡ Some at) × ExpiresAt h now at)
next_is h now first read oldest same next =
    subst (λ (o : Option ℕ). MatchOption oldest (IfSome o (λ at. ¬ (ExpiresAt h now at))) (λ at. (o ≡ Some at) × ExpiresAt h now at)) same next

pub walk_begins : (h : History) (places : List ℕ) (now : ℕ) (tickets : List (ℕ × ℕ)) (first oldest : Option ℕ) → tickets ≡ []
    → first ≡ slice_get places 0
    → MatchOption oldest (IfSome first (λ at. ¬ (ExpiresAt h now at))) (λ at. (first ≡ Some at) × ExpiresAt h now at)
    → HasWalked h places now tickets oldest
walk_begins h places now tickets first oldest none is next = subst (λ (l : List (ℕ × ℕ)). HasWalked h places now l oldest) (sym none) (record {
  before = [];
  rest = places;
  parts = refl;
  told = λ p row among stands. absurd (Contains-nil p among);
  named = λ ticket p among. absurd (Contains-nil (ticket, p) among);
  ascending = tt;
  counted = refl;
  next = next_is h now first (slice_get places 0) oldest is next;
})

-- how far it has come, where the place is known
pub walked_to : (h : History) (places : List ℕ) (now : ℕ) (tickets : List (ℕ × ℕ)) (oldest known : Option ℕ)
    → HasWalked h places now tickets oldest → oldest ≡ known → HasWalked h places now tickets known
walked_to h places now tickets oldest known walked is = subst (HasWalked h places now tickets) is walked

-- what a walk may count on: the order of joining, in which no place comes twice, and that no two requests have one ticket
pub record Stays (h : History) (places : List ℕ) : Type 0 where
  pub are : AreInTurn (WaitsSince (state_of h).rows) (state_of h).moment places
  pub once : ComeOnce places
  pub long : length (state_of h).rows ≡ h.setup.places
  pub own : HaveOwnTickets (state_of h).rows

-- the next place on the walk, and its request
module _ (h : History) (places : List ℕ) (stays : Stays h places) (now : ℕ) (tickets : List (ℕ × ℕ)) (place : ℕ)
    (walked : HasWalked h places now tickets (Some place)) where
  open stays use {are, once, long, own}

  here : (later : List ℕ) × (walked.rest ≡ place ∷ later)
  here = rest_of walked.rest place walked.next.0

  parts_here : places ≡ walked.before ++ place ∷ here.0
  parts_here = walked.parts ∙ ap (λ (l : List ℕ). walked.before ++ l) here.1

  once_here : ComeOnce (walked.before ++ place ∷ here.0)
  once_here = subst ComeOnce parts_here once

  pub has_row_here : HasRowAt h place
  has_row_here = stay_has_row h places are place (subst (λ (l : List ℕ). Contains l place) (sym parts_here) (Contains-middle walked.before place here.0))

  pub place_there : Contains places place
  place_there = subst (λ (l : List ℕ). Contains l place) (sym parts_here) (Contains-middle walked.before place here.0)

  pub walks_less : length tickets < length places
  walks_less =
      let whole : length places ≡ length (walked.before ++ place ∷ here.0) = ap length parts_here in
      let parts = length-append walked.before (place ∷ here.0) in
      let longer : length (place ∷ here.0) ≡ length here.0 + 1 = omega arith in
      let counted = walked.counted in
      omega arith

  pub fits_more : (room : ℕ) → h.setup.places ≤ room → length tickets < room
  fits_more room enough =
      let within : length places ≤ length (state_of h).rows =
      once_within (length (state_of h).rows) places once
      (λ k among. slice_get_within (state_of h).rows k (Some (are.waiting k among).1.0) (are.waiting k among).1.2) in
      let less = walks_less in
      let same = long in
      omega arith

  after_here : next_after place places ≡ slice_get here.0 0
  after_here = ap (next_after place) parts_here ∙ next_after_parts walked.before place here.0 once_here

  pub after_has_row : (after : Option ℕ) → after ≡ next_after place places → IfSome after (HasRowAt h)
  after_has_row None is = tt
  after_has_row (Some other) is =
      stay_has_row h places are other (subst (λ (l : List ℕ). Contains l other) (sym (parts_here ∙ sym (append_assoc walked.before (place ∷ []) here.0)))
      (later_in (first_member here.0 other (sym after_here ∙ sym is))))
    where
      later_in : Contains here.0 other → Contains ((walked.before ++ place ∷ []) ++ here.0) other
      later_in among = Contains-append_right (walked.before ++ place ∷ []) here.0 other among

  module _ (row : Row) (stands : StandsAt (state_of h).rows place row) where
    pub ticket_absent : KeyIsAbsent nat_cmp row.key.ticket tickets
    ticket_absent = absent_from_members nat_cmp row.key.ticket tickets (λ pair among tied.
        let same : pair.0 ≡ row.key.ticket = grind (arith, nat_tests) in
        let it = walked.named pair.0 pair.1 among in
        let at : pair.1 ≡ place = own.own pair.1 place it.0 row it.2 stands (it.3 ∙ same) in
        not_before walked.before place here.0 once_here (subst (Contains walked.before) at it.1))

    pub walks_on : (more : List (ℕ × ℕ)) (after oldest : Option ℕ) → more ≡ inserted nat_cmp (row.key.ticket, place) tickets
        → IsAscending nat_cmp more → after ≡ next_after place places
        → MatchOption oldest (IfSome after (λ at. ¬ (ExpiresAt h now at))) (λ at. (after ≡ Some at) × ExpiresAt h now at)
        → HasWalked h places now more oldest
    walks_on more after oldest put up follows next = record {
      before = walked.before ++ place ∷ [];
      rest = here.0;
      parts = parts_here ∙ sym (append_assoc walked.before (place ∷ []) here.0);
      told = λ p other among at.
          elim (Contains-push_cases walked.before place p among) [
            | inl e ↦ let it = walked.told p other e at in (kept other.key.ticket p it.0, it.1)
            | inr e ↦
                let one : other ≡ row =
                same_Some other row (same_Some (Some other) (Some row) (sym (subst (λ n. StandsAt (state_of h).rows n other) (sym e) at) ∙ stands)) in
                let its = walked.next.1 in
                let expires : its.0 ≡ row = same_Some its.0 row (same_Some (Some its.0) (Some row) (sym its.1 ∙ stands)) in (
                  subst (λ n. Contains more (other.key.ticket, n)) e (subst (λ (r : Row). Contains more (r.key.ticket, place)) (sym one) new),
                  subst
                      (λ (r : Row). HasExpired h.setup now r.phase) (expires ∙ sym one) its.2,
                )
          ];
      named = λ ticket p among.
          elim (Contains-inserted nat_cmp (row.key.ticket, place) tickets (ticket, p) ticket_absent
          (subst (λ (l : List (ℕ × ℕ)). Contains l (ticket, p)) put among)) [
            | inl e ↦
                let at : place ≡ p = ap (λ (x : ℕ × ℕ). x.1) e in (
                  row,
                  subst (Contains (walked.before ++ place ∷ [])) at (Contains-push walked.before place),
                  subst
                      (λ n. StandsAt (state_of h).rows n row) at stands,
                  ap (λ (x : ℕ × ℕ). x.0) e,
                )
            | inr e ↦ let it = walked.named ticket p e in (it.0, Contains-append_left walked.before (place ∷ []) p it.1, it.2, it.3)
          ];
      ascending = up;
      counted =
          let a : length more ≡ length (inserted nat_cmp (row.key.ticket, place) tickets) = ap length put in
          let b = length-inserted nat_cmp (row.key.ticket, place) tickets ticket_absent in
          let c = walked.counted in
          let d = length-append walked.before (place ∷ []) in
          omega arith;
      next = next_is h now after (slice_get here.0 0) oldest (follows ∙ after_here) next;
    }
      where
        kept : (ticket p : ℕ) → Contains tickets (ticket, p) → Contains more (ticket, p)
        kept ticket p among =
            subst (λ (l : List (ℕ × ℕ)). Contains l (ticket, p)) (sym put)
            (Contains-inserted_old nat_cmp (row.key.ticket, place) tickets (ticket, p) ticket_absent among)

        new : Contains more (row.key.ticket, place)
        new =
            subst (λ (l : List (ℕ × ℕ)). Contains l (row.key.ticket, place)) (sym put)
            (Contains-inserted_new nat_cmp (row.key.ticket, place) tickets ticket_absent)

-- at its end the tickets are those of all that have
pub walk_ends : (h : History) (places : List ℕ) (now : ℕ) (tickets : List (ℕ × ℕ))
    → AreInTurn (WaitsSince (state_of h).rows) (state_of h).moment places → now ≡ (state_of h).moment → HasWalked h places now tickets None
    → AreExpired h tickets
walk_ends h places now tickets are when walked ticket place = (
  λ among.
      let it = walked.named ticket place among in
      (it.0, it.2, subst (λ n. HasExpired h.setup n it.0.phase) when (walked.told place it.0 it.1 it.2).1, it.3),
  λ its.
      let expired = subst (λ n. HasExpired h.setup n its.0.phase) (sym when) its.2 in
      let among = subst (λ (l : List ℕ). Contains l place) walked.parts (expired_stays h places are now place its.0 its.1 expired) in
      elim (Contains-append_cases walked.before walked.rest place among) [
        | inl e ↦ subst (λ n. Contains tickets (n, place)) its.3 (walked.told place its.0 e its.1).0
        | inr e ↦ absurd (none_expires h places are now place walked.before walked.rest its.0 walked.parts walked.next e its.1 expired)
      ],
)

-- what a logged state's ledger tells of it
module _ {N : Type 0} (pair_of : N → Key × ℕ) (t : LoggedState N) (is : IsLoggedState pair_of t) (h : History) (same : history_of t ≡ h) where
  pub row_there : (at : ℕ) → HasRowAt h at → HasRow t.kept.cells at
  row_there at has =
      let stands = subst (λ (x : History). StandsAt (state_of x).rows at has.0) (sym same) has.1 in
      let cell = stands_cell t.kept.cells (state_of (history_of t)).rows at has.0 is.holds.rows stands in
      (cell.0, cell.1)

  pub row_read : (at : ℕ) (row : Row) → (s : Cell N) × StandsIn t.kept.cells at s × (s.row ≡ row) → StandsAt (state_of h).rows at row
  row_read at row read =
      subst (λ (x : History). StandsAt (state_of x).rows at row) same
      (subst (λ (r : Row). StandsAt (state_of (history_of t)).rows at r) read.2
      (stands_row t.kept.cells (state_of (history_of t)).rows at read.0 is.holds.rows read.1))

  module _ (setup : Setup) (now at : ℕ) (row : Row) (made : setup ≡ t.kept.setup)
      (read : (s : Cell N) × StandsIn t.kept.cells at s × (s.row ≡ row)) where
    setup_is : setup ≡ h.setup
    setup_is = made ∙ ap (λ (x : History). x.setup) same

    pub expires_there : HasExpired setup now row.phase → ExpiresAt h now at
    expires_there expired = (row, row_read at row read, subst (λ (x : Setup). HasExpired x now row.phase) setup_is expired)

    pub expires_not : (HasExpired setup now row.phase → ⊥) → ¬ (ExpiresAt h now at)
    expires_not waits its =
        let one : its.0 ≡ row = same_Some its.0 row (same_Some (Some its.0) (Some row) (sym its.1 ∙ row_read at row read)) in
        waits (subst (λ (x : Setup). HasExpired x now row.phase) (sym setup_is) (subst (λ (r : Row). HasExpired h.setup now r.phase) one its.2))

  pub own_tickets : HaveOwnTickets (state_of h).rows
  own_tickets = subst (λ (x : History). HaveOwnTickets (state_of x).rows) same (state_consistent pair_of t is).tickets

  pub last_moment : t.position.last ≡ (state_of h).moment
  last_moment = ap (λ (p : Position). p.last) is.holds.position ∙ ap (λ (x : History). (state_of x).moment) same

  pub many_places : length (state_of h).rows ≡ h.setup.places
  many_places = subst (λ (x : History). length (state_of x).rows ≡ x.setup.places) same (state_places pair_of t is)

  pub in_turn_there : AreInTurn (WaitsSince (state_of h).rows) (state_of h).moment t.waits.order
  in_turn_there = subst (λ (x : History). AreInTurn (WaitsSince (state_of x).rows) (state_of x).moment t.waits.order) same is.holds.in_turn

  pub stays_there : ComeOnce t.waits.order → Stays h t.waits.order
  stays_there once = record { are = in_turn_there; once = once; long = many_places; own = own_tickets }
