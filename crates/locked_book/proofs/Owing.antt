-- What a book owes within a call, and what it pays by offers.
use Rattle.std.proofs.Common.{◌≡◌, ℕ, zero, suc, ◌+◌, ◌<◌, ◌≤◌, ◌^◌, true, false, List, [], ◌∷◌, ◌++◌}
use Rattle.std.proofs.Common.{All, Contains, IfSome, Option, None, Some, length, map, slice_get, slice_index, refl, ap, sym, ◌∙◌, subst, arith}
use Rattle.std.specs.Option.{option_map_or}
use Rattle.std.specs.List.{cons_option}
use Rattle.std.proofs.lemmas.Option.{slice_get_within}
use Rattle.std.proofs.lemmas.List.{append_assoc, append-nil, map-append, length-map}
use Rattle.std.proofs.lemmas.List.Elements.{All-head, All-tail, filter_map-append}
use Rattle.base_verdict.specs.declared.Verdict.{Verdict}
use Rattle.base_verdict.specs.declared.Verdict.TheVariants.{Serve, Told}
use Rattle.base_verdict.specs.declared.Ending.{Ending}
use Rattle.base_lists.specs.Weights.{total}
use Rattle.base_lists.proofs.Ones.{one, has_one, one-same, AreIn-Contains}
use Rattle.base_lists.proofs.Totals.{total-push}
use Rattle.grant_board.specs.declared.returned.Return.{Return}
use Rattle.grant_board.specs.Views.{Grant, grant, Terms, mark_of, KeeperView, at_place, serves_at, count_at, count_of, return_of}
use Rattle.grant_board.specs.KeeperCalls.{HasRoom, offer_after, Collects}
use Rattle.grant_board.proofs.Grants.{at_place-yes, serves_at-same, same_grant, grants_tell}
use Rattle.log_entries.specs.declared.allowance.Allowance.{Allowance}
use Rattle.log_entries.specs.declared.entry.Entry.{Entry}
use Rattle.log_entries.specs.declared.entry.Entry.TheVariants.{Done, Fail}
use Rattle.log_entries.specs.declared.row.Phase.{Phase}
use Rattle.log_entries.specs.declared.row.Phase.TheVariants.{Loose, Waiting, Serving}
use Rattle.log_entries.specs.declared.row.Row.{Row}
use Rattle.log_entries.specs.declared.setup.Setup.{Setup}
use Rattle.log_entries.specs.Bounds.{IsAtOneOf, IsInBounds}
use Rattle.log_entries.specs.Dispatch.{bound_by, bound_of}
use Rattle.log_entries.specs.Histories.{History, state_of, begins_event, end_of}
use Rattle.log_entries.specs.Judgement.{granting}
use Rattle.log_entries.specs.Legal.{IsLegal, AddsEvent}
use Rattle.log_entries.specs.Rows.{Rows, StandsAt, served}
use Rattle.log_entries.specs.States.{State, after_all}
use Rattle.log_entries.proofs.Consistency.{at_stage}
use Rattle.log_entries.proofs.Dispatched.{dispatched, legal_consistent}
use Rattle.log_entries.proofs.Judged.{over_none}
use Rattle.log_entries.proofs.RowLemmas.{HaveOwnTickets}
use Rattle.log_entries.proofs.Runs.{after_on}
use Rattle.log_entries.proofs.Within.{within}
use Rattle.locked_book.specs.Books.{terms_for, mark_by, without_places, returned, IsBook, IsOwing}
use Rattle.locked_book.specs.Outstanding.{verdict_at, grant_at, outstanding, place_in, grants_of}
use Rattle.locked_book.specs.Verdicts.{verdict_in, verdicts, ending_in, endings}
use Rattle.locked_book.proofs.Weighing.{weigh, only, of_ticket, once_at, count_of_served, IsOutAt, is_out}
use Rattle.locked_book.proofs.Turning.{back, turned}

-- the state after an event is what its entries leave of the one before
pub state_on : (h new : History) (e : Entry) (adds : AddsEvent h new e) → state_of new ≡ after_all h.setup (state_of h) (e ∷ adds.brought)
state_on h new e adds =
    ap (λ (s : Setup). after_all s new.base new.log) adds.setup ∙ ap (λ (b : State). after_all h.setup b new.log) adds.base
    ∙ ap (λ l. after_all h.setup h.base l) adds.log
    ∙ after_on h.setup h.base h.log (e ∷ adds.brought)

pub own_tickets : (h : History) → IsLegal h → HaveOwnTickets (state_of h).rows
own_tickets h legal = (legal_consistent h legal).tickets

-- what an event does to what is outstanding
pub weighs_on : (weight : Grant → ℕ) (h new : History) (e : Entry) → IsLegal h → begins_event e ≡ true → (adds : AddsEvent h new e)
    → total weight (outstanding (state_of new).rows) + back weight e (state_of h).rows
    ≡ total weight (outstanding (state_of h).rows) + total weight (grants_of (state_of new).rows (verdicts (e ∷ adds.brought)))
weighs_on weight h new e legal event adds =
    let calm = at_stage (state_of h).rows (state_of h).ticket _ granting (legal_consistent h legal) (over_none h.setup (state_of h) _ legal.lawful.whole) in
    let it = turned weight (end_of h) granting e adds.brought event adds.one_event calm adds.lawful.judged adds.lawful.whole in
    subst (λ (s : State). total weight (outstanding s.rows) + back weight e (state_of h).rows
    ≡ total weight (outstanding (state_of h).rows) + total weight (grants_of s.rows (verdicts (e ∷ adds.brought))))
    (sym (state_on h new e adds)) it

-- the offers and returns that a log ends with
offers_on : (h new : History) (e : Entry) (adds : AddsEvent h new e) (offers earlier : List (ℕ × Verdict)) → offers ≡ earlier ++ verdicts h.log
    → offers ++ verdicts (e ∷ adds.brought) ≡ earlier ++ verdicts new.log
offers_on h new e adds offers earlier is =
    ap (λ l. l ++ verdicts (e ∷ adds.brought)) is ∙ append_assoc earlier (verdicts h.log) (verdicts (e ∷ adds.brought))
    ∙ ap (λ l. earlier ++ l) (sym (filter_map-append verdict_in h.log (e ∷ adds.brought)) ∙ ap verdicts (sym adds.log))

-- entries that are no events end nothing
no_ending : (es : List Entry) → All (λ e. begins_event e ≡ false) es → endings es ≡ []
no_ending [] none = refl
no_ending (e ∷ es) none = ap (λ (o : Option (ℕ × Ending)). cons_option o (endings es)) (by_entry e (All-head (λ x. begins_event x ≡ false) e es none))
    ∙ no_ending es (All-tail (λ x. begins_event x ≡ false) e es none)
  where
    by_entry : (x : Entry) → begins_event x ≡ false → ending_in x ≡ None
    by_entry (Done m t) is = cc
    by_entry (Fail m t) is = cc
    by_entry x is = refl

endings_on : (h new : History) (e : Entry) (adds : AddsEvent h new e) (returns earlier : List (ℕ × Ending)) → returns ≡ earlier ++ endings h.log
    → returns ++ cons_option (ending_in e) [] ≡ earlier ++ endings new.log
endings_on h new e adds returns earlier is =
    let brought : endings (e ∷ adds.brought) ≡ cons_option (ending_in e) [] = ap (λ l. cons_option (ending_in e) l) (no_ending adds.brought adds.one_event) in
    ap (λ l. l ++ cons_option (ending_in e) []) is ∙ append_assoc earlier (endings h.log) (cons_option (ending_in e) [])
    ∙ ap (λ l. earlier ++ l) (ap (λ l. endings h.log ++ l) (sym brought) ∙ sym (filter_map-append ending_in h.log (e ∷ adds.brought))
    ∙ ap endings (sym adds.log))

-- an event that ends nothing: its verdicts are owed, and bounds are those of the new state
pub owes : (h new : History) (view : KeeperView) (bounds : List ℕ) (e : Entry) → IsLegal h → IsBook h view → begins_event e ≡ true → (adds : AddsEvent h new e)
    → ending_in e ≡ None
    → ((weight : Grant → ℕ) → back weight e (state_of h).rows ≡ 0) → bounds ≡ map mark_by (state_of new).limits
    → IsOwing new (record view { bounds = bounds }) (e ∷ adds.brought)
owes h new view bounds e legal is event adds none nothing bounded = record {
  terms = is.terms ∙ ap terms_for (sym adds.setup);
  bounds = bounded;
  out = λ weight. omega (arith, is.out weight, weighs_on weight h new e legal event adds, nothing weight);
  offers = (is.offers.0, offers_on h new e adds (without_places view.offers) is.offers.0 is.offers.1);
  returns = (
    is.returns.0,
    sym (append-nil (returned view.returns)) ∙ ap (λ (o : Option (ℕ × Ending)). returned view.returns ++ cons_option o []) (sym none)
        ∙ endings_on h new e adds (returned view.returns) is.returns.0 is.returns.1,
  );
}

-- what is out at the board is the row's that stands there
pub out_row : (h : History) (view : KeeperView) (g : Grant) → IsBook h view → Contains view.out g → IsOutAt (state_of h).rows g.place g
out_row h view g is there =
    let within_all = λ (weight : Grant → ℕ).
    (let e : total weight view.out ≡ total weight (outstanding (state_of h).rows) = is.out weight in
    let le : total weight view.out ≤ total weight (outstanding (state_of h).rows) = omega (arith, e) in le)
    in
    let it = is_out 0 (state_of h).rows g (AreIn-Contains same_grant grants_tell view.out (outstanding (state_of h).rows) g within_all there) in
    let at : it.0 ≡ g.place = omega (arith, it.1) in
    subst (λ p. IsOutAt (state_of h).rows p g) at it.2

-- an ending that came back: the grant is out no more, and its event is noted
pub owes_end : (h new : History) (old view : KeeperView) (place : ℕ) (it : Return) (e : Entry) → IsLegal h → IsBook h old → Collects old view place it
    → begins_event e ≡ true → (adds : AddsEvent h new e)
    → ending_in e ≡ Some (it.ticket, it.ending)
    → ((weight : Grant → ℕ) → back weight e (state_of h).rows ≡ total (only it.ticket weight) (outstanding (state_of h).rows))
    → (state_of new).limits ≡ (state_of h).limits → IsOwing new view (e ∷ adds.brought)
owes_end h new old view place it e legal is collects event adds ends backs limits =
    let g = grant place it.ticket collects.verdict in
    let row = out_row h old g is collects.was_out in
    let weighs = λ (weight : Grant → ℕ).
    (let own : total (only it.ticket weight) (outstanding (state_of h).rows) ≡ weigh weight place (Some row.row) =
    of_ticket weight (state_of h).rows place it.ticket row.row (own_tickets h legal) row.stands row.named in
    let there : weigh weight place (Some row.row) ≡ weight (grant place row.row.key.ticket collects.verdict) + 0 =
    ap (λ (v : Option Verdict). total weight (grant_at place row.row.key.ticket v)) row.verdict in
    let ticket : weight (grant place row.row.key.ticket collects.verdict) ≡ weight g = ap (λ n. weight (grant place n collects.verdict)) row.named in
    let sum : back weight e (state_of h).rows ≡ weight g = omega (arith, own, there, ticket, backs weight) in sum)
    in
    record {
      terms = ap (λ (v : KeeperView). v.terms) collects.after ∙ is.terms ∙ ap terms_for (sym adds.setup);
      bounds = ap (λ (v : KeeperView). v.bounds) collects.after ∙ is.bounds ∙ ap (map mark_by) (sym limits);
      out = λ weight. omega (arith, is.out weight, collects.weighs weight, weighs weight, weighs_on weight h new e legal event adds);
      offers = (
        is.offers.0,
        ap (λ (v : KeeperView). without_places v.offers ++ verdicts (e ∷ adds.brought)) collects.after
            ∙ offers_on h new e adds (without_places old.offers) is.offers.0 is.offers.1,
      );
      returns = (
        is.returns.0,
        ap (λ (v : KeeperView). returned v.returns) collects.after ∙ map-append _ old.returns (return_of g it.ending ∷ [])
            ∙ ap (λ (o : Option (ℕ × Ending)). returned old.returns ++ cons_option o []) (sym ends)
            ∙ endings_on h new e adds (returned old.returns) is.returns.0 is.returns.1,
      );
    }

-- nothing is owed any more
pub paid : (h : History) (view : KeeperView) → IsOwing h view [] → IsBook h view
paid h view is = record {
  terms = is.terms;
  bounds = is.bounds;
  out = λ weight. omega (arith, is.out weight);
  offers = (is.offers.0, sym (append-nil (without_places view.offers)) ∙ is.offers.1);
  returns = is.returns;
}

-- an entry that is no verdict owes nothing
pub owes_rest : (h : History) (view : KeeperView) (e : Entry) (es : List Entry) → IsOwing h view (e ∷ es) → verdict_in e ≡ None → IsOwing h view es
owes_rest h view e es is none =
    let same : verdicts (e ∷ es) ≡ verdicts es = ap (λ (o : Option (ℕ × Verdict)). cons_option o (verdicts es)) none in
    record {
      terms = is.terms;
      bounds = is.bounds;
      out = λ weight. omega (arith, is.out weight, ap (λ l. total weight (grants_of (state_of h).rows l)) same);
      offers = (is.offers.0, ap (λ l. without_places view.offers ++ l) (sym same) ∙ is.offers.1);
      returns = is.returns;
    }

-- a verdict that is owed: where its row stands
pub record IsOwedAt (h : History) (view : KeeperView) (place ticket : ℕ) (it : Verdict) : Type 0 where
  pub row : Row
  pub stands : StandsAt (state_of h).rows place row
  pub named : row.key.ticket ≡ ticket
  pub verdict : verdict_at row.phase ≡ Some it
  pub more : (weight : Grant → ℕ) → total weight view.out + weight (grant place ticket it) ≤ total weight (outstanding (state_of h).rows)

pub owed_at : (h : History) (view : KeeperView) (e : Entry) (es : List Entry) (it : ℕ × Verdict) → IsLegal h → IsOwing h view (e ∷ es) → verdict_in e ≡ Some it
    → IsOwedAt h view (place_in it.0 (state_of h).rows) it.0 it.1
owed_at h view e es it legal is told =
    let rows = (state_of h).rows in
    let place = place_in it.0 rows in
    let g = grant place it.0 it.1 in
    let same : verdicts (e ∷ es) ≡ it ∷ verdicts es = ap (λ (o : Option (ℕ × Verdict)). cons_option o (verdicts es)) told in
    let more = λ (weight : Grant → ℕ). let whole : total weight (grants_of rows (verdicts (e ∷ es))) ≡ weight g + total weight (grants_of rows (verdicts es)) =
    ap (λ l. total weight (grants_of rows l)) same in
    (let le : total weight view.out + weight g ≤ total weight (outstanding rows) = omega (arith, is.out weight, whole) in le)
    in
    let there = has_one same_grant grants_tell (outstanding rows) g (omega (arith, more (one same_grant g), one-same same_grant grants_tell g)) in
    let out = is_out 0 rows g there in
    let at : out.0 ≡ place = omega (arith, out.1) in
    let row = subst (λ p. IsOutAt rows p g) at out.2 in
    record { row = row.row; stands = row.stands; named = row.named; verdict = row.verdict; more = more }

-- it may be offered there
pub record MayOffer (view : KeeperView) (place ticket : ℕ) (it : Verdict) : Type 0 where
  pub in_range : place < view.terms.places
  pub free : count_at place view.out ≡ 0
  pub ticket_fits : ticket < 2 ^ 40
  pub has_room : HasRoom view it

bound_at : (limits : List Allowance) (s : ℕ) → slice_index (map mark_by limits) s ≡ mark_of (option_map_or bound_by (slice_get limits s) None)
bound_at [] s = refl
bound_at (it ∷ limits) zero = refl
bound_at (it ∷ limits) (suc s) = bound_at limits s

-- what keeps a bound is below its mark
pub below_mark : (bound : Option ℕ) (n : ℕ) → IfSome bound (λ most. n ≤ most) → 0 < mark_of bound → n < mark_of bound
below_mark None n keeps marked = absurd (omega (arith, marked))
below_mark (Some most) n keeps marked = omega (arith, keeps)

serving_phase : (phase : Phase) (s : ℕ) → verdict_at phase ≡ Some (Serve s) → phase ≡ Serving s
serving_phase Loose s is = cc
serving_phase (Waiting q m) s is = cc
serving_phase (Serving v) s is = cc
serving_phase phase s is = cc

pub may_offer : (h : History) (view : KeeperView) (es : List Entry) (place ticket : ℕ) (it : Verdict) → IsLegal h → IsOwing h view es
    → IsOwedAt h view place ticket it → MayOffer view place ticket it
may_offer h view es place ticket it legal is owed = record {
  in_range = subst (λ (t : Terms). place < t.places) (sym is.terms) (let low : place < length rows = slice_get_within rows place (Some owed.row) owed.stands in
      omega (arith, low, bounds.places));
  free = let one_there = owed.more (at_place place) in omega (arith, one_there, once_at place 0 rows, at_place-yes place (grant place ticket it) refl);
  ticket_fits = let low : owed.row.key.ticket ≤ (state_of h).ticket = bounds.rows owed.row (place, owed.stands) in
      omega (arith, low, bounds.ticket, owed.named);
  has_room = room it owed.verdict (owed.more);
}
  where
    rows : Rows
    rows = (state_of h).rows

    bounds : IsInBounds h
    bounds = within h legal

    room : (v : Verdict) → verdict_at owed.row.phase ≡ Some v
        → ((weight : Grant → ℕ) → total weight view.out + weight (grant place ticket v) ≤ total weight (outstanding rows)) → HasRoom view v
    room (Told c) phase more = tt
    room (Serve s) phase more =
        let there : s < length h.setup.servers = subst (IsAtOneOf (length h.setup.servers)) (serving_phase owed.row.phase s phase)
        (bounds.servers owed.row (place, owed.stands)) in
        let terms : length view.terms.limits ≡ length h.setup.servers = ap (λ (t : Terms). length t.limits) is.terms
        ∙ length-map h.setup.servers (λ server. server.limit) in
        let bound : slice_index view.bounds s ≡ mark_of (bound_of (state_of h) s) = ap (λ l. slice_index l s) is.bounds ∙ bound_at (state_of h).limits s in (
          omega (arith, there, terms),
          λ some.
              let limit : served s rows < mark_of (bound_of (state_of h) s) = below_mark _ _ ((dispatched h legal).limits s) (omega (arith, some, bound)) in
              let more_there : count_of s view.out + serves_at s (Serve s) ≤ count_of s (outstanding rows) = more (λ g. serves_at s g.verdict) in
              omega (arith, limit, bound, more_there, serves_at-same s, count_of_served s 0 rows),
        )

-- and is paid so
pub offered : (h : History) (view : KeeperView) (e : Entry) (es : List Entry) (it : ℕ × Verdict) (place : ℕ) → IsOwing h view (e ∷ es) → verdict_in e ≡ Some it
    → place_in it.0 (state_of h).rows ≡ place
    → IsOwing h (offer_after view (grant place it.0 it.1)) es
offered h view e es it place is told at =
    let same : verdicts (e ∷ es) ≡ it ∷ verdicts es = ap (λ (o : Option (ℕ × Verdict)). cons_option o (verdicts es)) told in
    record {
      terms = is.terms;
      bounds = is.bounds;
      out = λ weight.
          (let whole : total weight (grants_of (state_of h).rows (verdicts (e ∷ es)))
          ≡ weight (grant (place_in it.0 (state_of h).rows) it.0 it.1) + total weight (grants_of (state_of h).rows (verdicts es)) =
          ap (λ l. total weight (grants_of (state_of h).rows l)) same in
          let here : weight (grant (place_in it.0 (state_of h).rows) it.0 it.1) ≡ weight (grant place it.0 it.1) = ap (λ p. weight (grant p it.0 it.1)) at in
          let sum : total weight (view.out ++ grant place it.0 it.1 ∷ []) + total weight (grants_of (state_of h).rows (verdicts es))
          ≡ total weight (outstanding (state_of h).rows) =
          omega (arith, is.out weight, whole, here, total-push weight view.out (grant place it.0 it.1)) in sum);
      offers = (
        is.offers.0,
        ap (λ l. l ++ verdicts es) (map-append (λ (g : Grant). (g.ticket, g.verdict)) view.offers (grant place it.0 it.1 ∷ []))
            ∙ append_assoc (without_places view.offers) (it ∷ []) (verdicts es)
            ∙ ap (λ l. without_places view.offers ++ l) (sym same) ∙ is.offers.1,
      );
      returns = is.returns;
    }
