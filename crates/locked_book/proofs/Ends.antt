-- Returns, new limits and windows: what they owe.
use Rattle.std.proofs.Common.{◌≡◌, ℕ, ◌<◌, ◌≤◌, ◌==◌, max, min, nat_le, not, Bool, true, false, cond}
use Rattle.std.proofs.Common.{List, [], ◌∷◌, ◌++◌, Option, None, Some, map, drop, length, set, is_none, ◌⊎◌, inl}
use Rattle.std.proofs.Common.{inr, IfOk, IfSome, IfNone, OnErr, Result, Ok, Err, refl, ap, sym, ◌∙◌, subst, arith}
use Rattle.std.specs.Option.{option_map_or}
use Rattle.std.proofs.lemmas.Bool.Decides.{nat_tests}
use Rattle.std.proofs.lemmas.List.{append-nil, length-map, map-set}
use Rattle.std.proofs.lemmas.List.Sums.{count_by-le-length}
use Rattle.base_verdict.specs.declared.Verdict.{Verdict}
use Rattle.base_verdict.specs.declared.Verdict.TheVariants.{Serve}
use Rattle.base_verdict.specs.declared.Ending.{Ending}
use Rattle.base_verdict.specs.declared.Ending.TheVariants as ending
use Rattle.base_lists.proofs.Never.{none_some}
use Rattle.grant_board.specs.declared.returned.Return.{Return}
use Rattle.grant_board.specs.Views.{grant, Terms, KeeperView, serves_at, count_of}
use Rattle.grant_board.specs.BoardWords.{MayEnd}
use Rattle.grant_board.specs.KeeperCalls.{Keeper, Collects, FindsUnposted, MayLimit, limit_after}
use Rattle.log_entries.specs.declared.allowance.Intake.{Intake}
use Rattle.log_entries.specs.declared.allowance.Intake.TheVariants.{Open, Closed}
use Rattle.log_entries.specs.declared.entry.Entry.TheVariants.{Done, Fail, Limit}
use Rattle.log_entries.specs.declared.refusal.Refusal.TheVariants.{LogFull, NoSuchServer, NoSuchTicket, WrongPhase}
use Rattle.log_entries.specs.declared.row.Phase.{Phase}
use Rattle.log_entries.specs.declared.row.Phase.TheVariants.{Loose, Waiting, Serving, Told}
use Rattle.log_entries.specs.declared.row.Row.{Row}
use Rattle.log_entries.specs.declared.setup.ServerSet.{ServerSet}
use Rattle.log_entries.specs.Dispatch.{bound_from}
use Rattle.log_entries.specs.Histories.{History, state_of, next_window, refuses_limit}
use Rattle.log_entries.specs.declared.setup.Setup.{Setup}
use Rattle.log_entries.specs.Legal.{IsLegal, AddsEvent}
use Rattle.log_entries.specs.Refusals.{first_of, lacks_room, is_waiting, has_a_slot}
use Rattle.log_entries.specs.Rows.{row_of, is_served_by, served}
use Rattle.log_entries.specs.States.{State, after}
use Rattle.log_entries.proofs.Accepted.{none_refuses}
use Rattle.log_entries.proofs.RowLemmas.{row_of_at}
use Rattle.log_entries.proofs.Within.{within}
use Rattle.dispatch_state.specs.Histories.{HasEntryRoom}
use Rattle.locked_book.specs.Books.{mark_by, IsBook, IsOwing}
use Rattle.locked_book.specs.Calls.{Booked, added, grants_in, with_offers, Wakes, ended_by, event_of, TakesBack, SetsBound}
use Rattle.locked_book.specs.Outstanding.{verdict_at}
use Rattle.locked_book.specs.Verdicts.{verdicts, endings}
use Rattle.locked_book.proofs.Owing.{below_mark, own_tickets, out_row, owes, owes_end, state_on}
use Rattle.locked_book.proofs.Weighing.{IsOutAt, count_of_served}
use Rattle.atomic_table.specs.Seated.{TableId}
use Rattle.locked_book.specs.KeptBooks.{IsKeptBook}
use Rattle.locked_book.specs.Ends.{refuses_end, IsAcceptable}
use Rattle.locked_book.proofs.Events.{added_is, sets_none, limits_kept}

-- a look changes nothing of a book
pub looked_book : (h : History) (old view : KeeperView) (place : ℕ) → IsBook h old → FindsUnposted old view place → IsBook h view
looked_book h old view place is finds = subst (IsBook h) (sym finds.after)
    (record { terms = is.terms; bounds = is.bounds; out = is.out; offers = is.offers; returns = is.returns })

-- nor does a new window, whose log has no verdict yet
pub rolled_book : (h : History) (view : KeeperView) → IsBook h view → IsBook (next_window h) view
rolled_book h view is = record {
  terms = is.terms;
  bounds = is.bounds;
  out = is.out;
  offers = (is.offers.0 ++ verdicts h.log, is.offers.1 ∙ sym (append-nil (is.offers.0 ++ verdicts h.log)));
  returns = (is.returns.0 ++ endings h.log, is.returns.1 ∙ sym (append-nil (is.returns.0 ++ endings h.log)));
}

-- what was out and has come back may end
not_waiting : (phase : Phase) (v : Verdict) → verdict_at phase ≡ Some v → is_waiting phase ≡ false
not_waiting Loose v is = refl
not_waiting (Waiting q m) v is = cc
not_waiting (Serving s) v is = refl
not_waiting (Told c) v is = refl

has_slot : (phase : Phase) (v : Verdict) → verdict_at phase ≡ Some v → MayEnd v ending.Failed → not (has_a_slot phase) ≡ false
has_slot Loose v is may = cc
has_slot (Waiting q m) v is may = cc
has_slot (Serving s) v is may = refl
has_slot (Told c) (Serve s) is may = cc
has_slot (Told c) v is may = absurd may

first_none : (a : Bool) (o : Option Row) (r : Row) (wrong : Phase → Bool) → a ≡ false → o ≡ Some r → wrong r.phase ≡ false
    → first_of ((a, LogFull) ∷ (is_none o, NoSuchTicket) ∷ (option_map_or (λ (it : Row). wrong it.phase) o false, WrongPhase) ∷ []) ≡ None
first_none true o r wrong room found right = cc
first_none false None r wrong room found right = none_some found
first_none false (Some u) r wrong room found right = let same : wrong u.phase ≡ false =
    ap (λ (x : Option Row). option_map_or (λ (it : Row). wrong it.phase) x false) found ∙ right in rw same refl

pub acceptable : (h : History) (old view : KeeperView) (place : ℕ) (back : Return) → IsLegal h → IsBook h old → Collects old view place back → HasEntryRoom h
    → IsAcceptable h back
acceptable h old view place back legal is collects room = by_ending back.ending collects.ending
  where
    row : IsOutAt (state_of h).rows place (grant place back.ticket collects.verdict)
    row = out_row h old (grant place back.ticket collects.verdict) is collects.was_out

    found : row_of back.ticket (state_of h).rows ≡ Some row.row
    found = row_of_at (state_of h).rows back.ticket place row.row (own_tickets h legal) row.stands row.named

    fits : lacks_room h.setup (length h.log) ≡ false
    fits = grind (arith, nat_tests)

    by_ending : (e : Ending) → MayEnd collects.verdict e → refuses_end h e back.ticket ≡ None
    by_ending ending.Done may = first_none (lacks_room h.setup (length h.log)) (row_of back.ticket (state_of h).rows) row.row is_waiting fits found
        (not_waiting row.row.phase collects.verdict row.verdict)
    by_ending ending.Failed may = first_none (lacks_room h.setup (length h.log)) (row_of back.ticket (state_of h).rows) row.row
        (λ phase. not (has_a_slot phase)) fits found (has_slot row.row.phase collects.verdict row.verdict may)

-- what its event owes
pub end_owes : (h new : History) (old view : KeeperView) (place moment : ℕ) (back : Return) → IsLegal h → IsBook h old → Collects old view place back
    → AddsEvent h new (event_of moment back) → IsOwing new view (added h new)
end_owes h new old view place moment back legal is collects adds = by_ending back.ending refl adds
  where
    by_ending : (e : Ending) → back.ending ≡ e → AddsEvent h new (ended_by e moment back.ticket) → IsOwing new view (added h new)
    by_ending ending.Done same adds =
        subst (IsOwing new view) (sym (added_is h new (Done moment back.ticket) adds))
        (owes_end h new old view place back (Done moment back.ticket) legal is collects refl adds (ap (λ (e : Ending). Some (back.ticket, e)) (sym same))
        (λ weight. refl) (sets_none h new (Done moment back.ticket) adds refl))
    by_ending ending.Failed same adds =
        subst (IsOwing new view) (sym (added_is h new (Fail moment back.ticket) adds))
        (owes_end h new old view place back (Fail moment back.ticket) legal is collects refl adds (ap (λ (e : Ending). Some (back.ticket, e)) (sym same))
        (λ weight. refl) (sets_none h new (Fail moment back.ticket) adds refl))

pub takes_back : (old : Booked) (h new : History) (first between now : Keeper) (place moment : ℕ) (back : Return) (woken woken_then : List ℕ) (from : ℕ)
    → record { history = h; view = first.view } ≡ old → from ≡ length h.log
    → Collects first.view between.view place back → AddsEvent h new (event_of moment back)
    → now ≡ record between { view = with_offers between.view (grants_in new (drop from new.log)) } → Wakes (grants_in new (drop from new.log)) woken woken_then
    → TakesBack old (record { history = new; view = now.view }) place moment back woken woken_then
takes_back old h new first between now place moment back woken woken_then from same long collects event offers wakes =
    let at : from ≡ length old.history.log = long ∙ ap (λ (b : Booked). length b.history.log) same in
    record {
      between = between.view;
      collects = subst (λ (b : Booked). Collects b.view between.view place back) same collects;
      event = subst (λ (b : Booked). AddsEvent b.history new (event_of moment back)) same event;
      view = ap (λ (k : Keeper). k.view) offers ∙ ap (λ n. with_offers between.view (grants_in new (drop n new.log))) at;
      wakes = subst (λ n. Wakes (grants_in new (drop n new.log)) woken woken_then) at wakes;
    }

-- a limit that nothing refuses is of a server that there is
known_server : (a b : Bool) → first_of ((a, LogFull) ∷ (b, NoSuchServer) ∷ []) ≡ None → b ≡ false
known_server a b accepted = (none_refuses b NoSuchServer [] (none_refuses a LogFull ((b, NoSuchServer) ∷ []) accepted).1).0

-- what is served at a server with a bound is within it
kept_by : (limit : Intake) (count : ℕ) → IfSome (bound_from limit count) (λ most. count ≤ most)
kept_by (Open limit) count = by_test (limit == 0)
  where
    by_test : (b : Bool) → IfSome (cond b None (Some (max limit count))) (λ most. count ≤ most)
    by_test true = tt
    by_test false = omega arith
kept_by Closed count = omega arith

pub may_limit : (h : History) (view : KeeperView) (server : ℕ) (limit : Intake) (bound : ℕ) → IsBook h view → refuses_limit h server ≡ None
    → bound ≡ mark_by (record { limit = limit; served = served server (state_of h).rows }) → MayLimit view server bound
may_limit h view server limit bound is accepted same =
    let there : nat_le (length h.setup.servers) server ≡ false = known_server _ _ accepted in
    let low : server < length h.setup.servers = grind (arith, nat_tests) in
    let terms : length view.terms.limits ≡ length h.setup.servers = ap (λ (t : Terms). length t.limits) is.terms
    ∙ length-map h.setup.servers (λ (it : ServerSet). it.limit) in (
      omega (arith, low, terms),
      λ some.
          let most = below_mark _ _ (kept_by limit (served server (state_of h).rows)) (omega (arith, some, same)) in
          let out : count_of server view.out ≡ served server (state_of h).rows = is.out (λ g. serves_at server g.verdict)
          ∙ count_of_served server 0 (state_of h).rows in
          omega (arith, most, out, same),
    )

pub limit_owes : (h new : History) (view now : KeeperView) (moment server : ℕ) (limit : Intake) (bound : ℕ) → IsLegal h → IsBook h view
    → AddsEvent h new (Limit moment server limit)
    → bound ≡ mark_by (record { limit = limit; served = served server (state_of h).rows }) → now ≡ limit_after view server bound
    → IsOwing new now (added h new)
limit_owes h new view now moment server limit bound legal is adds same after_it =
    let set_here : (state_of new).limits ≡ set (state_of h).limits server (record { limit = limit; served = served server (state_of h).rows }) =
    ap (λ (s : State). s.limits) (state_on h new (Limit moment server limit) adds)
    ∙ limits_kept h.setup (after h.setup (state_of h) (Limit moment server limit)) adds.brought adds.one_event in
    let bounds : set view.bounds server bound ≡ map mark_by (state_of new).limits =
    ap (λ l. set l server bound) is.bounds ∙ ap (set (map mark_by (state_of h).limits) server) same
    ∙ sym (map-set mark_by (state_of h).limits server (record { limit = limit; served = served server (state_of h).rows }))
    ∙ ap (map mark_by) (sym set_here) in
    subst (λ (v : KeeperView). IsOwing new v (added h new)) (sym after_it)
    (subst (IsOwing new (limit_after view server bound)) (sym (added_is h new (Limit moment server limit) adds))
    (owes h new view (set view.bounds server bound) (Limit moment server limit) legal is refl adds refl (λ weight. refl) bounds))

pub sets_bound : (old : Booked) (h new : History) (first between now : Keeper) (server bound : ℕ) (woken woken_then : List ℕ) (from : ℕ)
    → record { history = h; view = first.view } ≡ old → from ≡ length h.log
    → between ≡ record first { view = limit_after first.view server bound }
    → now ≡ record between { view = with_offers between.view (grants_in new (drop from new.log)) } → Wakes (grants_in new (drop from new.log)) woken woken_then
    → SetsBound old (record { history = new; view = now.view }) server bound woken woken_then
sets_bound old h new first between now server bound woken woken_then from same long limits offers wakes =
    let at : from ≡ length old.history.log = long ∙ ap (λ (b : Booked). length b.history.log) same in
    record {
      view = ap (λ (k : Keeper). k.view) offers ∙ ap (λ (k : Keeper). with_offers k.view (grants_in new (drop from new.log))) limits
          ∙ ap (λ (b : Booked). with_offers (limit_after b.view server bound) (grants_in new (drop from new.log))) same
          ∙ ap (λ n. with_offers (limit_after old.view server bound) (grants_in new (drop n new.log))) at;
      wakes = subst (λ n. Wakes (grants_in new (drop n new.log)) woken woken_then) at wakes;
    }

-- a server serves no more than there are places
pub served_within : (h : History) (server places : ℕ) → IsLegal h → places ≡ h.setup.places
    → min (served server (state_of h).rows) places ≡ served server (state_of h).rows
served_within h server places legal same =
    let few = count_by-le-length (is_served_by server) (state_of h).rows in
    omega (arith, few, (within h legal).places, same)

-- a call that makes room changes nothing, or begins the next window
pub room_made : {T E : Type 0} (answer : Result (Option T) E) (old new : History) (R Full : Type 0) (A B : T → Type 0)
    → IfOk answer (λ found. IfNone found (R × (new ≡ old))) → IfOk answer (λ found. IfSome found (λ it. Full × A it × B it × (new ≡ next_window old)))
    → OnErr answer (new ≡ old) → (new ≡ old) ⊎ (new ≡ next_window old)
room_made (Ok None) old new R Full A B none some err = inl none.1
room_made (Ok (Some it)) old new R Full A B none some err = inr some.3
room_made (Err e) old new R Full A B none some err = inl err

pub roomy_book : (board : TableId) (terms : Terms) (setup : Setup) (old new : History) (keeper : Keeper) → IsKeptBook board terms setup old keeper
    → (new ≡ old) ⊎ (new ≡ next_window old) → IsKeptBook board terms setup new keeper
roomy_book board terms setup old new keeper is (inl same) = subst (λ h. IsKeptBook board terms setup h keeper) (sym same) is
roomy_book board terms setup old new keeper is (inr next) = subst (λ h. IsKeptBook board terms setup h keeper) (sym next) (record {
  named = is.named;
  of_terms = is.of_terms;
  of_setup = is.of_setup;
  book = rolled_book old keeper.view is.book;
})
