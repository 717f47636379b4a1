-- Events that a book makes: what they owe, and that it is paid.
use Rattle.std.proofs.Common.{◌≡◌, ◌+◌, ◌<◌, ℕ, zero, suc, ◌==◌, max, cond, replicate, Bool, true, false, List, []}
use Rattle.std.proofs.Common.{◌∷◌, ◌++◌, All, IsTrue, Option, None, Some, map, drop, length, refl, ap, sym, ◌∙◌, subst, arith}
use Rattle.std.specs.List.{cons_option}
use Rattle.std.proofs.lemmas.List.{append_assoc, append-nil}
use Rattle.std.proofs.Math.Seq.{drop-append_seam}
use Rattle.std.proofs.lemmas.List.Elements.{All-head, All-tail}
use Rattle.base_verdict.specs.declared.Verdict.{Verdict}
use Rattle.grant_board.specs.Views.{first_mark, mark_of, Grant, grant, KeeperView}
use Rattle.grant_board.specs.KeeperCalls.{Keeper, new_keeper, offer_after}
use Rattle.base_lists.specs.Weights.{total}
use Rattle.base_lists.proofs.Never.{false_true}
use Rattle.log_entries.specs.declared.allowance.Intake.TheVariants.{Open}
use Rattle.log_entries.specs.declared.setup.ServerSet.{ServerSet}
use Rattle.log_entries.specs.declared.entry.Entry.{Entry}
use Rattle.log_entries.specs.declared.entry.Entry.TheVariants.{Arrive, Done, Fail, Abort, Tick, Check, Limit}
use Rattle.log_entries.specs.declared.setup.Setup.{Setup}
use Rattle.log_entries.specs.Histories.{History, first_window, state_of, begins_event}
use Rattle.log_entries.specs.Legal.{IsLegal, AddsEvent}
use Rattle.log_entries.specs.States.{State, after, after_all, opening_limits}
use Rattle.locked_book.specs.Books.{mark_by, terms_for, IsBook, IsOwing}
use Rattle.locked_book.specs.Calls.{Booked, added, grants_in, with_offers, Wakes, CarriesOut}
use Rattle.locked_book.specs.Outstanding.{outstanding_from, place_in, grants_of}
use Rattle.locked_book.specs.Verdicts.{verdict_in, verdicts, ending_in}
use Rattle.locked_book.proofs.Owing.{owes, paid, owes_rest, offered, state_on}
use Rattle.locked_book.proofs.Turning.{back}
use Rattle.dispatch_core.specs.declared.event.Event.{Event}
use Rattle.dispatch_core.specs.declared.event.Event.TheVariants as events
use Rattle.dispatch_core.specs.Occurrences.{entry_of}
use Rattle.locked_book.specs.KeptBooks.{IsKeptBook}
use Rattle.locked_book.specs.Ends as ends
use Rattle.atomic_table.specs.Seated.{TableId}
use Rattle.std.proofs.lemmas.Option.{slice_get_within}
use Rattle.log_entries.specs.declared.entry.Arrival.{Arrival}
use Rattle.log_entries.proofs.Within.{within}
use Rattle.grant_board.specs.Views.{Terms}

-- once all is offered nothing is owed
pub all_paid : (h : History) (view : KeeperView) (es : List Entry) → IsOwing h view es → IsBook h (with_offers view (grants_in h es))
all_paid h view [] is =
    let whole : with_offers view [] ≡ view = ap (λ l. record view { out = l; offers = view.offers ++ [] }) (append-nil view.out)
    ∙ ap (λ l. record view { offers = l }) (append-nil view.offers) in
    subst (IsBook h) (sym whole) (paid h view is)
all_paid h view (e ∷ es) is = by_verdict (verdict_in e) refl (λ v owing. all_paid h v es owing)
  where
    by_verdict : (o : Option (ℕ × Verdict)) → verdict_in e ≡ o → ((v : KeeperView) → IsOwing h v es → IsBook h (with_offers v (grants_in h es)))
        → IsBook h (with_offers view (grants_in h (e ∷ es)))
    by_verdict None told rest =
        let same : grants_in h (e ∷ es) ≡ grants_in h es = ap (λ (o : Option (ℕ × Verdict)). grants_of (state_of h).rows (cons_option o (verdicts es))) told in
        subst (λ gs. IsBook h (with_offers view gs)) (sym same) (rest view (owes_rest h view e es is told))
    by_verdict (Some it) told rest =
        let g = grant (place_in it.0 (state_of h).rows) it.0 it.1 in
        let same : grants_in h (e ∷ es) ≡ g ∷ grants_in h es =
        ap (λ (o : Option (ℕ × Verdict)). grants_of (state_of h).rows (cons_option o (verdicts es))) told in
        let one : with_offers (offer_after view g) (grants_in h es) ≡ with_offers view (g ∷ grants_in h es) =
        ap (λ l. record view { out = l; offers = (view.offers ++ g ∷ []) ++ grants_in h es }) (append_assoc view.out (g ∷ []) (grants_in h es))
        ∙ ap (λ l. record view { out = view.out ++ g ∷ grants_in h es; offers = l }) (append_assoc view.offers (g ∷ []) (grants_in h es)) in
        subst (IsBook h) (one ∙ ap (with_offers view) (sym same))
        (rest (offer_after view g) (offered h view e es it (place_in it.0 (state_of h).rows) is told refl))

-- entries that are no events set no limit
pub limits_kept : (setup : Setup) (s : State) (es : List Entry) → All (λ e. begins_event e ≡ false) es → (after_all setup s es).limits ≡ s.limits
limits_kept setup s [] none = refl
limits_kept setup s (e ∷ es) none = limits_kept setup (after setup s e) es (All-tail (λ x. begins_event x ≡ false) e es none)
    ∙ by_entry e (All-head (λ x. begins_event x ≡ false) e es none)
  where
    by_entry : (x : Entry) → begins_event x ≡ false → (after setup s x).limits ≡ s.limits
    by_entry (Limit m v k) is = cc
    by_entry x is = refl

-- what a call added
pub added_is : (h new : History) (e : Entry) (adds : AddsEvent h new e) → added h new ≡ e ∷ adds.brought
added_is h new e adds = ap (drop (length h.log)) adds.log ∙ drop-append_seam h.log (e ∷ adds.brought)

-- an event that sets no limit and ends nothing
abbrev pub is_plain_entry : Entry → Bool
is_plain_entry (Arrive moment arrival) = true
is_plain_entry (Abort moment ticket) = true
is_plain_entry (Tick moment) = true
is_plain_entry (Check moment server ok) = true
is_plain_entry entry = false

-- what such an event of a dispatcher becomes is one
pub plain_entry : (h : History) (event : Event) → IsTrue (ends.neither_ends_nor_limits event) → is_plain_entry (entry_of h event) ≡ true
plain_entry h (events.Done moment ticket) plain = false_true plain
plain_entry h (events.Fail moment ticket) plain = false_true plain
plain_entry h (events.Abort moment ticket) plain = refl
plain_entry h (events.Tick moment) plain = refl
plain_entry h (events.Check moment server answered) plain = refl
plain_entry h (events.Limit moment server limit) plain = false_true plain

pub sets_none : (h new : History) (e : Entry) (adds : AddsEvent h new e) → (after h.setup (state_of h) e).limits ≡ (state_of h).limits
    → (state_of new).limits ≡ (state_of h).limits
sets_none h new e adds same = ap (λ (s : State). s.limits) (state_on h new e adds)
    ∙ limits_kept h.setup (after h.setup (state_of h) e) adds.brought adds.one_event ∙ same

pub plain_owes : (h new : History) (view : KeeperView) (e : Entry) → IsLegal h → IsBook h view → is_plain_entry e ≡ true → AddsEvent h new e
    → IsOwing new view (added h new)
plain_owes h new view e legal is plain adds =
    subst (IsOwing new view) (sym (added_is h new e adds))
    (owes h new view view.bounds e legal is (by_event e plain) adds (by_ending e plain) (λ weight. by_back weight e plain)
    (is.bounds ∙ ap (map mark_by) (sym (sets_none h new e adds (by_limits e plain)))))
  where
    by_event : (x : Entry) → is_plain_entry x ≡ true → begins_event x ≡ true
    by_event (Arrive m a) p = refl
    by_event (Abort m t) p = refl
    by_event (Tick m) p = refl
    by_event (Check m v ok) p = refl
    by_event x p = false_true p

    by_ending : (x : Entry) → is_plain_entry x ≡ true → ending_in x ≡ None
    by_ending (Done m t) p = false_true p
    by_ending (Fail m t) p = false_true p
    by_ending x p = refl

    by_back : (weight : Grant → ℕ) (x : Entry) → is_plain_entry x ≡ true → back weight x (state_of h).rows ≡ 0
    by_back weight (Done m t) p = false_true p
    by_back weight (Fail m t) p = false_true p
    by_back weight x p = refl

    by_limits : (x : Entry) → is_plain_entry x ≡ true → (after h.setup (state_of h) x).limits ≡ (state_of h).limits
    by_limits (Limit m v k) p = false_true p
    by_limits x p = refl

-- a book that pays is one again
module _ (board : TableId) (terms : Terms) (setup : Setup) (h new : History) (first now : Keeper) (es : List Entry) where
  pub kept_again : IsOwing new first.view es → first.board ≡ board → first.view.terms ≡ terms → new.setup ≡ setup
      → now ≡ record first { view = with_offers first.view (grants_in new es) } → IsKeptBook board terms setup new now
  kept_again owing named of_terms of_setup offers = record {
    named = ap (λ (k : Keeper). k.board) offers ∙ named;
    of_terms = ap (λ (k : Keeper). k.view.terms) offers ∙ of_terms;
    of_setup = of_setup;
    book = subst (λ (k : Keeper). IsBook new k.view) (sym offers) (all_paid new first.view es owing);
  }

pub carried : (old : Booked) (h new : History) (first now : Keeper) (woken woken_then : List ℕ) (from : ℕ) → record { history = h; view = first.view } ≡ old
    → from ≡ length h.log
    → now ≡ record first { view = with_offers first.view (grants_in new (drop from new.log)) } → Wakes (grants_in new (drop from new.log)) woken woken_then
    → CarriesOut old (record { history = new; view = now.view }) woken woken_then
carried old h new first now woken woken_then from same long offers wakes =
    let at : from ≡ length old.history.log = long ∙ ap (λ (b : Booked). length b.history.log) same in
    record {
      view = ap (λ (k : Keeper). k.view) offers ∙ ap (λ (v : KeeperView). with_offers v (grants_in new (drop from new.log))) (ap (λ (b : Booked). b.view) same)
          ∙ ap (λ n. with_offers old.view (grants_in new (drop n new.log))) at;
      wakes = subst (λ n. Wakes (grants_in new (drop n new.log)) woken woken_then) at wakes;
    }

-- a first book
opening_marks : (servers : List ServerSet) → map first_mark (map (λ (it : ServerSet). it.limit) servers) ≡ map mark_by (opening_limits servers)
opening_marks [] = refl
opening_marks (it ∷ servers) = ap (λ n. n ∷ map first_mark (map (λ (x : ServerSet). x.limit) servers)) (own it.limit)
    ∙ ap (λ l. mark_by (record { limit = Open it.limit; served = 0 }) ∷ l) (opening_marks servers)
  where
    own : (limit : ℕ) → first_mark limit ≡ mark_by (record { limit = Open limit; served = 0 })
    own limit = by_test (limit == 0)
      where
        by_test : (b : Bool) → cond b 0 (limit + 1) ≡ mark_of (cond b None (Some (max limit 0)))
        by_test true = refl
        by_test false = omega arith

nothing_out : (weight : Grant → ℕ) (i n : ℕ) → total weight (outstanding_from i (replicate n None)) ≡ 0
nothing_out weight i zero = refl
nothing_out weight i (suc n) = nothing_out weight (suc i) n

pub first_book : (setup : Setup) → IsBook (first_window setup []) (new_keeper (terms_for setup))
first_book setup = record {
  terms = refl;
  bounds = opening_marks setup.servers;
  out = λ weight. sym (nothing_out weight 0 setup.places);
  offers = ([], refl);
  returns = ([], refl);
}

-- an arrival's place is one of the board's
pub arrival_place : (board : TableId) (terms : Terms) (setup : Setup) (h new : History) (keeper : Keeper) (m : ℕ) (a : Arrival) → IsLegal h → IsKeptBook board terms setup h keeper
    → AddsEvent h new (Arrive m a) → a.place < terms.places
arrival_place board terms setup h new keeper m a legal is adds =
    let low : a.place < length (state_of h).rows = slice_get_within (state_of h).rows a.place None adds.lawful.judged.0.1.vacant in
    let same : h.setup.places ≡ terms.places = ap (λ (t : Terms). t.places) (sym is.book.terms ∙ is.of_terms) in
    omega (arith, low, (within h legal).places, same)
