use Rattle.std.proofs.Common.{◌≡◌, ℕ, ◌+◌, ◌<◌, List, [], ◌∷◌, None, Some, drop, length, get_or, ap, sym, ◌∙◌, subst, arith}
use Rattle.std.proofs.lemmas.List.{drop_all}
use Rattle.base_lists.proofs.Never.{none_some}
use Rattle.log_entries.specs.declared.entry.Entry.{Entry}
use Rattle.log_entries.specs.Histories.{History, state_of}
use Rattle.log_entries.specs.Rows.{row_of}
use Rattle.log_entries.proofs.RowLemmas.{row_of_at}
use Rattle.base_verdict.specs.declared.Verdict.{Verdict}
use Rattle.grant_board.specs.Views.{KeeperView}
use Rattle.grant_board.specs.KeeperCalls.{Keeper}
use Rattle.log_entries.specs.Legal.{IsLegal}
use Rattle.dispatch_state.specs.Histories.{IsTicketAt}
use Rattle.locked_book.specs.Verdicts.{verdict_in}
use Rattle.locked_book.specs.Outstanding.{place_in}
use Rattle.locked_book.proofs.Owing.{IsOwedAt, MayOffer, owed_at, may_offer, own_tickets}
use Rattle.locked_book.proofs.Weighing.{place_at}
use Rattle.locked_book.proofs.Paying.{IsPaying, next_entry, begins, passes, pays, paid_view, paid_woken}
use Rattle.locked_book.proofs.offering.offer_from.Given as given
use Rattle.locked_book.proofs.offering.offer_from.Goals as goal

pub loop-number-init : goal.loop-number-init
loop-number-init g c = begins c.args.core.now c.args.keeping.now c.args.woken.now (drop c.args.from c.args.core.now.log) c.requires.owing

-- the entries from this one on
at_entry : (h : History) (first now : Keeper) (before places : List ℕ) (all entries : List Entry) (j : ℕ) (e : Entry) → entries ≡ h.log
    → IsPaying h first before all now places (drop j h.log) → j < length entries → e ≡ get_or entries j e
    → IsPaying h first before all now places (e ∷ drop (j + 1) h.log)
at_entry h first now before places all entries j e same is low at =
    subst (IsPaying h first before all now places) (next_entry h.log j e (subst (λ l. j < length l) same low) (ap (λ l. get_or l j e) (sym same) ∙ sym at)) is

-- the verdict is owed at the place that was found
found_place : (h : History) (view : KeeperView) (place : ℕ) (it : ℕ × Verdict) → IsLegal h → IsTicketAt (state_of h).rows (record { place = place; ticket = it.0 })
    → place_in it.0 (state_of h).rows ≡ place
found_place h view place it legal at = place_at (state_of h).rows it.0 place at.0 (own_tickets h legal) at.1 at.2

found_may : (h : History) (first now : Keeper) (before places : List ℕ) (all rest : List Entry) (e : Entry) (it : ℕ × Verdict) (place : ℕ) → IsLegal h
    → IsPaying h first before all now places (e ∷ rest) → verdict_in e ≡ Some it
    → IsTicketAt (state_of h).rows (record { place = place; ticket = it.0 }) → MayOffer now.view place it.0 it.1
found_may h first now before places all rest e it place legal is told at =
    may_offer h now.view (e ∷ rest) place it.0 it.1 legal is.owing
    (subst (λ p. IsOwedAt h now.view p it.0 it.1) (found_place h now.view place it legal at) (owed_at h now.view e rest it legal is.owing told))

-- a verdict that is owed has its row
not_missing : (h : History) (first now : Keeper) (before places : List ℕ) (all rest : List Entry) (e : Entry) (it : ℕ × Verdict) → IsLegal h
    → IsPaying h first before all now places (e ∷ rest) → verdict_in e ≡ Some it → row_of it.0 (state_of h).rows ≡ None → ⊥
not_missing h first now before places all rest e it legal is told none =
    let owed = owed_at h now.view e rest it legal is.owing told in
    none_some (sym none ∙ row_of_at (state_of h).rows it.0 (place_in it.0 (state_of h).rows) owed.row (own_tickets h legal) owed.stands owed.named)

pub loop-number-preserved-in_default : goal.loop-number-preserved-in_default
loop-number-preserved-in_default g c =
    let e = c.index-entries-number.result in
    passes c.args.core.now c.args.keeping.now c.args.woken.now (drop c.args.from c.args.core.now.log) c.loop-number.keeping c.loop-number.woken e
    (drop (c.loop-number.number + 1) c.args.core.now.log)
    (at_entry c.args.core.now c.args.keeping.now c.loop-number.keeping c.args.woken.now c.loop-number.woken
    (drop c.args.from c.args.core.now.log) c.entries-entries.result.now c.loop-number.number e
    (c.entries-entries.ensures.entries ∙ c.log.ensures.entries) c.loop-number.invariant c.loop-number-test.true c.index-entries-number.is)
    (sym c.in_default.ensures)

pub unreachable-requires : goal.unreachable-requires
unreachable-requires g c =
    let e = c.index-entries-number.result in
    not_missing c.args.core.now c.args.keeping.now c.loop-number.keeping c.args.woken.now c.loop-number.woken (drop c.args.from c.args.core.now.log)
    (drop (c.loop-number.number + 1) c.args.core.now.log) e c.in-Some.told c.log.ensures.legal
    (at_entry c.args.core.now c.args.keeping.now c.loop-number.keeping c.args.woken.now c.loop-number.woken
    (drop c.args.from c.args.core.now.log) c.entries-entries.result.now c.loop-number.number e
    (c.entries-entries.ensures.entries ∙ c.log.ensures.entries) c.loop-number.invariant c.loop-number-test.true c.index-entries-number.is)
    (sym c.in-Some.ensures) c.in_default-place.ensures

pub offer-requires-clause-same_board : goal.offer-requires-clause-same_board
offer-requires-clause-same_board g c = c.loop-number.invariant.board ∙ c.requires.same_board

-- the four conditions
may : (g : given.Over) (c : goal.After-offer-arg-in-loop-number-1 g)
    → MayOffer c.loop-number.keeping.view c.in-Some-place.place c.in-Some.told.0 c.in-Some.told.1
may g c =
    let e = c.index-entries-number.result in
    found_may c.args.core.now c.args.keeping.now c.loop-number.keeping c.args.woken.now c.loop-number.woken (drop c.args.from c.args.core.now.log)
    (drop (c.loop-number.number + 1) c.args.core.now.log) e c.in-Some.told c.in-Some-place.place
    c.log.ensures.legal
    (at_entry c.args.core.now c.args.keeping.now c.loop-number.keeping c.args.woken.now c.loop-number.woken
    (drop c.args.from c.args.core.now.log) c.entries-entries.result.now c.loop-number.number e
    (c.entries-entries.ensures.entries ∙ c.log.ensures.entries) c.loop-number.invariant c.loop-number-test.true c.index-entries-number.is)
    (sym c.in-Some.ensures) c.in-Some-place.ensures

pub offer-requires-clause-in_range : goal.offer-requires-clause-in_range
offer-requires-clause-in_range g c = (may g c).in_range

pub offer-requires-clause-free : goal.offer-requires-clause-free
offer-requires-clause-free g c = (may g c).free

pub offer-requires-clause-ticket_fits : goal.offer-requires-clause-ticket_fits
offer-requires-clause-ticket_fits g c = (may g c).ticket_fits

pub offer-requires-clause-has_room : goal.offer-requires-clause-has_room
offer-requires-clause-has_room g c = (may g c).has_room

pub loop-number-preserved : goal.loop-number-preserved
loop-number-preserved g c =
    let e = c.index-entries-number.result in
    pays c.args.core.now c.args.keeping.now c.args.woken.now (drop c.args.from c.args.core.now.log) c.loop-number.keeping c.loop-number.woken e
    (drop (c.loop-number.number + 1) c.args.core.now.log)
    (at_entry c.args.core.now c.args.keeping.now c.loop-number.keeping c.args.woken.now c.loop-number.woken
    (drop c.args.from c.args.core.now.log) c.entries-entries.result.now c.loop-number.number e
    (c.entries-entries.ensures.entries ∙ c.log.ensures.entries) c.loop-number.invariant c.loop-number-test.true c.index-entries-number.is)
    c.in-Some.told c.in-Some-place.place c.offer.new.self c.offer.new.woken (sym c.in-Some.ensures)
    (found_place c.args.core.now c.loop-number.keeping.view c.in-Some-place.place c.in-Some.told c.log.ensures.legal c.in-Some-place.ensures)
    c.offer.ensures.offered c.offer.ensures.woken

-- all entries were gone through
over : (g : given.Over) (c : goal.After-loop-number g)
    → IsPaying c.args.core.now c.args.keeping.now c.args.woken.now (drop c.args.from c.args.core.now.log) c.loop-number.keeping c.loop-number.woken []
over g c =
    let same : length c.entries-entries.result.now ≡ length c.args.core.now.log = ap length (c.entries-entries.ensures.entries ∙ c.log.ensures.entries) in
    subst (IsPaying c.args.core.now c.args.keeping.now c.args.woken.now (drop c.args.from c.args.core.now.log) c.loop-number.keeping c.loop-number.woken)
    (drop_all c.loop-number.number c.args.core.now.log (omega (arith, same, c.loop-number-test.false))) c.loop-number.invariant

pub returns-clause-offered : goal.returns-clause-offered
returns-clause-offered g c = paid_view c.args.core.now c.args.keeping.now c.args.woken.now
    (drop c.args.from c.args.core.now.log) c.loop-number.keeping c.loop-number.woken (over g c)

pub returns-clause-woken : goal.returns-clause-woken
returns-clause-woken g c = paid_woken c.args.core.now c.args.keeping.now c.args.woken.now
    (drop c.args.from c.args.core.now.log) c.loop-number.keeping c.loop-number.woken (over g c)
