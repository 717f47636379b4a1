use Rattle.std.proofs.Common.{◌≡◌, ℕ, drop, length, min, ap, sym, ◌∙◌, subst, arith}
use Rattle.grant_board.specs.KeeperCalls.{Keeper}
use Rattle.log_entries.specs.declared.allowance.Intake.{Intake}
use Rattle.log_entries.specs.Histories.{History, state_of, effective}
use Rattle.log_entries.specs.Legal.{IsLegal}
use Rattle.log_entries.specs.Rows.{served}
use Rattle.locked_book.specs.Books.{mark_by, IsOwing}
use Rattle.locked_book.specs.Calls.{Booked, SetsBound}
use Rattle.locked_book.proofs.Events.{kept_again}
use Rattle.locked_book.proofs.Ends.{may_limit, limit_owes, sets_bound, served_within}
use Rattle.std.proofs.lemmas.Grind.{common_steps}
use Rattle.locked_book.proofs.book.Book.limit.Goals as goal

-- what the server served
at_limit : (h : History) (server places result : ℕ) → IsLegal h → places ≡ h.setup.places → result ≡ min (served server (state_of h).rows) places
    → result ≡ served server (state_of h).rows
at_limit h server places result legal same is = is ∙ served_within h server places legal same

pub mark_by-requires : goal.mark_by-requires
mark_by-requires g c = omega (arith, c.min-served.ensures, c.places.ensures.few)

-- and the bound that it gets
bound_is : (h : History) (server : ℕ) (limit : Intake) (places count least bound : ℕ) → IsLegal h → places ≡ h.setup.places → count ≡ served server (state_of h).rows
    → least ≡ min count places → bound ≡ mark_by (record { limit = limit; served = least })
    → bound ≡ mark_by (record { limit = limit; served = served server (state_of h).rows })
bound_is h server limit places count least bound legal same counts is bounds = bounds
    ∙ ap (λ n. mark_by (record { limit = limit; served = n })) (at_limit h server places least legal same (is ∙ ap (λ n. min n places) counts))

pub limit-requires-2-clause-may_limit : goal.limit-requires-2-clause-may_limit
limit-requires-2-clause-may_limit g c =
    may_limit c.self.inside.core c.self.inside.keeping.view c.args.server c.args.limit c.mark_by.result c.self.invariant.book c.in_ok-limit.ensures.accepted
    (bound_is c.self.inside.core c.args.server c.args.limit c.places.result c.served.result c.min-served.result c.mark_by.result c.log.ensures.legal
    c.places.ensures.places c.served.ensures c.min-served.ensures c.mark_by.ensures)

pub offer_from-requires-clause-owing : goal.offer_from-requires-clause-owing
offer_from-requires-clause-owing g c =
    subst (λ n. IsOwing c.limit.new.self c.limit-2.new.self.view (drop n c.limit.new.self.log)) (sym (c.len-from.ensures ∙ ap length c.log.ensures.entries))
    (limit_owes c.self.inside.core c.limit.new.self c.self.inside.keeping.view c.limit-2.new.self.view
    (effective c.self.inside.core c.args.moment) c.args.server c.args.limit c.mark_by.result c.log.ensures.legal c.self.invariant.book
    c.in_ok-limit.ensures.ok
    (bound_is c.self.inside.core c.args.server c.args.limit c.places.result c.served.result c.min-served.result c.mark_by.result c.log.ensures.legal
    c.places.ensures.places c.served.ensures c.min-served.ensures c.mark_by.ensures)
    (ap (λ (k : Keeper). k.view) c.limit-2.ensures))

pub invariant_of-self-2 : goal.invariant_of-self-2
invariant_of-self-2 g c =
    kept_again g.N.BoardName.board g.N.BoardName.terms g.N.DeskName.setup c.self.inside.core c.limit.new.self c.limit-2.new.self c.offer_from.new.keeping
    (drop c.len-from.result c.limit.new.self.log)
    (subst (λ n. IsOwing c.limit.new.self c.limit-2.new.self.view (drop n c.limit.new.self.log)) (sym (c.len-from.ensures ∙ ap length c.log.ensures.entries))
    (limit_owes c.self.inside.core c.limit.new.self c.self.inside.keeping.view c.limit-2.new.self.view
    (effective c.self.inside.core c.args.moment) c.args.server c.args.limit c.mark_by.result c.log.ensures.legal c.self.invariant.book
    c.in_ok-limit.ensures.ok
    (bound_is c.self.inside.core c.args.server c.args.limit c.places.result c.served.result c.min-served.result c.mark_by.result c.log.ensures.legal
    c.places.ensures.places c.served.ensures c.min-served.ensures c.mark_by.ensures)
    (ap (λ (k : Keeper). k.view) c.limit-2.ensures)))
    (ap (λ (k : Keeper). k.board) c.limit-2.ensures ∙ c.self.invariant.named) (ap (λ (k : Keeper). k.view.terms) c.limit-2.ensures
    ∙ c.self.invariant.of_terms) (c.in_ok-limit.ensures.ok.setup ∙ c.self.invariant.of_setup) c.offer_from.ensures.offered

pub returns-clause-bound : goal.returns-clause-bound
returns-clause-bound g c =
    let bound = (bound_is c.self.inside.core c.args.server c.args.limit c.places.result c.served.result c.min-served.result c.mark_by.result
    c.log.ensures.legal c.places.ensures.places c.served.ensures c.min-served.ensures c.mark_by.ensures)
    ∙ ap (λ (b : Booked). mark_by (record { limit = c.args.limit; served = served c.args.server (state_of b.history).rows })) c.self.view_is in
    subst (λ n. SetsBound c.args.self.now (record {
      history = c.limit.new.self;
      view = c.offer_from.new.keeping.view;
    }) c.args.server n c.args.woken.now c.offer_from.new.woken) bound
    (sets_bound c.args.self.now c.self.inside.core c.limit.new.self c.self.inside.keeping c.limit-2.new.self c.offer_from.new.keeping c.args.server
    c.mark_by.result c.args.woken.now c.offer_from.new.woken c.len-from.result
    c.self.view_is (c.len-from.ensures ∙ ap length c.log.ensures.entries) c.limit-2.ensures c.offer_from.ensures.offered c.offer_from.ensures.woken)

pub offer_from-requires-clause-from : goal.offer_from-requires-clause-from
offer_from-requires-clause-from g c = grind (arith, common_steps)
