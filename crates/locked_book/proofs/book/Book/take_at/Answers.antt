use Rattle.std.proofs.Common.{drop, length, ap, sym, ◌∙◌, subst, arith}
use Rattle.grant_board.specs.Views.{KeeperView}
use Rattle.log_entries.specs.Histories.{effective}
use Rattle.dispatch_state.specs.Histories.{HasEntryRoom}
use Rattle.locked_book.specs.Books.{IsOwing}
use Rattle.locked_book.specs.Calls.{Booked, TakesBack}
use Rattle.locked_book.proofs.Events.{kept_again}
use Rattle.locked_book.proofs.Ends.{acceptable, end_owes, takes_back}
use Rattle.std.proofs.lemmas.Grind.{common_steps}
use Rattle.locked_book.proofs.book.Book.take_at.Goals as goal

pub note_end-requires : goal.note_end-requires
note_end-requires g c = acceptable c.self.inside.core c.self.inside.keeping.view c.collect.new.self.view c.args.place c.in_ok-back.back c.log.ensures.legal
    c.self.invariant.book c.in_ok-back.ensures.some (subst (λ (b : Booked). HasEntryRoom b.history) (sym c.self.view_is) c.requires.room)

pub offer_from-requires-clause-owing : goal.offer_from-requires-clause-owing
offer_from-requires-clause-owing g c =
    subst (λ n. IsOwing c.note_end.new.core c.collect.new.self.view (drop n c.note_end.new.core.log))
    (sym (c.len-from.ensures ∙ ap length c.log.ensures.entries))
    (end_owes c.self.inside.core c.note_end.new.core c.self.inside.keeping.view c.collect.new.self.view c.args.place
    (effective c.self.inside.core c.args.moment) c.in_ok-back.back c.log.ensures.legal c.self.invariant.book c.in_ok-back.ensures.some c.note_end.ensures)

pub invariant_of-self-2 : goal.invariant_of-self-2
invariant_of-self-2 g c =
    kept_again g.N.BoardName.board g.N.BoardName.terms g.N.DeskName.setup c.self.inside.core c.note_end.new.core c.collect.new.self c.offer_from.new.keeping
    (drop c.len-from.result c.note_end.new.core.log)
    (subst (λ n. IsOwing c.note_end.new.core c.collect.new.self.view (drop n c.note_end.new.core.log))
    (sym (c.len-from.ensures ∙ ap length c.log.ensures.entries))
    (end_owes c.self.inside.core c.note_end.new.core c.self.inside.keeping.view c.collect.new.self.view c.args.place
    (effective c.self.inside.core c.args.moment) c.in_ok-back.back c.log.ensures.legal c.self.invariant.book
    c.in_ok-back.ensures.some c.note_end.ensures))
    (c.in_ok-back.ensures.board ∙ c.self.invariant.named) (ap (λ (v : KeeperView). v.terms) c.in_ok-back.ensures.some.after
    ∙ c.self.invariant.of_terms) (c.note_end.ensures.setup ∙ c.self.invariant.of_setup) c.offer_from.ensures.offered

pub returns-clause-some : goal.returns-clause-some
returns-clause-some g c =
    subst (λ (b : Booked). TakesBack c.args.self.now (record { history = c.note_end.new.core; view = c.offer_from.new.keeping.view }) c.args.place
    (effective b.history c.args.moment) c.in_ok-back.back c.args.woken.now c.offer_from.new.woken) c.self.view_is
    (takes_back c.args.self.now c.self.inside.core c.note_end.new.core c.self.inside.keeping c.collect.new.self c.offer_from.new.keeping c.args.place
    (effective c.self.inside.core c.args.moment) c.in_ok-back.back c.args.woken.now
    c.offer_from.new.woken c.len-from.result c.self.view_is (c.len-from.ensures
    ∙ ap length c.log.ensures.entries) c.in_ok-back.ensures.some c.note_end.ensures c.offer_from.ensures.offered c.offer_from.ensures.woken)

pub offer_from-requires-clause-from : goal.offer_from-requires-clause-from
offer_from-requires-clause-from g c = grind (arith, common_steps)
