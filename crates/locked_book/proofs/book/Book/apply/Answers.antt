use Rattle.std.proofs.Common.{drop, length, ap, sym, ◌∙◌, subst, arith}
use Rattle.dispatch_core.specs.Occurrences.{entry_of}
use Rattle.locked_book.specs.Books.{IsOwing}
use Rattle.locked_book.proofs.Events.{plain_entry, plain_owes, kept_again, carried}
use Rattle.std.proofs.lemmas.Grind.{common_steps}
use Rattle.locked_book.proofs.book.Book.apply.Goals as goal

pub offer_from-requires-clause-owing : goal.offer_from-requires-clause-owing
offer_from-requires-clause-owing g c =
    subst (λ n. IsOwing c.apply.new.self c.self.inside.keeping.view (drop n c.apply.new.self.log)) (sym (c.len-from.ensures ∙ ap length c.log.ensures.entries))
    (plain_owes c.self.inside.core c.apply.new.self c.self.inside.keeping.view
    (entry_of c.self.inside.core c.args.event) c.log.ensures.legal c.self.invariant.book
    (plain_entry c.self.inside.core c.args.event c.requires.plain) c.in_ok-apply.ensures.ok)

pub invariant_of-self-2 : goal.invariant_of-self-2
invariant_of-self-2 g c =
    kept_again g.N.BoardName.board g.N.BoardName.terms g.N.DeskName.setup c.self.inside.core c.apply.new.self c.self.inside.keeping c.offer_from.new.keeping
    (drop c.len-from.result c.apply.new.self.log)
    (subst (λ n. IsOwing c.apply.new.self c.self.inside.keeping.view (drop n c.apply.new.self.log)) (sym (c.len-from.ensures ∙ ap length c.log.ensures.entries))
    (plain_owes c.self.inside.core c.apply.new.self c.self.inside.keeping.view
    (entry_of c.self.inside.core c.args.event) c.log.ensures.legal c.self.invariant.book
    (plain_entry c.self.inside.core c.args.event c.requires.plain) c.in_ok-apply.ensures.ok))
    c.self.invariant.named c.self.invariant.of_terms (c.in_ok-apply.ensures.ok.setup ∙ c.self.invariant.of_setup) c.offer_from.ensures.offered

pub returns-clause-carried : goal.returns-clause-carried
returns-clause-carried g c =
    carried c.args.self.now c.self.inside.core c.apply.new.self c.self.inside.keeping c.offer_from.new.keeping c.args.woken.now c.offer_from.new.woken
    c.len-from.result c.self.view_is
    (c.len-from.ensures ∙ ap length c.log.ensures.entries) c.offer_from.ensures.offered c.offer_from.ensures.woken

pub offer_from-requires-clause-from : goal.offer_from-requires-clause-from
offer_from-requires-clause-from g c = grind (arith, common_steps)

pub returns-in_err-apply-clause-err : goal.returns-in_err-apply-clause-err
returns-in_err-apply-clause-err g c = grind (arith, common_steps)

pub returns-clause-ok : goal.returns-clause-ok
returns-clause-ok g c = grind (arith, common_steps)
