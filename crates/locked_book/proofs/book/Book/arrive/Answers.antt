use Rattle.std.proofs.Common.{pos, ◌+ℤ◌, drop, length, refl, ap, sym, ◌∙◌, subst, arith}
use Rattle.log_entries.specs.declared.entry.Entry.TheVariants.{Arrive}
use Rattle.log_entries.specs.Histories.{effective}
use Rattle.locked_book.specs.Books.{IsOwing}
use Rattle.locked_book.proofs.Events.{plain_owes, kept_again, carried, arrival_place}
use Rattle.std.proofs.lemmas.Grind.{common_steps}
use Rattle.locked_book.proofs.book.Book.arrive.Goals as goal

pub offer_from-requires-clause-owing : goal.offer_from-requires-clause-owing
offer_from-requires-clause-owing g c =
    subst (λ n. IsOwing c.arrive.new.self c.self.inside.keeping.view (drop n c.arrive.new.self.log))
    (sym (c.len-from.ensures ∙ ap length c.log.ensures.entries))
    (plain_owes c.self.inside.core c.arrive.new.self c.self.inside.keeping.view
    (Arrive (effective c.self.inside.core c.args.moment)
    (record {
      ticket = c.in_ok-it.it.ticket;
      class = c.args.wanted.class;
      due = pos (effective c.self.inside.core c.args.moment) +ℤ c.args.wanted.offset;
      pin = c.args.wanted.pin;
      place = c.in_ok-it.it.place;
    })) c.log.ensures.legal c.self.invariant.book refl c.in_ok-it.ensures.ok)

pub invariant_of-self-2 : goal.invariant_of-self-2
invariant_of-self-2 g c =
    kept_again g.N.BoardName.board g.N.BoardName.terms g.N.DeskName.setup c.self.inside.core c.arrive.new.self c.self.inside.keeping c.offer_from.new.keeping
    (drop c.len-from.result c.arrive.new.self.log)
    (subst (λ n. IsOwing c.arrive.new.self c.self.inside.keeping.view (drop n c.arrive.new.self.log))
    (sym (c.len-from.ensures ∙ ap length c.log.ensures.entries))
    (plain_owes c.self.inside.core c.arrive.new.self c.self.inside.keeping.view
    (Arrive (effective c.self.inside.core c.args.moment)
    (record {
      ticket = c.in_ok-it.it.ticket;
      class = c.args.wanted.class;
      due = pos (effective c.self.inside.core c.args.moment) +ℤ c.args.wanted.offset;
      pin = c.args.wanted.pin;
      place = c.in_ok-it.it.place;
    })) c.log.ensures.legal c.self.invariant.book refl c.in_ok-it.ensures.ok))
    c.self.invariant.named c.self.invariant.of_terms (c.in_ok-it.ensures.ok.setup ∙ c.self.invariant.of_setup) c.offer_from.ensures.offered

pub returns-clause-carried : goal.returns-clause-carried
returns-clause-carried g c =
    carried c.args.self.now c.self.inside.core c.arrive.new.self c.self.inside.keeping c.offer_from.new.keeping c.args.woken.now c.offer_from.new.woken
    c.len-from.result c.self.view_is
    (c.len-from.ensures ∙ ap length c.log.ensures.entries) c.offer_from.ensures.offered c.offer_from.ensures.woken

pub returns-clause-place : goal.returns-clause-place
returns-clause-place g c =
    arrival_place g.N.BoardName.board g.N.BoardName.terms g.N.DeskName.setup c.self.inside.core c.arrive.new.self c.self.inside.keeping
    (effective c.self.inside.core c.args.moment)
    (record {
      ticket = c.in_ok-it.it.ticket;
      class = c.args.wanted.class;
      due = pos (effective c.self.inside.core c.args.moment) +ℤ c.args.wanted.offset;
      pin = c.args.wanted.pin;
      place = c.in_ok-it.it.place;
    }) c.log.ensures.legal c.self.invariant
    c.in_ok-it.ensures.ok

pub offer_from-requires-clause-from : goal.offer_from-requires-clause-from
offer_from-requires-clause-from g c = grind (arith, common_steps)

pub returns-in_err-it-clause-err : goal.returns-in_err-it-clause-err
returns-in_err-it-clause-err g c = grind (arith, common_steps)

pub returns-clause-ok : goal.returns-clause-ok
returns-clause-ok g c = grind (arith, common_steps)
