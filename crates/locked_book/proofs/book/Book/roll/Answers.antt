use Rattle.std.proofs.Common.{sym, subst}
use Rattle.locked_book.specs.KeptBooks.{IsKeptBook}
use Rattle.locked_book.proofs.Ends.{rolled_book}
use Rattle.locked_book.proofs.book.Book.roll.Goals as goal

pub invariant_of-self : goal.invariant_of-self
invariant_of-self g c =
    subst (λ h. IsKeptBook g.N.BoardName.board g.N.BoardName.terms g.N.DeskName.setup h c.self.inside.keeping) (sym c.roll.ensures)
    (record {
      named = c.self.invariant.named;
      of_terms = c.self.invariant.of_terms;
      of_setup = c.self.invariant.of_setup;
      book = rolled_book c.self.inside.core c.self.inside.keeping.view c.self.invariant.book;
    })
