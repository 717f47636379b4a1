use Rattle.std.proofs.Common.{ap, sym, ◌∙◌, subst}
use Rattle.log_entries.specs.Histories.{History}
use Rattle.grant_board.specs.Views.{KeeperView}
use Rattle.grant_board.specs.KeeperCalls.{new_keeper}
use Rattle.locked_book.specs.Books.{terms_for, IsBook}
use Rattle.locked_book.proofs.Events.{first_book}
use Rattle.locked_book.specs.KeptBooks.{IsKeptBook}
use Rattle.locked_book.proofs.book.Book.new.Goals as goal

pub invariant_of-result : goal.invariant_of-result
invariant_of-result g c =
    subst (λ h. IsKeptBook g.N.BoardName.board g.N.BoardName.terms g.N.DeskName.setup h c.new-2.result) (sym c.new.ensures)
    (subst (IsKeptBook g.N.BoardName.board g.N.BoardName.terms g.N.DeskName.setup c.args.core) (sym c.new-2.ensures) (record {
      named = c.requires.board;
      of_terms = ap (λ (v : KeeperView). v.terms) c.requires.seat;
      of_setup = sym c.requires.setup;
      book = subst (λ (v : KeeperView). IsBook c.args.core v) (sym (c.requires.seat ∙ ap new_keeper c.requires.terms))
          (subst (λ (h : History). IsBook h (new_keeper (terms_for c.args.core.setup))) (sym c.requires.first) (first_book c.args.core.setup));
    }))
