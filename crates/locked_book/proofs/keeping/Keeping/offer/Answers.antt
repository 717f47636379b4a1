use Rattle.std.proofs.Common.{◌≡◌, ◌<◌, ap, sym, subst, rules}
use Rattle.grant_board.specs.Views.{KeeperView, count_at}
use Rattle.grant_board.specs.KeeperCalls.{Keeper}
use Rattle.locked_book.specs.Busy.{SetIsKept}
use Rattle.locked_book.proofs.Busying.{kept_offer}
use Rattle.locked_book.proofs.keeping.Keeping.offer.Goals as goal

pub invariant_of-self : goal.invariant_of-self
invariant_of-self c =
    subst (λ (v : KeeperView). SetIsKept v c.insert.new.self c.self.inside.blocks) (sym (ap (λ (k : Keeper). k.view) c.offer.ensures.offered))
    (kept_offer c.self.inside.seat.view c.self.inside.out c.insert.new.self c.self.inside.blocks c.args.place c.args.told.0 c.args.told.1 c.self.invariant
    (subst (λ (k : Keeper). c.args.place < k.view.terms.places) (sym c.self.view_is) c.requires.in_range)
    (subst (λ (k : Keeper). count_at c.args.place k.view.out ≡ 0) (sym c.self.view_is) c.requires.free) c.insert.ensures)

pub returns-clause-woken : goal.returns-clause-woken
returns-clause-woken c = search rules
