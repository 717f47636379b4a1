use Rattle.std.proofs.Common.{ap, ◌∙◌}
use Rattle.grant_board.specs.Views.{count_at}
use Rattle.grant_board.proofs.Grants.{without-none}
use Rattle.test_board.proofs.boards.threads.two_threads_on_one_place.Goals as goal

-- what came back is out no more
pub loop-ticket-preserved : goal.loop-ticket-preserved
loop-ticket-preserved g c =
    let before = c.loop-ticket.invariant in
    let after = c.in-Some.ensures.some.after in
    let one = c.race-one.ensures.one in
    let two = c.race-one.ensures.two in
    record {
      boards = (c.collect.ensures.board ∙ (ap (λ x. x.board) c.offer.ensures.offered ∙ before.boards.0), one.0 ∙ before.boards.1, two.0 ∙ before.boards.2);
      terms = (ap (λ k. k.terms) after ∙ (ap (λ x. x.view.terms) c.offer.ensures.offered ∙ before.terms.0), one.1 ∙ before.terms.1, two.1 ∙ before.terms.2);
      counts = (one.2 ∙ before.counts.0, one.3 ∙ before.counts.1, one.4 ∙ before.counts.2);
      empty = ap (λ k. count_at 0 k.out) after ∙ without-none 0 c.offer.new.self.view.out;
    }
