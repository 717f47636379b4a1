use Rattle.std.proofs.Common.{◌≡◌, ◌<◌, ◌≤◌}
use Rattle.grant_board.specs.Views.{count_of}
use Rattle.test_board.proofs.boards.threads.collect_all.Given as goal

abbrev pub invariant-loop : goal.invariant-loop
invariant-loop g l = (l.keeper.board ≡ l.initial.keeper.board) × (l.keeper.view.terms ≡ l.initial.keeper.view.terms) × (count_of 0 l.keeper.view.out ≤ 2)
    × (l.place < 4)
