use Rattle.std.proofs.Common.{◌≡◌}
use Rattle.grant_board.specs.Views.{count_at}
use Rattle.grant_board.specs.KeeperCalls.{Keeper}
use Rattle.grant_board.specs.RelayCalls.{Relay}
use Rattle.test_board.proofs.boards.threads.two_threads_on_one_place.Given as goal

-- the seats are of the same board and terms, and nothing is out
pub record Stays (keeper keeper' : Keeper) (first first' second second' : Relay) : Type 0 where
  pub boards : (keeper'.board ≡ keeper.board) × (first'.board ≡ first.board) × (second'.board ≡ second.board)
  pub terms : (keeper'.view.terms ≡ keeper.view.terms) × (first'.view.terms ≡ first.view.terms) × (second'.view.terms ≡ second.view.terms)
  pub counts : (first'.view.first ≡ first.view.first) × (first'.view.split ≡ first.view.split) × (first'.view.joined ≡ first.view.joined)
  pub empty : count_at 0 keeper'.view.out ≡ 0

abbrev pub invariant-loop-ticket : goal.invariant-loop-ticket
invariant-loop-ticket g l = Stays l.initial.keeper l.keeper l.initial.first l.first l.initial.second l.second
