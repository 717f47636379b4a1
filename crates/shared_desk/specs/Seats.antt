-- What a thread doesn't change of the seat that is lent to it.
use Rattle.std.specs.Prelude.{◌≡◌}
use Rattle.grant_board.specs.RelayCalls.{Relay}

-- a seat of the same board and terms, which is the first one or not, as before, and has split off
-- and joined as many others
pub record IsSameSeat (old new : Relay) : Type 0 where
  pub board : new.board ≡ old.board
  pub terms : new.view.terms ≡ old.view.terms
  pub first : new.view.first ≡ old.view.first
  pub split : new.view.split ≡ old.view.split
  pub joined : new.view.joined ≡ old.view.joined
