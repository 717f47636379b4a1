-- The first seat, which lends others to threads.
use Rattle.std.specs.Prelude.{◌≡◌, ℕ, ◌+◌, [], false}
use Rattle.grant_board.specs.RelayCalls.{Relay, new_relay}
use Rattle.grant_board.specs.Views.{Terms}

-- a seat of these terms that was split off and has done nothing
abbrev pub IsUnused : Terms → Relay → Type 0
IsUnused terms seat = seat.view ≡ new_relay terms false

-- the first seat, without a pass both times, which looked at no place in between: the number of
-- seats that it split off and hasn't joined was `out`, and is `out_now`
pub record IsLent (old new : Relay) (out out_now : ℕ) : Type 0 where
  pub board : new.board ≡ old.board
  pub terms : new.view.terms ≡ old.view.terms
  pub first : new.view.first ≡ old.view.first
  pub looks : new.view.looks ≡ old.view.looks
  pub idle : old.view.passes ≡ [] → new.view.passes ≡ []
  pub out_is : new.view.split + old.view.joined + out ≡ old.view.split + new.view.joined + out_now
