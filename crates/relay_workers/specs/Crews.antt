-- What the threads of a crew return, the seats that they leave, and the thread for its checks.
use Rattle.std.specs.Prelude.{◌≡◌, ◌⊎◌, ℕ, ◌+◌, List, [], ◌∷◌, ◌++◌, map, length, All, Option, Result, Ok, Err}
use Rattle.std.specs.List.{AllZip, flat_map}
use Rattle.grant_board.specs.RelayCalls.{Relay}
use Rattle.grant_board.specs.Views.{RelayView, Terms}
use Rattle.log_entries.specs.declared.setup.Setup.{Setup}
use Rattle.proxy_config.specs.declared.parts.Server.{Server}
use Rattle.relay_workers.specs.Checks.{HasEndedChecks}
use Rattle.relay_workers.specs.Gates.{Notice}
use Rattle.relay_workers.specs.Seats.{IsUnused}
use Rattle.relay_workers.specs.declared.finished.Finished.{Finished}
use Rattle.relay_workers.specs.Tallies.{no_clients, of_both}
use Rattle.relay_workers.specs.declared.stopping.Stopped.{Stopped}
use Rattle.relay_workers.specs.declared.stopping.Stopped.TheVariants.{NoMemory}
use Rattle.relay_workers.specs.declared.tally.Tally.{Tally}

-- the result of many threads: the sum, or why the first one stopped that did; no clients where there are none
abbrev pub of_all : List (Result Tally Stopped) → Result Tally Stopped
of_all [] = Ok no_clients
of_all (one ∷ others) = of_both one (of_all others)

module _ {C S G : Type 0} (Worked : Result Tally Stopped → Option (List (Notice C S)) → Option (List (Notice C S)) → Type 0)
    (notes : G → Option (List (Notice C S))) where
  -- how a member ends, and its gate then: with what a worker returned that began with its gate; or there was no memory for it or
  -- its thread, and its gate is as it was
  abbrev pub EndsAs : G → Result Tally Stopped × Finished G → Type 0
  EndsAs gate (result, finished) = Worked result (notes gate) (notes finished.gate) ⊎ ((result ≡ Err NoMemory) × (finished.gate ≡ gate))

  -- each member, a gate and a pause, ended with one of these results, and this is the result of all, in the members' order
  abbrev pub IsOfAll : {P : Type 0} → List (G × P) → Result Tally Stopped → Type 0
  IsOfAll members result =
      (ends : List (Result Tally Stopped × Finished G)) × AllZip (λ member. EndsAs member.0) members ends × (result ≡ of_all (map (λ end. end.0) ends))

  -- the result of a crew: that of all its members, or that with a stop for no memory behind it
  abbrev pub IsOfCrew : {P : Type 0} → List (G × P) → Result Tally Stopped → Type 0
  IsOfCrew members result = (all : Result Tally Stopped) × IsOfAll members all × ((result ≡ all) ⊎ (result ≡ of_both all (Err NoMemory)))

module _ {C S : Type 0} (terms : Terms)
    (Left : RelayView → Result Tally Stopped → Option (List (Notice C S)) → Option (List (Notice C S)) → Type 0) where
  -- a member's seat: it was split off and has done nothing; or a worker left it so whose work some gate noted
  abbrev pub IsMemberSeat : Relay → Type 0
  IsMemberSeat seat =
      IsUnused terms seat
      ⊎ ((result : Result Tally Stopped) × (before : Option (List (Notice C S))) × (after : Option (List (Notice C S))) × Left seat.view result before after)

  -- The first seat joined seats of members, and nothing else: behind what it took and posted stands what these did, one after the other.
  pub record JoinsSeats (old new : RelayView) : Type 0 where
    pub seats : List Relay
    pub each : All (λ seat. ∥ IsMemberSeat seat ∥₁) seats
    pub joined : new.joined ≡ old.joined + length seats
    pub takes : new.takes ≡ old.takes ++ flat_map (λ seat. seat.view.takes) seats
    pub posts : new.posts ≡ old.posts ++ flat_map (λ seat. seat.view.posts) seats

-- a crew's checks: a checker, which may be told to stop at any time, began when its gate had noted
-- this and it had this number of pauses, and ended when the gate had noted that
abbrev pub CrewHasChecked : {C S : Type 0} → Terms → Setup → List Server → Option (List (Notice C S)) → ℕ → Option (List (Notice C S)) → Type 0
CrewHasChecked terms setup servers first most last = (left : ℕ) × HasEndedChecks (Unit {0}) terms setup servers first most last left
