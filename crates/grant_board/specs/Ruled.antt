-- That the rule of the board holds in a state with a seat of this view.
use Rattle.std.specs.Prelude.{◌≡◌, ℕ, List, [], ◌∷◌, slice_index}
use mathlib.Core.Option.{some}
use lib.ListN.{get_elem?}
use Rattle.grant_board.specs.declared.view.View.{View}
use Rattle.grant_board.specs.Views.{Terms, KeeperView, KeeperPart, RelayView}
use Rattle.grant_board.specs.Rule.{BoardState, Orderly}

abbrev pub view : List KeeperPart → List RelayView → View
view keepers relays = record { keepers = keepers; relays = relays }

-- the keeper's part between two calls
abbrev pub at_rest : KeeperView → KeeperPart
at_rest k = record { view = k; sight = [] }

-- the rule holds in some state of the board in which a seat has this view
pub record MeetsRule (v : View) : Type 0 where
  pub terms : Terms
  pub state : BoardState
  pub rule : Orderly terms state
  pub seat : ℕ
  pub seen : get_elem? state.views seat ≡ some v

-- the same, where the server has this bound
abbrev pub MeetsRuleWith : View → ℕ → ℕ → Type 0
MeetsRuleWith v server bound = (meets : MeetsRule v) × (slice_index meets.rule.bounds server ≡ bound)

-- the rule holds in some state in which the keeper has this view
abbrev pub KeeperRuled : KeeperView → Type 0
KeeperRuled k = MeetsRule (view (at_rest k ∷ []) [])

-- the same, where a relay's seat has this view
abbrev pub RelayRuled : RelayView → Type 0
RelayRuled r = MeetsRule (view [] (r ∷ []))

-- the same, where the keeper and a relay's seat have these views
abbrev pub VouchRuled : KeeperView → RelayView → Type 0
VouchRuled k r = MeetsRule (view (at_rest k ∷ []) (r ∷ []))

-- the same, where two relays' seats have these views and the server has this bound
abbrev pub MeetRuled : RelayView → RelayView → ℕ → ℕ → Type 0
MeetRuled r q server bound = MeetsRuleWith (view [] (r ∷ q ∷ [])) server bound
