-- The rule of the board, place by place.
use Rattle.std.specs.Prelude.{◌≡◌, ℕ, ◌+◌, ◌<◌, ◌≤◌, ◌↔◌, ◌⊎◌, List, [], ◌∷◌, length, slice_index, Contains}
use mathlib.Core.Option.{some}
use lib.ListN.{get_elem?}
use Rattle.base_verdict.specs.declared.Ending.{Ending}
use Rattle.grant_board.specs.declared.laws.Word.TheVariants.{Offered, Taken, Posted}
use Rattle.grant_board.specs.declared.view.View.{View}
use Rattle.grant_board.specs.BoardWords.{encode_of, IsWord, IsAmong}
use Rattle.grant_board.specs.Views.{Grant, Terms, KeeperView, KeeperPart, RelayView, count_at, count_of}
use Rattle.grant_board.specs.Rule.{BoardState, Orderly}
use Rattle.grant_board.specs.Ruled.{view}

-- some seat has this keeper's part
abbrev pub HasKeeper : BoardState → KeeperPart → Type 0
HasKeeper s k = (j : ℕ) × (relays : List RelayView) × (get_elem? s.views j ≡ some (view (k ∷ []) relays))

-- the seat j has this relay's part, the i-th of its own
abbrev pub HasRelay : BoardState → ℕ → ℕ → RelayView → Type 0
HasRelay s j i r = (v : View) × (get_elem? s.views j ≡ some v) × (get_elem? v.relays i ≡ some r)

-- the word of the grant's place has the grant's ticket and verdict
abbrev pub HasItsWord : List ℕ → Grant → Type 0
HasItsWord words g =
    (slice_index words g.place ≡ encode_of (Offered g.ticket g.verdict)) ⊎ ((slice_index words g.place ≡ encode_of (Taken g.ticket g.verdict))
    ⊎ ((ending : Ending) × (slice_index words g.place ≡ encode_of (Posted g.ticket g.verdict ending))))

pub record ByPlaces (terms : Terms) (s : BoardState) (k : KeeperView) : Type 0 where
  -- a place's word is empty exactly where the place isn't out, else it has the grant's ticket and verdict
  pub empty : (place : ℕ) → place < terms.places → (slice_index s.words place ≡ 0) ↔ (count_at place k.out ≡ 0)
  pub out : (g : Grant) → Contains k.out g → HasItsWord s.words g
  -- a grant that is out belongs to the board: its place, its server, and a ticket that a word can have
  pub on_board : (g : Grant) → Contains k.out g → (g.place < terms.places) × IsWord (Offered g.ticket g.verdict) × IsAmong (length terms.limits) g.verdict
  -- the word is taken exactly where a seat has the pass with that ticket and verdict
  pub taken : (g : Grant) → g.place < terms.places → IsWord (Taken g.ticket g.verdict) → slice_index s.words g.place ≡ encode_of (Taken g.ticket g.verdict)
      → (j : ℕ) × (i : ℕ) × (r : RelayView) × HasRelay s j i r × Contains r.passes g
  pub pass : (j i : ℕ) (r : RelayView) (g : Grant) → HasRelay s j i r → Contains r.passes g → slice_index s.words g.place ≡ encode_of (Taken g.ticket g.verdict)
  -- no seat has two passes of a place, and no two seats have one each
  pub once : (j i : ℕ) (r : RelayView) (place : ℕ) → HasRelay s j i r → count_at place r.passes ≤ 1
  pub apart : (j i : ℕ) (r : RelayView) (m n : ℕ) (q : RelayView) (place : ℕ) → HasRelay s j i r → HasRelay s m n q → ¬ ((m ≡ j) × (n ≡ i))
      → count_at place r.passes + count_at place q.passes ≤ 1
  -- after the places' words each server's word is its mark, as the keeper knows it
  pub bounds : (server : ℕ) → server < length terms.limits → slice_index s.words (terms.places + server) ≡ slice_index k.bounds server
  pub servers : length k.bounds ≡ length terms.limits
  -- no more places serve at a server than its bound, where it has one
  pub bounded : (server : ℕ) → 0 < slice_index k.bounds server → count_of server k.out < slice_index k.bounds server

-- the rule implies all this of each state
abbrev pub RuleByPlaces : Type 0
RuleByPlaces = (terms : Terms) (s : BoardState) (k : KeeperPart) → Orderly terms s → HasKeeper s k → ByPlaces terms s k.view
