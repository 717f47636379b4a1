-- The rule of the board, which holds between any two steps. A clause about every weight function
-- says that two lists have the same grants, each the same number of times.
use Rattle.std.specs.Prelude.{◌≡◌, ℕ, ◌+◌, ◌<◌, ◌≤◌, ◌++◌, if◌then◌else◌, List, map, take, length, slice_index}
use Rattle.std.specs.List.{AllByRecursion}
use mathlib.Core.Option.{some}
use lib.ListN.{get_elem?}
use Rattle.atomic_table.specs.Table.{State}
use Rattle.grant_board.specs.declared.laws.Word.{Word}
use Rattle.grant_board.specs.declared.laws.Word.TheVariants.{Empty, Offered, Taken, Posted}
use Rattle.grant_board.specs.declared.returned.Return.{Return}
use Rattle.grant_board.specs.declared.view.View.{View}
use Rattle.grant_board.specs.declared.view.Plan.{Plan}
use Rattle.grant_board.specs.BoardWords.{encode_of, IsWord, IsWordAmong}
use Rattle.base_lists.specs.Weights.{total, along}
use Rattle.grant_board.specs.Views.{Grant, grant, Terms, KeeperPart, RelayView, Sighting, return_of, count_of}

-- the terms that a board was opened with
abbrev pub terms_of : Plan → Terms
terms_of plan = record { places = plan.places; limits = take plan.servers plan.limits }

-- the table has no slots
abbrev pub NoTableSlots : Type 0
NoTableSlots = Unit {0}

abbrev pub BoardState : Type 0
BoardState = State NoTableSlots View

-- the weight of the grant in a place's word
abbrev pub standing_weight : (Grant → ℕ) → ℕ → Word → ℕ
standing_weight weight place Empty = 0
standing_weight weight place (Offered ticket verdict) = weight (grant place ticket verdict)
standing_weight weight place (Taken ticket verdict) = weight (grant place ticket verdict)
standing_weight weight place (Posted ticket verdict ending) = weight (grant place ticket verdict)

-- the same for offered words alone
abbrev pub offered : (Grant → ℕ) → ℕ → Word → ℕ
offered weight place (Offered ticket verdict) = weight (grant place ticket verdict)
offered weight place _ = 0

-- the same for taken words
abbrev pub taken : (Grant → ℕ) → ℕ → Word → ℕ
taken weight place (Taken ticket verdict) = weight (grant place ticket verdict)
taken weight place _ = 0

-- the same for posted words, with their endings
abbrev pub posted_weight : (Sighting → ℕ) → ℕ → Word → ℕ
posted_weight weight place (Posted ticket verdict ending) = weight (record { pass = grant place ticket verdict; ending = ending })
posted_weight weight place _ = 0

-- the weight of a sighting is that of its return
abbrev pub as_return : (Return → ℕ) → Sighting → ℕ
as_return weight s = weight (return_of s.pass s.ending)

-- the sums of the weights of all keeper's parts, and of all relays' parts, over all views
abbrev pub of_keepers : (KeeperPart → ℕ) → List View → ℕ
of_keepers weight views = total (λ v. total weight v.keepers) views

abbrev pub of_relays : (RelayView → ℕ) → List View → ℕ
of_relays weight views = total (λ v. total weight v.relays) views

-- 1 for the first seat, and 1 for each other one
abbrev pub is_first : RelayView → ℕ
is_first r = if r.first then 1 else 0

abbrev pub is_other : RelayView → ℕ
is_other r = if r.first then 0 else 1

-- the number of seats that the first one split off, and that it joined
abbrev pub split_off : RelayView → ℕ
split_off r = if r.first then r.split else 0

abbrev pub joined_in : RelayView → ℕ
joined_in r = if r.first then r.joined else 0

-- each part has the board's terms, and the keeper has the bounds
abbrev pub KeeperAgrees : Terms → List ℕ → KeeperPart → Type 0
KeeperAgrees terms bounds k = (k.view.terms ≡ terms) × (k.view.bounds ≡ bounds)

abbrev pub RelayAgrees : Terms → RelayView → Type 0
RelayAgrees terms r = r.terms ≡ terms

abbrev pub Agrees : Terms → List ℕ → View → Type 0
Agrees terms bounds v = AllByRecursion (KeeperAgrees terms bounds) v.keepers × AllByRecursion (RelayAgrees terms) v.relays

pub record Orderly (terms : Terms) (s : BoardState) : Type 0 where
  -- one word for each place, and after them one for each server, which is its mark: one more than
  -- its bound, or 0 where it has none
  pub cells : List Word
  pub bounds : List ℕ
  pub words : s.words ≡ map encode_of cells ++ bounds
  pub long : length cells ≡ terms.places
  pub servers : length bounds ≡ length terms.limits
  -- the places' words have encodings, and name only the board's servers
  pub valid : AllByRecursion IsWord cells
  pub among : AllByRecursion (IsWordAmong (length terms.limits)) cells
  -- there is one keeper, and one first seat, which knows how many others there are
  pub one_keeper : of_keepers (λ _. 1) s.views ≡ 1
  pub one_first : of_relays is_first s.views ≡ 1
  pub others : of_relays is_other s.views + of_relays joined_in s.views ≡ of_relays split_off s.views
  -- the words that aren't empty have the grants that are out, each at its place
  pub out : (weight : Grant → ℕ) → of_keepers (λ k. total weight k.view.out) s.views ≡ along (standing_weight weight) 0 cells
  -- the words that are taken have the passes of all seats, so that no two seats have the same pass
  pub passes : (weight : Grant → ℕ) → of_relays (λ r. total weight r.passes) s.views ≡ along (taken weight) 0 cells
  -- each offer was taken or still stands as an offer
  pub offers : (weight : Grant → ℕ)
      → of_relays (λ r. total weight r.takes) s.views + along (offered weight) 0 cells ≡ of_keepers (λ k. total weight k.view.offers) s.views
  -- each post has come back or still stands as posted
  pub posts : (weight : Return → ℕ)
      → of_keepers (λ k. total weight k.view.returns) s.views + along (posted_weight (as_return weight)) 0 cells ≡ of_relays (λ r. total weight r.posts) s.views
  -- fewer grants of a server are out than its mark, where it has one
  pub bounded : (server : ℕ) → 0 < slice_index bounds server → of_keepers (λ k. count_of server k.view.out) s.views < slice_index bounds server
  -- what the keeper remembers from its load stands posted
  pub sight : (weight : Sighting → ℕ) → of_keepers (λ k. total weight k.sight) s.views ≤ along (posted_weight weight) 0 cells
  pub agree : (j : ℕ) (v : View) → get_elem? s.views j ≡ some v → Agrees terms bounds v
