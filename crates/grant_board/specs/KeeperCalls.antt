-- The keeper's calls, for the layer that holds its seat: what `offer`, `collect`, `limit` and
-- `vouch` learn and change, and what `Board::close` tells at the end.
use Rattle.std.specs.Prelude.{◌≡◌, ℕ, ◌+◌, ◌<◌, List, [], ◌∷◌, ◌++◌, map, slice_index, slice_set, length, Contains}
use Rattle.base_verdict.specs.declared.Verdict.{Verdict}
use Rattle.base_verdict.specs.declared.Verdict.TheVariants.{Serve, Told}
use Rattle.base_verdict.specs.declared.Ending.{Ending}
use Rattle.atomic_table.specs.Seated.{TableId}
use Rattle.grant_board.specs.declared.laws.Word.TheVariants.{Posted}
use Rattle.grant_board.specs.declared.returned.Return.{Return}
use Rattle.grant_board.specs.BoardWords.{encode_of, MayEnd, IsUnposted}
use Rattle.base_lists.specs.Weights.{total, along, AreIn}
use Rattle.grant_board.specs.Views.{Grant, grant, Terms, first_mark, look, KeeperView, RelayView, return_of, count_of, grants_without}
use Rattle.grant_board.specs.Rule.{BoardState, standing_weight, offered, taken, posted_weight, as_return, Orderly}

-- a keeper's seat: its board and its view
pub record Keeper : Type 0 where
  pub board : TableId
  pub view : KeeperView

-- the view of a keeper that has done nothing: each server's mark is that of its limit
abbrev pub new_keeper : Terms → KeeperView
new_keeper terms = record { terms = terms; bounds = map first_mark terms.limits; out = []; offers = []; returns = []; looks = [] }

-- the view after one more look
abbrev pub keeper_looked : KeeperView → ℕ → ℕ → KeeperView
keeper_looked k place word = record k { looks = k.looks ++ look place word ∷ [] }

-- offer: the grant is out, and is the last offer
abbrev pub offer_after : KeeperView → Grant → KeeperView
offer_after k g = record k { out = k.out ++ g ∷ []; offers = k.offers ++ g ∷ [] }

-- the verdict may be offered: its server is one of the board's, and where the server has a bound,
-- the grants of it that are out with this one don't exceed the bound
abbrev pub HasRoom : KeeperView → Verdict → Type 0
HasRoom k (Serve server) = (server < length k.terms.limits) × (0 < slice_index k.bounds server → count_of server k.out + 1 < slice_index k.bounds server)
HasRoom k (Told cause) = Unit {0}

-- collect: the place is no longer out, and the return is the last one
abbrev pub collect_after : KeeperView → Grant → Ending → KeeperView
collect_after k g ending = record k { out = grants_without g.place k.out; returns = k.returns ++ return_of g ending ∷ [] }

-- A collect is a load, and where that finds a posted word a store that empties it. It found this
-- return's ticket posted at the place, with the verdict with which it was out.
pub record Collects (k k' : KeeperView) (place : ℕ) (back : Return) : Type 0 where
  pub verdict : Verdict
  pub at : back.place ≡ place
  pub ending : MayEnd verdict back.ending
  pub was_out : Contains k.out (grant place back.ticket verdict)
  pub after : k' ≡ collect_after (keeper_looked k place (encode_of (Posted back.ticket verdict back.ending))) (grant place back.ticket verdict) back.ending
  pub weighs : (weight : Grant → ℕ) → total weight k'.out + weight (grant place back.ticket verdict) ≡ total weight k.out

-- the load found no posted word, and nothing else was done
pub record FindsUnposted (k k' : KeeperView) (place : ℕ) : Type 0 where
  pub word : ℕ
  pub after : k' ≡ keeper_looked k place word
  pub unposted : IsUnposted word

-- limit: the server's mark is the new one
abbrev pub limit_after : KeeperView → ℕ → ℕ → KeeperView
limit_after k server bound = record k { bounds = slice_set k.bounds server bound }

-- the server may get the bound: it is one of the board's, and where there is a bound, no more
-- grants of the server are out
abbrev pub MayLimit : KeeperView → ℕ → ℕ → Type 0
MayLimit k server bound = (server < length k.terms.limits) × (0 < bound → count_of server k.out < bound)

-- vouch: the keeper looked at the board's first word, and each of the relay's passes is out
pub record Vouches (k k' : KeeperView) (passes : List Grant) : Type 0 where
  pub word : ℕ
  pub after : k' ≡ keeper_looked k 0 word
  pub out : AreIn passes k.out

-- close: what the last state of a board says of the keeper's view and of the view of the one relay that is left
pub record IsClosed (k : KeeperView) (r : RelayView) (left : ℕ) : Type 0 where
  pub state : BoardState
  pub rule : Orderly k.terms state
  -- the bounds are the ones that were set last
  pub bounds : rule.bounds ≡ k.bounds
  -- the words of places that aren't empty have the grants that are out, and the taken ones the passes
  pub out : (weight : Grant → ℕ) → total weight k.out ≡ along (standing_weight weight) 0 rule.cells
  pub passes : (weight : Grant → ℕ) → total weight r.passes ≡ along (taken weight) 0 rule.cells
  -- each offer was taken or still stands as an offer
  pub takes : (weight : Grant → ℕ) → total weight r.takes + along (offered weight) 0 rule.cells ≡ total weight k.offers
  -- each post has come back or still stands as posted
  pub posts : (weight : Return → ℕ) → total weight k.returns + along (posted_weight (as_return weight)) 0 rule.cells ≡ total weight r.posts
  -- the number of words of places that aren't empty
  pub left_over : left ≡ along (standing_weight (λ _. 1)) 0 rule.cells
