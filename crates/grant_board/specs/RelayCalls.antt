-- The calls of relays' seats, for the layer that holds them: what `try_take`, `post`, `meet`,
-- `split` and `join` learn and change.
use Rattle.std.specs.Prelude.{◌≡◌, ◌≢◌, ℕ, ◌+◌, ◌⊎◌, Bool, [], ◌∷◌, ◌++◌, length}
use Rattle.base_verdict.specs.declared.Verdict.{Verdict}
use Rattle.base_verdict.specs.declared.Ending.{Ending}
use Rattle.atomic_table.specs.Seated.{TableId}
use Rattle.grant_board.specs.declared.laws.Word.TheVariants.{Offered}
use Rattle.grant_board.specs.declared.pass.Taking.{Taking}
use Rattle.grant_board.specs.declared.pass.Taking.TheVariants.{Taken, NotYet}
use Rattle.grant_board.specs.BoardWords.{encode_of, IsWord, IsAmong, OffersNot}
use Rattle.grant_board.specs.Views.{Grant, Terms, look, RelayView, return_of, grants_without}

-- a relay's seat: its board and its view
pub record Relay : Type 0 where
  pub board : TableId
  pub view : RelayView

-- the view of a relay that has done nothing
abbrev pub new_relay : Terms → Bool → RelayView
new_relay terms first = record { terms = terms; passes = []; takes = []; posts = []; looks = []; first = first; split = 0; joined = 0 }

-- the view after one more look, which is all that `meet` changes
abbrev pub relay_looked : RelayView → ℕ → ℕ → RelayView
relay_looked r place word = record r { looks = r.looks ++ look place word ∷ [] }

-- try_take: the seat has the pass, which is the last one that it took
abbrev pub take_after : RelayView → Grant → RelayView
take_after r g = record r { passes = r.passes ++ g ∷ []; takes = r.takes ++ g ∷ [] }

-- The seat looked at the place, found this ticket offered with the verdict of the pass, and took
-- the pass. Its server, if it names one, is one of the board's.
pub record Takes (r r' : RelayView) (place ticket : ℕ) (pass : Grant) : Type 0 where
  pub at : pass.place ≡ place
  pub of : pass.ticket ≡ ticket
  pub word : IsWord (Offered ticket pass.verdict)
  pub among : IsAmong (length r.terms.limits) pass.verdict
  pub after : r' ≡ take_after (relay_looked r place (encode_of (Offered ticket pass.verdict))) pass

-- the seat looked once, and didn't find this ticket offered
pub record FindsNoOffer (r r' : RelayView) (place ticket : ℕ) : Type 0 where
  pub word : ℕ
  pub after : r' ≡ relay_looked r place word
  pub other : OffersNot ticket word

-- the seat looked and found this ticket offered with some verdict, but its compare-exchange found another word
pub record IsTooLate (r r' : RelayView) (place ticket : ℕ) : Type 0 where
  pub verdict : Verdict
  pub word : ℕ
  pub after : r' ≡ relay_looked (relay_looked r place (encode_of (Offered ticket verdict))) place word
  pub valid : IsWord (Offered ticket verdict)
  pub other : word ≢ encode_of (Offered ticket verdict)

-- the answer to a seat that asked for a ticket
abbrev pub Answers : RelayView → RelayView → ℕ → ℕ → Taking → Type 0
Answers r r' place ticket (Taken pass) = Takes r r' place ticket pass
Answers r r' place ticket NotYet = FindsNoOffer r r' place ticket ⊎ IsTooLate r r' place ticket

-- post: the seat no longer has the pass, and its return is the last one that it posted
abbrev pub post_after : RelayView → Grant → Ending → RelayView
post_after r g ending = record r { passes = grants_without g.place r.passes; posts = r.posts ++ return_of g ending ∷ [] }

-- split: one more seat is split off
abbrev pub split_after : RelayView → RelayView
split_after r = record r { split = r.split + 1 }

-- join: the first seat has the other's lists after its own
abbrev pub join_after : RelayView → RelayView → RelayView
join_after r q = record r { passes = r.passes ++ q.passes; takes = r.takes ++ q.takes; posts = r.posts ++ q.posts; joined = r.joined + 1 }
