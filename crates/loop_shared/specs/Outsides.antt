-- The requests that wait outside for a place.
use Rattle.std.specs.Prelude.{◌≡◌, ℕ, Option, None, Some, slice_get}
use Rattle.std.specs.Global.{Box}
use Rattle.due_key.specs.declared.key.Key.{Key}
use Rattle.locked_book.specs.declared.book.Deferred.{Deferred}
use Rattle.loop_table.specs.Timers.{later_at}
use Rattle.loop_table.specs.TokenTables.{Table, HasValue, IsVacantToken, table_with_open, lent, filled, closed}
use Rattle.loop_table.specs.declared.token.Token.{Token}
use Rattle.loop_shared.specs.declared.outside.Outside.{Outside}
use Rattle.loop_shared.specs.declared.outside.Outsider.{Outsider}
use Rattle.loop_shared.specs.declared.outside.Standing.{Standing}
use Rattle.loop_shared.specs.Timed.{Begins}
use Rattle.prio_rules.specs.declared.wish.Wish.{Wish}
use Rattle.queue_outside.specs.Rooms.{outsider_key, came, left}

-- no request stands under this token
abbrev pub IsGoneOutside : Outside → Token → Type 0
IsGoneOutside outside token = (standing : Box Standing) → ¬ (HasValue outside.standing token standing)

-- A request came: it has a token that was free, and a key for its class, for the due date that its
-- coming and its offset make, and behind all that came before. Its timeout, where it has one, runs
-- from its coming.
pub record HasCome (old new : Outside) (wish : Wish) (outsider : Outsider) (token : Token) : Type 0 where
  pub key : Key
  pub keyed : key ≡ outsider_key old.order wish.class outsider.came wish.offset
  pub order : new.order ≡ came old.order key token.index
  pub free : IsVacantToken old.standing token
  pub standing : Box Standing
  pub holds : standing.value ≡ record { key = key; outsider = outsider }
  pub stands : new.standing ≡ filled (table_with_open old.standing token) token standing
  pub timed : Begins (later_at old.timers outsider.came) new.timers old.patience token.index
  pub patience : new.patience ≡ old.patience

-- the request of this token went: it left the order with its key, and its cell is free
pub record HasGone (old new : Outside) (token : Token) (outsider : Outsider) : Type 0 where
  pub standing : Box Standing
  pub stood : HasValue old.standing token standing
  pub held : standing.value.outsider ≡ outsider
  pub order : new.order ≡ left old.order standing.value.key
  pub closes : new.standing ≡ closed (lent old.standing token) token
  pub patience : new.patience ≡ old.patience

-- This is the first request in the order, and what it asks the dispatcher for: a place in its class,
-- by its due date, at the server that it is pinned to.
pub record IsFirstOutside (outside : Outside) (deferred : Deferred) (token : Token) : Type 0 where
  pub key : Key
  pub first : slice_get outside.order.pairs 0 ≡ Some (key, token.index)
  pub standing : Box Standing
  pub stands : HasValue outside.standing token standing
  pub asks : deferred ≡ record { class = key.class; due = key.due; pin = standing.value.outsider.pin }

-- nobody is first: nobody waits, or nobody stands under the number of the first
abbrev pub NobodyIsFirst : Outside → Option (Key × ℕ) → Type 0
NobodyIsFirst outside None = slice_get outside.order.pairs 0 ≡ None
NobodyIsFirst outside (Some first) =
    (slice_get outside.order.pairs 0 ≡ Some first) × ((token : Token) → token.index ≡ first.1 → IsGoneOutside outside token)
