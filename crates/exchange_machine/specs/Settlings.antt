-- What is left of an exchange whose pass was posted.
use Rattle.std.specs.Prelude.{◌≡◌, ◌≢◌, ℕ, Bool, true, false, ◌&&◌, List, []}
use Rattle.std.specs.List.{AllByRecursion}
use Rattle.http_bodies.specs.Stops.{is_done}
use Rattle.http_bodies.specs.declared.coding.Coding.{Coding}
use Rattle.http_texts.specs.declared.persistence.Persistence.{Persistence}
use Rattle.http_texts.specs.declared.persistence.Persistence.TheVariants.{Close, Persist, KeepAlive}
use Rattle.exchange_machine.specs.Headline.{AreTries, IsFair, ClientText, ToServer}
use Rattle.exchange_machine.specs.Histories.{ExchangeHistory, passes_of}
use Rattle.exchange_machine.specs.Repeats.{is_bare}
use Rattle.exchange_machine.specs.Stages.{IsLeaving}
use Rattle.exchange_machine.specs.Wants.{is_none}
use Rattle.exchange_machine.specs.Wholes.{Whole, Ends, IsBare, told}
use Rattle.exchange_machine.specs.declared.ending.Rest.{Rest}
use Rattle.exchange_machine.specs.declared.ending.Rest.TheVariants as Rests
use Rattle.exchange_machine.specs.declared.forwarding.Forwarding.{Forwarding}
use Rattle.exchange_machine.specs.declared.settling.Settling.{Settling}
use Rattle.exchange_machine.specs.declared.sides.Down.{Down}
use Rattle.exchange_machine.specs.declared.sides.Down.TheVariants.{Heads, Body}

-- both messages were whole; where it is clean, nothing is left on the server's side
pub record IsSettling (s : Settling) (h : ExchangeHistory) : Type 0 where
  pub whole : Whole
  pub unsent : List ℕ
  pub extra : List ℕ
  pub ends : Ends h whole s.behind.items s.out.out unsent extra
  pub left_open : whole.says ≢ Close
  pub clean : s.clean ≡ true → (unsent ≡ []) × (extra ≡ []) × (whole.adds.asks ≡ Persist) × (whole.kept ≡ true) × IsBare whole
  pub server : ToServer h
  pub client : ClientText h (told whole)
  pub grants : h.grants ≡ passes_of h.posts
  pub fair : AllByRecursion IsFair h.posts
  pub tried : AreTries h

abbrev pub IsRest : Rest → ExchangeHistory → Type 0
IsRest (Rests.Settling s) h = IsSettling s h
IsRest (Rests.Leaving l) h = IsLeaving l h

-- an exchange that only has bytes left for its client knows whether the answer was read whole
abbrev pub IsMarked : Bool → Rest → Type 0
IsMarked whole (Rests.Settling s) = Unit {0}
IsMarked whole (Rests.Leaving l) = l.whole ≡ whole

-- the answer was read to its marked end; one that goes to the end of the input has none
abbrev pub is_done_at : Down → Coding → Bool
is_done_at (Heads count) coding = false
is_done_at Body coding = is_done coding

-- the server was asked to keep its connection open
abbrev pub asks_to_persist : Persistence → Bool
asks_to_persist Close = false
asks_to_persist Persist = true
asks_to_persist KeepAlive = false

-- Nothing is left on the server's side, whatever the client is told of its own connection: both
-- messages were read to their marked ends, the request has no body and was sent whole, no byte from
-- the server is held, and the server was asked to keep its connection open, and does.
abbrev pub is_clean : Forwarding → Bool
is_clean p =
    asks_to_persist p.adds.asks && p.kept && is_none p.up.out && is_none p.down_held.items && is_done p.up.coding && is_done_at p.phase p.down.coding
    && is_bare p.framing

-- what is left knows whether the server's connection can be used again
abbrev pub IsCleanAs : Bool → Rest → Type 0
IsCleanAs clean (Rests.Settling s) = s.clean ≡ clean
IsCleanAs clean (Rests.Leaving l) = l.clean ≡ clean
