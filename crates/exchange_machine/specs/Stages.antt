-- The state of an exchange at each stage, after a history.
use Rattle.std.specs.Prelude.{◌≡◌, ◌≢◌, ℕ, ◌<◌, false, true, List, [], ◌∷◌, ◌++◌, length, Some}
use Rattle.std.specs.List.{AllByRecursion}
use Rattle.http_texts.specs.Framings.{request_framing}
use Rattle.http_texts.specs.Persistences.{wished}
use Rattle.http_texts.specs.Replies.{leave_text}
use Rattle.http_texts.specs.Texts.{framed_for}
use Rattle.http_texts.specs.declared.fault.Fault.{Fault}
use Rattle.http_texts.specs.declared.persistence.Persistence.TheVariants.{Close}
use Rattle.req_view.specs.AnswerHeads.{HasNoAnswer, WaitsForAnswer}
use Rattle.req_view.specs.Heads.{HasNoHead, Waits}
use Rattle.http_bodies.specs.Readings.{read, start_of}
use Rattle.http_bodies.specs.Stops.{is_bad}
use Rattle.exchange_machine.specs.Answerings.{TellsAnswer}
use Rattle.exchange_machine.specs.Headline.{AreTries, IsFair, ClientText, ToClient, ToServer}
use Rattle.exchange_machine.specs.Histories.{ExchangeHistory, passes_of, reached_by}
use Rattle.exchange_machine.specs.Reasons.{HasEnded, Shows}
use Rattle.exchange_machine.specs.Repeats.{IsTry}
use Rattle.exchange_machine.specs.Requests.{IsAskedBy, IsNoRequest, LacksHead, MayCome}
use Rattle.exchange_machine.specs.Sides.{IsUp, IsDown}
use Rattle.exchange_machine.specs.Wholes.{EndsClean}
use Rattle.exchange_machine.specs.declared.waiting.Asked.{Asked}
use Rattle.exchange_machine.specs.declared.asking.Asking.{Asking}
use Rattle.exchange_machine.specs.declared.waiting.Waiting.{Waiting}
use Rattle.exchange_machine.specs.declared.dialing.Dialing.{Dialing}
use Rattle.exchange_machine.specs.declared.forwarding.Forwarding.{Forwarding}
use Rattle.exchange_machine.specs.declared.leaving.Leaving.{Leaving}
use Rattle.exchange_machine.specs.declared.telling.Telling.{Telling}
use Rattle.exchange_machine.specs.declared.sides.Down.TheVariants.{Heads}
use Rattle.exchange_machine.specs.declared.signs.Sign.TheVariants.{ServerEnded}
use Rattle.exchange_machine.specs.declared.asking.Turn.{Turn}
use Rattle.exchange_machine.specs.declared.asking.Turn.TheVariants as Turns

-- no server was sent a byte, and none sent one
pub record IsUnsent (h : ExchangeHistory) : Type 0 where
  pub server : h.to_server ≡ []
  pub answer : h.server_in ≡ []

-- nothing has happened but that bytes came from the client
pub record HistoryIsFresh (h : ExchangeHistory) : Type 0 where
  pub unsent : IsUnsent h
  pub silent : h.to_client ≡ []
  pub grants : h.grants ≡ []
  pub posts : h.posts ≡ []
  pub untried : h.tries ≡ []

-- the head isn't whole yet
pub record IsAsking (a : Asking) (h : ExchangeHistory) : Type 0 where
  pub fresh : HistoryIsFresh h
  pub held : h.client_in ≡ a.held.items
  pub none : HasNoHead h.client_in
  pub may : MayCome Waits h.client_in

-- the head was read, with these bytes after it
pub record IsAsked (a : Asked) (h : ExchangeHistory) : Type 0 where
  pub asked : IsAskedBy h.client_in a.view a.held.items
  pub framed : request_framing a.view ≡ Some a.framing

-- nothing is sent before the pass comes
pub record IsWaiting (w : Waiting) (h : ExchangeHistory) : Type 0 where
  pub unsent : IsUnsent h
  pub asked : IsAsked w.asked h
  pub silent : h.to_client ≡ []
  pub grants : h.grants ≡ passes_of h.posts
  pub fair : AllByRecursion IsFair h.posts
  pub tries : AllByRecursion (IsTry w.asked.view) h.tries

pub record IsDialing (d : Dialing) (h : ExchangeHistory) : Type 0 where
  pub unsent : IsUnsent h
  pub asked : IsAsked d.waiting.asked h
  pub silent : h.to_client ≡ []
  pub grants : h.grants ≡ passes_of h.posts ++ d.pass ∷ []
  pub fair : AllByRecursion IsFair h.posts
  pub tries : AllByRecursion (IsTry d.waiting.asked.view) h.tries
  pub unreached : d.reached ≡ false → reached_by h ≡ []

-- this number of bytes of the `100` are still at the front of what waits, and nothing after it was sent
pub record HasLeave (count : ℕ) (leave went out : List ℕ) : Type 0 where
  pub left : List ℕ
  pub behind : List ℕ
  pub count_is : count ≡ length left
  pub leave_is : leave ≡ went ++ left
  pub out_is : out ≡ left ++ behind

-- no whole head of an answer stands in these bytes, and one may still come
pub record AwaitsAnswerHead (bytes : List ℕ) : Type 0 where
  pub none : HasNoAnswer bytes
  pub may : MayCome WaitsForAnswer bytes

-- both sides are active
pub record IsForwarding (p : Forwarding) (h : ExchangeHistory) : Type 0 where
  pub behind : List ℕ
  pub asked : IsAskedBy h.client_in p.view behind
  pub request : List ℕ
  pub up : IsUp p.adds p.view p.up.coding p.up_held.items behind request
  pub sent : request ≡ h.to_server ++ p.up.out
  pub answer : List ℕ
  pub down : IsDown p.says p.kept p.view.method (framed_for p.view.version) p.phase p.down.coding p.down_held.items h.server_in answer
  pub told : leave_text p.view ++ answer ≡ h.to_client ++ p.down.out
  pub unreached : p.reached ≡ false → reached_by h ≡ []
  pub grants : h.grants ≡ passes_of h.posts ++ p.pass ∷ []
  pub fair : AllByRecursion IsFair h.posts
  pub tries : AllByRecursion (IsTry p.view) h.tries
  pub framed : request_framing p.view ≡ Some p.framing
  pub ended : p.ended ≡ true → HasEnded h.signs
  pub well : p.well ≡ true → Shows h.signs ServerEnded
  pub agreed : p.says ≢ Close → (p.willing ≡ true) × (wished p.view ≡ p.says)
  pub adds : p.adds ≡ h.adds
  pub leave : p.begun ≡ false → HasLeave p.leave_left (leave_text p.view) h.to_client p.down.out
  pub looked : p.looks ≡ false → (count : ℕ) → p.phase ≡ Heads count → AwaitsAnswerHead p.down_held.items

-- no whole head of an answer stands in what it holds, and one may still come, after any history
abbrev pub HoldsNoHead : Forwarding → Type 0
HoldsNoHead p = (h : ExchangeHistory) → IsForwarding p h → AwaitsAnswerHead p.down_held.items

-- the pass was posted, and the last bytes for the client wait
pub record IsLeaving (l : Leaving) (h : ExchangeHistory) : Type 0 where
  pub server : ToServer h
  pub text : List ℕ
  pub client : ClientText h text
  pub told : text ≡ h.to_client ++ l.out.out
  pub whole : l.whole ≡ true → TellsAnswer h.signs h.client_in h.server_in text
  pub clean : l.clean ≡ true → EndsClean h l.out.out
  pub grants : h.grants ≡ passes_of h.posts
  pub fair : AllByRecursion IsFair h.posts
  pub tried : AreTries h

-- the bytes are refused before a pass is asked for, for this reason
pub record IsUnread (why : Fault) (h : ExchangeHistory) : Type 0 where
  pub reason : IsNoRequest why h.client_in
  pub fresh : HistoryIsFresh h

-- the result of reading a head further
abbrev pub IsTurn : Turn → ExchangeHistory → Type 0
IsTurn (Turns.More a) h = IsAsking a h
IsTurn (Turns.Whole w) h = IsWaiting w h
IsTurn (Turns.Refused why) h = IsUnread why h

abbrev pub IsMore : Turn → Type 0
IsMore (Turns.More a) = Unit {0}
IsMore (Turns.Whole w) = ⊥
IsMore (Turns.Refused why) = ⊥

-- the bytes after an accepted head are a front of a body, or a body and more
abbrev pub IsChecked : Turn → Type 0
IsChecked (Turns.More a) = Unit {0}
IsChecked (Turns.Whole w) = is_bad (read (start_of w.asked.framing true) w.asked.held.items).coding ≡ false
IsChecked (Turns.Refused why) = Unit {0}

-- the result of looking for a head alone in these bytes: all are held and more may come, or they
-- lack a head for this reason
abbrev pub HeadSays : Turn → List ℕ → Type 0
HeadSays (Turns.More a) bytes = (a.held.items ≡ bytes) × (length bytes < 16384)
HeadSays (Turns.Whole w) bytes = Unit {0}
HeadSays (Turns.Refused why) bytes = LacksHead why bytes

-- a refusal is sent, without an outbox
pub record IsTelling (t : Telling) (h : ExchangeHistory) : Type 0 where
  pub server : ToServer h
  pub text : List ℕ
  pub client : ClientText h text
  pub told : text ≡ h.to_client ++ t.rest.now
  pub grants : h.grants ≡ passes_of h.posts
  pub fair : AllByRecursion IsFair h.posts
  pub tried : AreTries h

-- the exchange is over
pub record IsOver (h : ExchangeHistory) : Type 0 where
  pub server : ToServer h
  pub client : ToClient h
  pub grants : h.grants ≡ passes_of h.posts
  pub fair : AllByRecursion IsFair h.posts
  pub tried : AreTries h
