-- What stands at the front of a server's bytes.
use Rattle.std.specs.Prelude.{◌≢◌, ◌<◌, ℕ, List, [], ◌++◌, length}
use Rattle.http_bodies.specs.declared.outbox.TheConstants.{OUTBOX_BYTES}
use Rattle.http_texts.specs.Messages.{HasRole}
use Rattle.http_texts.specs.Persistences.{answer_says}
use Rattle.http_texts.specs.Texts.{answer_text, framed_for, interim_text}
use Rattle.http_texts.specs.declared.fault.Fault.{Fault}
use Rattle.http_texts.specs.declared.fault.Fault.TheVariants as Faulty
use Rattle.http_texts.specs.declared.roles.Role.{Role}
use Rattle.http_texts.specs.declared.roles.Role.TheVariants as Roles
use Rattle.req_view.specs.Answer.{Answer}
use Rattle.req_view.specs.AnswerHeads.{NeverHasAnswer, SaysAnswer, WaitsForAnswer}
use Rattle.exchange_machine.specs.declared.forwarding.Forwarding.{Forwarding}
use Rattle.exchange_machine.specs.declared.heading.Seen.{Seen}
use Rattle.exchange_machine.specs.declared.heading.Seen.TheVariants.{More, Interim, Final, Refused}

-- a head with an unsound framing, or one interim head too many
pub record Unplanned (method : List ℕ) (count : ℕ) (held : List ℕ) : Type 0 where
  pub answer : Answer
  pub len : ℕ
  pub says : SaysAnswer held answer len
  pub role : HasRole method answer count Roles.Refused

-- why no head is handed on
abbrev pub NoneStands : List ℕ → ℕ → List ℕ → Fault → Type 0
NoneStands method count held Faulty.Head = NeverHasAnswer held
NoneStands method count held Faulty.Framing = Unplanned method count held
NoneStands method count held Faulty.NoMemory = Unit {0}
NoneStands method count held Faulty.Read = ⊥
NoneStands method count held Faulty.Write = ⊥
NoneStands method count held Faulty.Turns = ⊥
NoneStands method count held Faulty.Closed = ⊥

-- what is found after this number of interim heads, for a request with this method
abbrev pub IsSeen : List ℕ → ℕ → List ℕ → Seen → Type 0
IsSeen method count held More = WaitsForAnswer held
IsSeen method count held (Interim a len) = SaysAnswer held a len × HasRole method a count Roles.Interim
IsSeen method count held (Final a len plan) = SaysAnswer held a len × HasRole method a count (Roles.Final plan)
IsSeen method count held (Refused why) = NoneStands method count held why

-- the text of an answer's head for the client of this exchange, where it has this role
abbrev pub head_text : Forwarding → Answer → Role → List ℕ
head_text p a Roles.Interim = interim_text (framed_for p.view.version) a
head_text p a (Roles.Final plan) = answer_text (answer_says p.willing p.view plan) (framed_for p.view.version) a plan
head_text p a Roles.Refused = []

-- A whole head that is handed on stands in what is held, behind this number of interim heads; and
-- behind what waits for the client there is no room for its text.
pub record LacksHeadRoom (count : ℕ) (p : Forwarding) : Type 0 where
  pub answer : Answer
  pub len : ℕ
  pub says : SaysAnswer p.down_held.items answer len
  pub role : Role
  pub handed : role ≢ Roles.Refused
  pub its : HasRole p.view.method answer count role
  pub room : OUTBOX_BYTES < length (p.down.out ++ head_text p answer role)
