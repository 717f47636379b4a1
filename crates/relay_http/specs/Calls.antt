-- What is read and written while a request is handed on, and while its answer is.
use Rattle.std.specs.Prelude.{◌≡◌, ◌⊎◌, ◌<◌, ◌≤◌, ◌+◌, ◌++◌, ℕ, Bool, true, List, [], length, Option}
use Rattle.std.specs.Io.KnownBytes.{IsAtEnd}
use Rattle.base_streams.specs.Streams.{Stream}
use Rattle.http_bodies.specs.Runs.{IsSent}
use Rattle.http_bodies.specs.Texts.{Wrote}
use Rattle.http_bodies.specs.declared.framing.Framing.TheVariants.{ToEnd}
use Rattle.http_bodies.specs.declared.outbox.TheConstants.{OUTBOX_BYTES}
use Rattle.http_texts.specs.declared.additions.Additions.{Additions}
use Rattle.http_texts.specs.declared.fault.Fault.{Fault}
use Rattle.http_texts.specs.declared.fault.Fault.TheVariants.{Read}
use Rattle.http_texts.specs.declared.persistence.Persistence.{Persistence}
use Rattle.http_texts.specs.declared.persistence.Persistence.TheVariants.{Close}
use Rattle.http_texts.specs.Messages.{IsForwarded, PartOfForwarded, LacksForwarded, IsAnswered, PartOfAnswered, LacksAnswer, interims_text}
use Rattle.http_texts.specs.Messages.PartOfAnswered.{some_heads, head_and_body}
use Rattle.http_texts.specs.Messages.PartOfForwarded.{nothing, head_and_body}
use Rattle.http_texts.specs.Texts.{answer_text, framed_for, unnamed}
use Rattle.relay_http.specs.Failures.{Conveys, Misses}
use Rattle.relay_http.specs.Wants.{WantsBody, WantsAnswer}
use Rattle.req_view.specs.Answer.{answer_of}
use Rattle.req_view.specs.AnswerHeads.{HasNoAnswer}
use Rattle.req_view.specs.Request.{Request}

-- the part of the request is all that stands at the front of it and these bytes
abbrev pub HandsRequest : {adds : Additions} {r : Request} {used text : List ℕ} → PartOfForwarded adds r used text → List ℕ → Type 0
HandsRequest nothing rest = ⊥
HandsRequest (head_and_body framing used body is part) rest = IsSent framing true (used ++ rest) body

-- the part of the answer is all that stands at the front of it and these bytes
abbrev pub HandsAnswer : {says : Persistence} {method : List ℕ} {framed : Bool} {used text : List ℕ} → PartOfAnswered says method framed used text → List ℕ → Type 0
HandsAnswer (some_heads hs are) rest = HasNoAnswer rest
HandsAnswer {framed = framed} (head_and_body hs h plan used sent_on are final part) rest = IsSent plan.body framed (used ++ rest) sent_on

-- the request was handed on: its body is what was held and read, and its text was written
abbrev pub Forwards : Request → List ℕ → List ℕ → Option (List ℕ) → Option (List ℕ) → Option (List ℕ) → Option (List ℕ) → Type 0
Forwards view held rest r0 r w0 w = (used : List ℕ) × (text : List ℕ) × IsForwarded (unnamed Close) view used text × Conveys held rest r0 r w0 w used text

-- a fault was met before it was; a read that failed came after all that stood there was handed on
abbrev pub FailsToForward : Request → List ℕ → Option (List ℕ) → Option (List ℕ) → Option (List ℕ) → Option (List ℕ) → Fault → Type 0
FailsToForward view held r0 r w0 w fault =
    (used : List ℕ) × (text : List ℕ) × (part : PartOfForwarded (unnamed Close) view used text)
    × (misses : Misses held r0 r w0 w used text (LacksForwarded view) (WantsBody view) fault)
    × (fault ≡ Read → HandsRequest part misses.rest)

-- the answer was handed on: it is what was read, and its text was written
abbrev pub Answers : Request → List ℕ → Option (List ℕ) → Option (List ℕ) → Option (List ℕ) → Option (List ℕ) → Type 0
Answers view rest r0 r w0 w =
    (used : List ℕ) × (text : List ℕ) × (answered : IsAnswered Close view.method (framed_for view.version) used text)
    × Conveys [] rest r0 r w0 w used text
    × (answered.plan.body ≡ ToEnd → IsAtEnd r) × (answered.plan.body ≡ ToEnd → rest ≡ [])

-- a fault was met before it was; a read that failed came after all that stood there was handed on
abbrev pub FailsToAnswer : Request → Option (List ℕ) → Option (List ℕ) → Option (List ℕ) → Option (List ℕ) → Fault → Type 0
FailsToAnswer view r0 r w0 w fault =
    (used : List ℕ) × (text : List ℕ) × (part : PartOfAnswered Close view.method (framed_for view.version) used text)
    × (misses : Misses [] r0 r w0 w used text (LacksAnswer view.method) (WantsAnswer view.method) fault)
    × (fault ≡ Read → HandsAnswer part misses.rest)

-- what a part of an answer becomes up to the answer's own head
abbrev pub before_head : {says : Persistence} {method : List ℕ} {framed : Bool} {used text : List ℕ} → PartOfAnswered says method framed used text → List ℕ
before_head {framed = framed} (some_heads hs are) = interims_text framed hs
before_head {framed = framed} (head_and_body hs h plan used sent_on are final part) = interims_text framed hs

-- and from there on
abbrev pub from_head : {says : Persistence} {method : List ℕ} {framed : Bool} {used text : List ℕ} → PartOfAnswered says method framed used text → List ℕ
from_head (some_heads hs are) = []
from_head {says = says} {framed = framed} (head_and_body hs h plan used sent_on are final part) = answer_text says framed (answer_of h) plan ++ sent_on

-- Where all that was read of an answer came by one read, nothing was written of its own head and
-- what follows it, unless there was no room for these.
abbrev pub HoldsHead : Stream → Stream → Stream → Stream → {says : Persistence} {method : List ℕ} {framed : Bool} {used text : List ℕ}
    → PartOfAnswered says method framed used text → Type 0
HoldsHead s0 s w0 w part = s.calls ≤ s0.calls + 1 → Wrote w0 w (before_head part) ⊎ (OUTBOX_BYTES < length (from_head part) + 18)
