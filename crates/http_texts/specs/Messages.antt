-- Messages that are handed on: which input is one, or a part of one, and what it becomes.
use Rattle.std.specs.Prelude.{◌≡◌, ◌⊎◌, ℕ, ◌<◌, ◌≤◌, Bool, true, false, List, [], ◌++◌, length, Some, None, IsSome}
use Rattle.std.specs.List.{flat_map, AllByRecursion}
use Rattle.httparse.specs.Grammar.{ResponseHead, print_response}
use Rattle.http_bodies.specs.Framings.{IsBody, PartOfBody, LacksBody}
use Rattle.http_bodies.specs.declared.framing.Framing as Framed
use Rattle.http_texts.specs.Framings.{request_framing, answer_plan, is_interim}
use Rattle.http_texts.specs.Heads.{IsAnswer}
use Rattle.http_texts.specs.Texts.{request_text, answer_text, interim_text}
use Rattle.http_texts.specs.declared.additions.Additions.{Additions}
use Rattle.http_texts.specs.declared.fault.Fault.{Fault}
use Rattle.http_texts.specs.declared.fault.Fault.TheVariants.{NoMemory, Head, Framing, Read, Write, Turns, Closed}
use Rattle.http_texts.specs.declared.roles.Role.{Role}
use Rattle.http_texts.specs.declared.roles.Role.TheVariants.{Final, Interim, Refused}
use Rattle.http_texts.specs.declared.persistence.Persistence.{Persistence}
use Rattle.http_texts.specs.declared.plans.Plan.{Plan}
use Rattle.req_view.specs.Answer.{Answer, answer_of}
use Rattle.req_view.specs.AnswerHeads.{HasNoAnswer, NeverHasAnswer}
use Rattle.req_view.specs.Request.{Request}

-- `used` is the body of the request, and `text` is what the request becomes
pub record IsForwarded (adds : Additions) (r : Request) (used text : List ℕ) : Type 0 where
  pub framing : Framed.Framing
  pub framed : request_framing r ≡ Some framing
  pub body : List ℕ
  pub passes : IsBody framing true used body
  pub text_is : text ≡ request_text adds r framing ++ body

-- `used` is a part of its body, and `text` is what the head and that part become; a request with an
-- unsound framing becomes nothing
pub data PartOfForwarded (adds : Additions) (r : Request) : List ℕ → List ℕ → Type 0 where
  nothing : PartOfForwarded adds r [] []
  head_and_body : (framing : Framed.Framing) (used body : List ℕ) → request_framing r ≡ Some framing → PartOfBody framing true used body
      → PartOfForwarded adds r used (request_text adds r framing ++ body)

-- the fault of the bytes of a body
abbrev pub NoBody : Framed.Framing → Fault → List ℕ → Type 0
NoBody framing Read input = LacksBody framing input
NoBody framing Framing input = (more : List ℕ) → LacksBody framing (input ++ more)
NoBody framing Head input = ⊥
NoBody framing NoMemory input = ⊥
NoBody framing Write input = ⊥
NoBody framing Turns input = ⊥
NoBody framing Closed input = ⊥

-- the fault of a request whose head was read
pub data LacksForwarded (r : Request) (fault : Fault) (input : List ℕ) : Type 0 where
  no_framing : fault ≡ Framing → request_framing r ≡ None → LacksForwarded r fault input
  no_body : (framing : Framed.Framing) → request_framing r ≡ Some framing → NoBody framing fault input → LacksForwarded r fault input

-- an interim head before the answer to a request with this method
pub record IsInterim (method : List ℕ) (h : ResponseHead) : Type 0 where
  pub head : IsAnswer h
  pub planned : IsSome (answer_plan method (answer_of h))
  pub interim : is_interim (answer_of h).status ≡ true

-- the answer's own head, and the plan for its body
pub record IsFinal (method : List ℕ) (h : ResponseHead) (plan : Plan) : Type 0 where
  pub head : IsAnswer h
  pub planned : answer_plan method (answer_of h) ≡ Some plan
  pub final : is_interim (answer_of h).status ≡ false

-- the role of a head after this number of interim heads: the answer's own, an interim one, or one
-- whose framing is unsound or that is the ninth
abbrev pub HasRole : List ℕ → Answer → ℕ → Role → Type 0
HasRole method a n (Final plan) = (answer_plan method a ≡ Some plan) × (is_interim a.status ≡ false)
HasRole method a n Interim = IsSome (answer_plan method a) × (is_interim a.status ≡ true) × (n < 8)
HasRole method a n Refused = (answer_plan method a ≡ None) ⊎ (IsSome (answer_plan method a) × (is_interim a.status ≡ true) × (8 ≤ n))

-- at most eight interim heads come before the answer
pub record AreInterims (method : List ℕ) (hs : List ResponseHead) : Type 0 where
  pub each : AllByRecursion (IsInterim method) hs
  pub few : length hs ≤ 8

abbrev pub print_heads : List ResponseHead → List ℕ
print_heads hs = flat_map print_response hs

abbrev pub interims_text : Bool → List ResponseHead → List ℕ
interims_text framed hs = flat_map (λ h. interim_text framed (answer_of h)) hs

-- `used` is the answer to a request with this method, with its interim heads, and `text` is what they become
pub record IsAnswered (says : Persistence) (method : List ℕ) (framed : Bool) (used text : List ℕ) : Type 0 where
  pub interims : List ResponseHead
  pub are : AreInterims method interims
  pub head : ResponseHead
  pub plan : Plan
  pub final : IsFinal method head plan
  pub body : List ℕ
  pub sent_on : List ℕ
  pub passes : IsBody plan.body framed body sent_on
  pub used_is : used ≡ print_heads interims ++ (print_response head ++ body)
  pub text_is : text ≡ interims_text framed interims ++ (answer_text says framed (answer_of head) plan ++ sent_on)

-- `used` is a part of such an answer, and `text` is what it becomes
pub data PartOfAnswered (says : Persistence) (method : List ℕ) (framed : Bool) : List ℕ → List ℕ → Type 0 where
  some_heads : (hs : List ResponseHead) → AreInterims method hs → PartOfAnswered says method framed (print_heads hs) (interims_text framed hs)
  head_and_body : (hs : List ResponseHead) (h : ResponseHead) (plan : Plan) (used sent_on : List ℕ) → AreInterims method hs → IsFinal method h plan
      → PartOfBody plan.body framed used sent_on
      → PartOfAnswered says method framed (print_heads hs ++ (print_response h ++ used)) (interims_text framed hs ++ (answer_text says framed
      (answer_of h) plan ++ sent_on))

-- after these interim heads the input ends too early
pub data EndsEarly (method : List ℕ) : List ℕ → Type 0 where
  no_head : (rest : List ℕ) → HasNoAnswer rest → EndsEarly method rest
  no_body : (h : ResponseHead) (plan : Plan) (rest : List ℕ) → IsFinal method h plan → LacksBody plan.body rest → EndsEarly method (print_response h ++ rest)

-- or there stands a head with an unsound framing, a ninth interim head, or a head after which its
-- body can't stand
pub data BadlyFramed (method : List ℕ) : ℕ → List ℕ → Type 0 where
  no_plan : (n : ℕ) (h : ResponseHead) (rest : List ℕ) → IsAnswer h → answer_plan method (answer_of h) ≡ None → BadlyFramed method n (print_response h ++ rest)
  ninth : (h : ResponseHead) (rest : List ℕ) → IsInterim method h → BadlyFramed method 8 (print_response h ++ rest)
  bad_body : (n : ℕ) (h : ResponseHead) (plan : Plan) (rest : List ℕ) → IsFinal method h plan → ((more : List ℕ) → LacksBody plan.body (rest ++ more))
      → BadlyFramed method n (print_response h ++ rest)

-- the input begins with interim heads, and then comes what `Then` says for their number
pub record Behind (method : List ℕ) (Then : ℕ → List ℕ → Type 0) (input : List ℕ) : Type 0 where
  pub interims : List ResponseHead
  pub are : AreInterims method interims
  pub rest : List ℕ
  pub input_is : input ≡ print_heads interims ++ rest
  pub then : Then (length interims) rest

-- the fault of an answer
abbrev pub LacksAnswer : List ℕ → Fault → List ℕ → Type 0
LacksAnswer method Read input = Behind method (λ n rest. EndsEarly method rest) input
LacksAnswer method Head input = Behind method (λ n rest. NeverHasAnswer rest) input
LacksAnswer method Framing input = Behind method (BadlyFramed method) input
LacksAnswer method NoMemory input = Unit {0}
LacksAnswer method Write input = ⊥
LacksAnswer method Turns input = ⊥
LacksAnswer method Closed input = ⊥
