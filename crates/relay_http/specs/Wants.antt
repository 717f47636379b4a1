-- What is still wanted of a message where the turns are spent, or a read fails.
use Rattle.std.specs.Prelude.{◌≡◌, ℕ, List, ◌++◌, Some}
use Rattle.httparse.specs.Grammar.{ResponseHead, print_response}
use Rattle.http_bodies.specs.Framings.{IsUnfinished}
use Rattle.http_bodies.specs.declared.framing.Framing.{Framing}
use Rattle.http_texts.specs.Framings.{request_framing}
use Rattle.http_texts.specs.Messages.{IsFinal, Behind}
use Rattle.http_texts.specs.declared.plans.Plan.{Plan}
use Rattle.req_view.specs.AnswerHeads.{HasNoAnswer}
use Rattle.req_view.specs.Request.{Request}

-- the body of a request whose head was read isn't whole yet
abbrev pub WantsBody : Request → List ℕ → Type 0
WantsBody r input = (framing : Framing) × (request_framing r ≡ Some framing) × IsUnfinished framing input

-- after interim heads there is no head yet, or its body isn't whole yet
pub data IsUnanswered (method : List ℕ) : List ℕ → Type 0 where
  no_head : (rest : List ℕ) → HasNoAnswer rest → IsUnanswered method rest
  no_body : (h : ResponseHead) (plan : Plan) (rest : List ℕ) → IsFinal method h plan → IsUnfinished plan.body rest → IsUnanswered method (print_response h ++ rest)

-- the answer isn't whole yet
abbrev pub WantsAnswer : List ℕ → List ℕ → Type 0
WantsAnswer method input = Behind method (λ n rest. IsUnanswered method rest) input
