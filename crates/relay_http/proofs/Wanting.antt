-- What an answer lacks behind its interim heads, where more of it is wanted.
use Rattle.std.proofs.Common.{ℕ, List, ◌++◌, refl, sym, append_assoc, subst}
use Rattle.httparse.specs.Grammar.{ResponseHead, print_response}
use Rattle.http_bodies.specs.Framings.{IsUnfinished}
use Rattle.http_bodies.specs.Steps.{IsAll}
use Rattle.http_texts.specs.Messages.{AreInterims, IsFinal, print_heads}
use Rattle.http_texts.specs.declared.plans.Plan.{Plan}
use Rattle.relay_http.specs.Wants.{IsUnanswered, WantsAnswer}
use Rattle.relay_http.specs.Wants.IsUnanswered.{no_head, no_body}
use Rattle.req_view.specs.AnswerHeads.{HasNoAnswer}

wanted : (method : List ℕ) (hs : List ResponseHead) (l : List ℕ) → AreInterims method hs → IsUnanswered method l → WantsAnswer method (print_heads hs ++ l)
wanted method hs l are is = record { interims = hs; are = are; rest = l; input_is = refl; then = is }

-- a head
pub head_wanted : (method : List ℕ) (hs : List ResponseHead) (held l : List ℕ) → AreInterims method hs → HasNoAnswer held → IsAll held l
    → WantsAnswer method (print_heads hs ++ l)
head_wanted method hs held l are none all = wanted method hs l are (no_head l (subst HasNoAnswer (sym all) none))

-- or the rest of its body
pub body_wanted : (method : List ℕ) (hs : List ResponseHead) (h : ResponseHead) (plan : Plan) (l : List ℕ) → AreInterims method hs → IsFinal method h plan
    → IsUnfinished plan.body l
    → WantsAnswer method ((print_heads hs ++ print_response h) ++ l)
body_wanted method hs h plan l are is unfinished =
    subst (WantsAnswer method) (sym (append_assoc (print_heads hs) (print_response h) l))
    (wanted method hs (print_response h ++ l) are (no_body h plan l is unfinished))
