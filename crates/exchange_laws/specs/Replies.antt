-- Answers one after another, as a client finds them that reads by the grammar and knows its requests.
use Rattle.std.specs.Prelude.{◌≡◌, ◌≢◌, ℕ, true, false, List, [], ◌∷◌, ◌++◌, Some}
use Rattle.std.specs.List.{AllByRecursion}
use Rattle.httparse.specs.Grammar.{ResponseHead, IsResponseHead, print_response}
use Rattle.http_bodies.specs.Framings.{IsBody}
use Rattle.http_bodies.specs.declared.framing.Framing.TheVariants.{ToEnd}
use Rattle.http_texts.specs.Framings.{answer_plan, is_interim}
use Rattle.http_texts.specs.Messages.{print_heads}
use Rattle.http_texts.specs.declared.plans.Plan.{Plan}
use Rattle.req_view.specs.Answer.{answer_of}

-- interim heads, the answer's own head, and its body
pub record Reply : Type 0 where
  pub interims : List ResponseHead
  pub head : ResponseHead
  pub body : List ℕ

-- an interim head by the grammar
pub record IsBefore (h : ResponseHead) : Type 0 where
  pub head : IsResponseHead h
  pub interim : is_interim (answer_of h).status ≡ true

-- a whole answer to a request with this method, with a marked end
pub record IsReply (method : List ℕ) (r : Reply) : Type 0 where
  pub before : AllByRecursion IsBefore r.interims
  pub head : IsResponseHead r.head
  pub final : is_interim (answer_of r.head).status ≡ false
  pub plan : Plan
  pub planned : answer_plan method (answer_of r.head) ≡ Some plan
  pub shows : plan.body ≢ ToEnd
  pub text : List ℕ
  pub body : IsBody plan.body true r.body text

-- its bytes
abbrev pub print_reply : Reply → List ℕ
print_reply r = print_heads r.interims ++ (print_response r.head ++ r.body)

-- one answer for each method, in order
abbrev pub AreReplies : List (List ℕ) → List Reply → Type 0
AreReplies [] [] = Unit {0}
AreReplies (method ∷ methods) (r ∷ rs) = IsReply method r × AreReplies methods rs
AreReplies [] (r ∷ rs) = ⊥
AreReplies (method ∷ methods) [] = ⊥
