-- Parts of a message at the front of one input, and what they become.
use Rattle.std.proofs.Common.{◌≡◌, ◌∙◌, ℕ, Bool, true, false, List, [], ◌∷◌, ◌++◌, Some, refl, sym, ap, append_assoc, append-nil, subst, inl, inr}
use Rattle.std.specs.List.{AllByRecursion}
use Rattle.httparse.specs.Grammar.{ResponseHead, print_response}
use Rattle.httparse.proofs.GrammarLemmas.{response_unique}
use Rattle.base_lists.specs.Fronts.{AreComparable}
use Rattle.base_lists.proofs.Fronts.{front_nil, swap, under, comparable_as}
use Rattle.http_bodies.specs.Framings.{PartOfBody}
use Rattle.http_bodies.specs.declared.framing.Framing as Framed
use Rattle.http_bodies.proofs.Comparing.{bodies_agree}
use Rattle.http_texts.specs.Framings.{answer_plan, is_interim}
use Rattle.http_texts.specs.Heads.{IsAnswer}
use Rattle.http_texts.specs.Messages.{IsForwarded, PartOfForwarded, IsInterim, IsFinal, print_heads, interims_text, IsAnswered, PartOfAnswered}
use Rattle.http_texts.specs.Messages.PartOfForwarded.{nothing, head_and_body as request}
use Rattle.http_texts.specs.Messages.PartOfAnswered.{some_heads, head_and_body as answer}
use Rattle.http_texts.specs.Texts.{request_text, answer_text, interim_text}
use Rattle.http_texts.specs.declared.additions.Additions.{Additions}
use Rattle.http_texts.specs.declared.persistence.Persistence.{Persistence}
use Rattle.http_texts.specs.declared.plans.Plan.{Plan}
use Rattle.http_texts.proofs.Forwarding.{body_part}
use Rattle.req_view.specs.Answer.{answer_of}
use Rattle.req_view.specs.Request.{Request}

-- a head at the front of an input is the only one
pub same_head : (h k : ResponseHead) (x y : List ℕ) → IsAnswer h → IsAnswer k → print_response h ++ x ≡ print_response k ++ y → (h ≡ k) × (x ≡ y)
same_head h k x y is other e = response_unique (print_response h ++ x) h k x y (is.reads.0, refl) (other.reads.0, e)

module _ (adds : Additions) where
  pub forwarded_agree : (r : Request) {used text more_used more_text : List ℕ} (rest more_rest : List ℕ) → PartOfForwarded adds r used text
      → PartOfForwarded adds r more_used more_text → used ++ rest ≡ more_used ++ more_rest → AreComparable text more_text
  forwarded_agree r {more_text = more_text} rest more_rest nothing other e = inl (front_nil more_text)
  forwarded_agree r {text = text} rest more_rest one nothing e = inr (front_nil text)
  forwarded_agree r rest more_rest (request f u b is part) (request g v c same other) e =
      let one : Some f ≡ Some g = sym is ∙ same in
      let framings : f ≡ g = cc in
      comparable_as refl (ap (λ (h : Framed.Framing). request_text adds r h ++ c) framings)
      (under (request_text adds r f) (bodies_agree f true u b v c rest more_rest part (subst (λ (h : Framed.Framing). PartOfBody h true v c)
      (sym framings) other) e))

  pub forwarded_part : {r : Request} {used text : List ℕ} → IsForwarded adds r used text → PartOfForwarded adds r used text
  forwarded_part {r} {used} w =
      subst (λ (l : List ℕ). PartOfForwarded adds r used l) (sym w.text_is) (request w.framing used w.body w.framed
      (body_part w.framing true used w.body w.passes))

module _ (says : Persistence) where
  -- what stands behind the heads before an answer: nothing yet, or the answer's own and a part of its body
  data Tail (method : List ℕ) (framed : Bool) : List ℕ → List ℕ → Type 0 where
    none : Tail method framed [] []
    final : (h : ResponseHead) (plan : Plan) (used text : List ℕ) → IsFinal method h plan → PartOfBody plan.body framed used text
        → Tail method framed (print_response h ++ used) (answer_text says framed (answer_of h) plan ++ text)

  tails_agree : {method : List ℕ} {framed : Bool} {used text more_used more_text : List ℕ} (x y : List ℕ) → Tail method framed used text
      → Tail method framed more_used more_text → used ++ x ≡ more_used ++ y → AreComparable text more_text
  tails_agree {more_text = more_text} x y none other e = inl (front_nil more_text)
  tails_agree {text = text} x y one none e = inr (front_nil text)
  tails_agree {method} {framed} x y (final h p u t is part) (final k q v s other more) e =
      let same = same_head h k (u ++ x) (v ++ y) is.head other.head
      (sym (append_assoc (print_response h) u x) ∙ e ∙ append_assoc (print_response k) v y) in
      let both : Some p ≡ Some q = sym is.planned ∙ ap (λ (j : ResponseHead). answer_plan method (answer_of j)) same.0 ∙ other.planned in
      let plans : p ≡ q = cc in
      let texts : answer_text says framed (answer_of h) p ≡ answer_text says framed (answer_of k) q = λ i. answer_text says framed (answer_of (same.0 i))
      (plans i) in
      comparable_as refl (ap (λ l. l ++ s) texts)
      (under (answer_text says framed (answer_of h) p)
      (bodies_agree p.body framed u t v s x y part (subst (λ (j : Plan). PartOfBody j.body framed v s) (sym plans) more) same.1))

  two_kinds : (method : List ℕ) (h k : ResponseHead) (plan : Plan) → h ≡ k → IsFinal method h plan → IsInterim method k → ⊥
  two_kinds method h k plan same is other =
      let wrong : true ≡ false = sym other.interim ∙ sym (ap (λ (j : ResponseHead). is_interim (answer_of j).status) same) ∙ is.final in cc

  -- a tail against more heads
  tail_first : {method : List ℕ} {framed : Bool} {used text : List ℕ} (k : ResponseHead) (x y more : List ℕ) → IsInterim method k → Tail method framed used text
      → used ++ x ≡ print_response k ++ y → AreComparable text more
  tail_first k x y more is none e = inl (front_nil more)
  tail_first {method} k x y more is (final h p u t other part) e =
      absurd (two_kinds method h k p (same_head h k (u ++ x) y other.head is.head (sym (append_assoc (print_response h) u x) ∙ e)).0 other is)

  heads_agree : {method : List ℕ} {framed : Bool} {used text more_used more_text : List ℕ} (hs ks : List ResponseHead) (x y : List ℕ)
      → AllByRecursion (IsInterim method) hs → AllByRecursion (IsInterim method) ks → Tail method framed used text → Tail method framed more_used more_text
      → (print_heads hs ++ used) ++ x ≡ (print_heads ks ++ more_used) ++ y
      → AreComparable (interims_text framed hs ++ text) (interims_text framed ks ++ more_text)
  heads_agree [] [] x y p q one other e = tails_agree x y one other e
  heads_agree {framed = framed} {more_used = v} {more_text = s} [] (k ∷ ks) x y p q one other e =
      tail_first k x ((print_heads ks ++ v) ++ y) (interims_text framed (k ∷ ks) ++ s) q.0 one
      (e ∙ ap (λ l. l ++ y) (append_assoc (print_response k) (print_heads ks) v) ∙ append_assoc (print_response k) (print_heads ks ++ v) y)
  heads_agree {framed = framed} {used = u} {text = t} (h ∷ hs) [] x y p q one other e =
      swap (tail_first h y ((print_heads hs ++ u) ++ x) (interims_text framed (h ∷ hs) ++ t) p.0 other
      (sym e ∙ ap (λ l. l ++ x) (append_assoc (print_response h) (print_heads hs) u) ∙ append_assoc (print_response h) (print_heads hs ++ u) x))
  heads_agree {framed = framed} {used = u} {text = t} {more_used = v} {more_text = s} (h ∷ hs) (k ∷ ks) x y p q one other e =
      let first = print_heads hs ++ u in
      let second = print_heads ks ++ v in
      let whole : print_response h ++ (first ++ x) ≡ print_response k ++ (second ++ y) =
      sym (append_assoc (print_response h) first x)
      ∙ ap (λ l. l ++ x) (sym (append_assoc (print_response h) (print_heads hs) u))
      ∙ e
      ∙ ap (λ l. l ++ y) (append_assoc (print_response k) (print_heads ks) v)
      ∙ append_assoc (print_response k) second y in
      let same = same_head h k (first ++ x) (second ++ y) p.0.head q.0.head whole in
      let texts = ap (λ (j : ResponseHead). interim_text framed (answer_of j)) same.0 in
      comparable_as (sym (append_assoc (interim_text framed (answer_of h)) (interims_text framed hs) t))
      (ap (λ l. l ++ (interims_text framed ks ++ s)) texts ∙ sym (append_assoc (interim_text framed (answer_of k)) (interims_text framed ks) s))
      (under (interim_text framed (answer_of h)) (heads_agree hs ks x y p.1 q.1 one other same.1))

  record Parts (method : List ℕ) (framed : Bool) (used text : List ℕ) : Type 0 where
    hs : List ResponseHead
    each : AllByRecursion (IsInterim method) hs
    tail_used : List ℕ
    tail_text : List ℕ
    tail : Tail method framed tail_used tail_text
    used_is : used ≡ print_heads hs ++ tail_used
    text_is : text ≡ interims_text framed hs ++ tail_text

  parts : {method : List ℕ} {framed : Bool} {used text : List ℕ} → PartOfAnswered says method framed used text → Parts method framed used text
  parts {framed = framed} (some_heads hs are) = record {
    hs = hs;
    each = are.each;
    tail_used = [];
    tail_text = [];
    tail = none;
    used_is = sym (append-nil (print_heads hs));
    text_is = sym (append-nil (interims_text framed hs));
  }
  parts {framed = framed} (answer hs h plan u t are is part) = record {
    hs = hs;
    each = are.each;
    tail_used = print_response h ++ u;
    tail_text = answer_text says framed (answer_of h) plan ++ t;
    tail = final h plan u t is part;
    used_is = refl;
    text_is = refl;
  }

  pub answered_agree : {method : List ℕ} {framed : Bool} {used text more_used more_text : List ℕ} (rest more_rest : List ℕ)
      → PartOfAnswered says method framed used text
      → PartOfAnswered says method framed more_used more_text → used ++ rest ≡ more_used ++ more_rest → AreComparable text more_text
  answered_agree rest more_rest one other e =
      let a = parts one in
      let b = parts other in
      comparable_as (sym a.text_is) (sym b.text_is)
      (heads_agree a.hs b.hs rest more_rest a.each b.each a.tail b.tail (ap (λ l. l ++ rest) (sym a.used_is) ∙ e ∙ ap (λ l. l ++ more_rest) b.used_is))

  pub answered_part : {method : List ℕ} {framed : Bool} {used text : List ℕ} → IsAnswered says method framed used text
      → PartOfAnswered says method framed used text
  answered_part {method} {framed} {used} {text} w =
      let part = answer w.interims w.head w.plan w.body w.sent_on w.are w.final (body_part w.plan.body framed w.body w.sent_on w.passes) in
      subst (λ (l : List ℕ). PartOfAnswered says method framed used l) (sym w.text_is)
      (subst (λ (l : List ℕ). PartOfAnswered says method framed l (interims_text framed w.interims ++ (answer_text says framed (answer_of w.head) w.plan
      ++ w.sent_on)))
      (sym w.used_is) part)
