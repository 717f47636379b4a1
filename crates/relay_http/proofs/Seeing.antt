-- What is seen of an answer's heads in what a pipe holds.
use Rattle.std.proofs.Common.{◌≡◌, ◌∙◌, ℕ, List, ◌++◌, length, drop, inl, inr, refl, sym, ap, arith, append_assoc, subst}
use Rattle.std.specs.Prelude.{IsSome, Option}
use Rattle.httparse.specs.Grammar.{ResponseHead, print_response}
use Rattle.base_streams.specs.Streams.{Stream}
use Rattle.http_bodies.specs.declared.pipe.Pipe.{Pipe}
use Rattle.http_bodies.specs.Steps.{Ends, ends, Moves}
use Rattle.exchange_machine.specs.Findings.{NoneStands}
use Rattle.base_lists.proofs.Fronts.{behind}
use Rattle.http_texts.specs.Framings.{answer_plan, is_interim}
use Rattle.http_texts.specs.Messages.{AreInterims, print_heads, LacksAnswer}
use Rattle.http_texts.specs.Messages.BadlyFramed.{no_plan}
use Rattle.http_texts.specs.declared.fault.Fault.{Fault}
use Rattle.http_texts.specs.declared.fault.Fault.TheVariants as Faulty
use Rattle.http_texts.specs.declared.plans.Plan.{Plan}
use Rattle.http_texts.proofs.Alone.{answer_alone}
use Rattle.http_texts.proofs.Forwarding.{bad_here, ninth_here}
use Rattle.relay_http.specs.Failures.{Fails}
use Rattle.relay_http.specs.Wants.{WantsAnswer}
use Rattle.relay_http.proofs.Failing.{fails_head, fails_framing, fails_memory}
use Rattle.req_view.specs.Answer.{Answer, answer_of}
use Rattle.req_view.specs.AnswerHeads.{NeverHasAnswer}

-- the front of what is held is used
pub used_front : (p q : Pipe) (held front rest : List ℕ) (n : ℕ) → held ≡ p.inbox → held ≡ front ++ rest → n ≡ length front → q.inbox ≡ drop n p.inbox
    → p.inbox ≡ front ++ q.inbox
used_front p q held front rest n same is len left =
    let whole = sym same ∙ is in
    whole ∙ ap (λ l. front ++ l) (sym (left ∙ behind p.inbox front rest n whole len))

-- and not one that the reader can't tell
pub none_unread : (method : List ℕ) (count : ℕ) (held : List ℕ) (why : Fault) → why ≡ Faulty.Read → NoneStands method count held why → ⊥
none_unread method count held why is none = subst (λ (f : Fault). NoneStands method count held f) is none

-- none is handed on
pub fails_unseen : {a : Ends} {p : Pipe} {s w : Stream} {text : List ℕ} (method other : List ℕ) (hs : List ResponseHead) (count : ℕ) (held : List ℕ)
    (why : Fault)
    → AreInterims method hs → length hs ≡ count → other ≡ method → held ≡ p.inbox → NoneStands other count held why
    → Moves a (ends p s w) (print_heads hs) text
    → Fails a (ends p s w) (print_heads hs) text (LacksAnswer method) (WantsAnswer method) why
fails_unseen {p = p} method other hs count held Faulty.Head are len same all none so_far =
    fails_head (LacksAnswer method) (WantsAnswer method) so_far (record {
      interims = hs;
      are = are;
      rest = p.inbox;
      input_is = refl;
      then = subst (λ (l : List ℕ). NeverHasAnswer l) all none;
    })
fails_unseen {p = p} method other hs count held Faulty.Framing are len same all none so_far =
    let says = none.says in
    let h = says.head in
    let planned : answer_plan other none.answer ≡ answer_plan method (answer_of h) = λ i. answer_plan (same i) (says.answer i) in
    let status : is_interim none.answer.status ≡ is_interim (answer_of h).status = ap (λ (a : Answer). is_interim a.status) says.answer in
    let is = answer_alone h says.stands in
    let whole : (print_heads hs ++ print_response h) ++ says.rest ≡ print_heads hs ++ p.inbox =
    append_assoc (print_heads hs) (print_response h) says.rest ∙ ap (λ l. print_heads hs ++ l) (sym says.stands.reads.1 ∙ all) in
    let bad : LacksAnswer method Faulty.Framing ((print_heads hs ++ print_response h) ++ says.rest) = elim none.role [
      | inl unread ↦ bad_here method hs h says.rest are (no_plan (length hs) h says.rest is (sym planned ∙ unread))
      | inr many ↦ ninth_here method hs h says.rest are (omega (arith, len, many.2))
          (record { head = is; planned = subst (λ (o : Option Plan). IsSome o) planned many.0; interim = sym status ∙ many.1 })
    ] in
    fails_framing (LacksAnswer method) (WantsAnswer method) so_far (subst (λ (l : List ℕ). LacksAnswer method Faulty.Framing l) whole bad)
fails_unseen method other hs count held Faulty.NoMemory are len same all none so_far =
    fails_memory (LacksAnswer method) (WantsAnswer method) so_far tt
fails_unseen method other hs count held Faulty.Read are len same all none so_far = absurd none
fails_unseen method other hs count held Faulty.Write are len same all none so_far = absurd none
fails_unseen method other hs count held Faulty.Turns are len same all none so_far = absurd none
fails_unseen method other hs count held Faulty.Closed are len same all none so_far = absurd none
