-- Whether something was written, by how many writes succeeded.
use Rattle.std.proofs.Common.{◌≡◌, ◌∙◌, ℕ, ◌+◌, ◌<◌, ◌≤◌, Bool, true, false, List, []}
use Rattle.std.proofs.Common.{◌++◌, length, Option, Some, None, refl, sym, ap, arith, append-nil, subst}
use Rattle.std.specs.Prelude.{◌||◌, nat_lt}
use Rattle.std.specs.Io.KnownBytes.{Appends, Keeps}
use Rattle.std.proofs.lemmas.Bool.{or_parts, true_from_ne_false, true≢false}
use Rattle.std.proofs.lemmas.Bool.Decides.{nat_tests}
use Rattle.base_streams.specs.Streams.{Stream}
use Rattle.base_lists.proofs.Fronts.{some_behind}
use Rattle.http_bodies.specs.Texts.{Wrote}
use Rattle.http_bodies.specs.declared.pipe.Pipe.{Pipe}
use Rattle.http_texts.specs.Messages.{IsAnswered, interims_text}
use Rattle.relay_http.specs.States.{Marks, emptied}
use Rattle.http_texts.specs.Texts.{answer_text}
use Rattle.http_texts.specs.declared.persistence.Persistence.TheVariants.{Close}
use Rattle.req_view.specs.Answer.{answer_of}

nothing_kept : (old new : Option (List ℕ)) (front : List ℕ) → front ≡ [] → Appends old new front → Keeps old new
nothing_kept None new front none appends = tt
nothing_kept (Some xs) None front none appends = appends
nothing_kept (Some xs) (Some ys) front none appends = appends ∙ ap (λ l. xs ++ l) none ∙ append-nil xs

no_less : (before after : ℕ) → nat_lt before after ≡ false → after ≤ before
no_less before after e = grind (arith, nat_tests)

is_less : (before after : ℕ) → nat_lt before after ≡ true → before < after
is_less before after e = grind (arith, nat_tests)

none_taken : {w0 w : Stream} {front : List ℕ} (before after : ℕ) → before + w0.failures ≡ w0.calls → after + w.failures ≡ w.calls → Wrote w0 w front
    → after ≤ before → front ≡ []
none_taken before after b a wrote few = wrote.none (omega (arith, b, a, few, wrote.more))

marks_by : {w0 w : Stream} {front : List ℕ} (begun now : Bool) (before after : ℕ) → before + w0.failures ≡ w0.calls → after + w.failures ≡ w.calls
    → Wrote w0 w front
    → now ≡ nat_lt before after → Marks w0 w begun (begun || now)
marks_by {w0} {w} {front} true now before after b a wrote is = record {
  stays = λ yes. yes;
  unset = λ no. absurd (true≢false no);
  rose = λ no yes. absurd (true≢false no);
}
marks_by {w0} {w} {front} false now before after b a wrote is = record {
  stays = λ yes. absurd (true≢false (sym yes));
  unset = λ no. nothing_kept w0.bytes w.bytes front (none_taken before after b a wrote (no_less before after (sym is ∙ no))) wrote.bytes;
  rose = λ no yes.
      let more : before < after = is_less before after (sym is ∙ yes) in
      (front, omega (arith, b, a, more, wrote.some), wrote.bytes);
}

pub marks : {w0 w : Stream} {front : List ℕ} (begun after_begun : Bool) (before after : ℕ) → before + w0.failures ≡ w0.calls → after + w.failures ≡ w.calls
    → Wrote w0 w front → after_begun ≡ (begun || nat_lt before after) → Marks w0 w begun after_begun
marks {w0} {w} begun after_begun before after b a wrote is =
    subst (λ (m : Bool). Marks w0 w begun m) (sym is) (marks_by begun (nat_lt before after) before after b a wrote refl)

-- where something was written, that is known
pub begun_by : {w0 w : Stream} {front : List ℕ} (begun after_begun : Bool) (before after : ℕ) → before + w0.failures ≡ w0.calls → after + w.failures ≡ w.calls
    → Wrote w0 w front → after_begun ≡ (begun || nat_lt before after) → 0 < length front → after_begun ≡ true
begun_by begun after_begun before after b a wrote is some =
    true_from_ne_false after_begun (λ no.
    let few = no_less before after (or_parts begun (nat_lt before after) (sym is ∙ no)).1 in
    omega (arith, some, ap length (none_taken before after b a wrote few)))

-- the pipe holds nothing, and is the same otherwise
pub pipe_emptied : (p q : Pipe) → q.inbox ≡ [] → q.outbox ≡ p.outbox → q.turns ≡ p.turns → q ≡ emptied p
pipe_emptied p q held waiting turns = λ i. record { inbox = held i; outbox = waiting i; turns = turns i }

-- an answer's text isn't empty
pub answered_some : {method : List ℕ} {framed : Bool} {used text : List ℕ} → IsAnswered Close method framed used text → 0 < length text
answered_some {framed = framed} {text = text} a =
    let some : 0 < length (interims_text framed a.interims ++ (answer_text Close framed (answer_of a.head) a.plan ++ a.sent_on)) =
    some_behind (interims_text framed a.interims) _ 72 in
    subst (λ (l : List ℕ). 0 < length l) (sym a.text_is) some
