-- A head ends in a line feed: where none came since there was no head, there is none.
use Rattle.std.proofs.Common.{◌≡◌, ◌∙◌, ◌⊎◌, inl, inr, ◌==◌, ◌||◌, ℕ, Bool, true, false, true≢false, List, [], ◌∷◌, ◌++◌, refl, sym, ap, append_assoc, append-nil}
use Rattle.std.specs.List.{list_any, flat_map}
use Rattle.std.proofs.lemmas.List.{append_cancel_left}
use Rattle.std.proofs.lemmas.List.Folds.{list_any-append}
use Rattle.httparse.specs.Grammar.{LineEnd, RequestHead, ResponseHead, print_blank, print_end, print_field, print_reason, print_request, print_response, print_section, print_version}
use Rattle.httparse.specs.Grammar.LineEnd.{crlf, lf}
use Rattle.httparse.specs.Ascii.{space}
use Rattle.base_lists.proofs.Fronts.{two_fronts}
use Rattle.req_view.specs.AnswerHeads.{HasNoAnswer}
use Rattle.exchange_machine.specs.Requests.{MayCome}
use Rattle.req_view.specs.Heads.{HasHead, HasNoHead}

abbrev pub has_feed : List ℕ → Bool
has_feed bytes = list_any (λ byte. byte == 10) bytes

record EndsInFeed (bytes : List ℕ) : Type 0 where
  front : List ℕ
  is : bytes ≡ front ++ 10 ∷ []

end_feed : (e : LineEnd) → EndsInFeed (print_end e)
end_feed crlf = record { front = 13 ∷ []; is = refl }
end_feed lf = record { front = []; is = refl }

behind_feed : (front bytes : List ℕ) → EndsInFeed bytes → EndsInFeed (front ++ bytes)
behind_feed front bytes is = record { front = front ++ is.front; is = ap (λ l. front ++ l) is.is ∙ sym (append_assoc front is.front (10 ∷ [])) }

request_feed : (h : RequestHead) → EndsInFeed (print_request h)
unfolding print_request
request_feed h =
    behind_feed (print_blank h.blank ++ h.method ++ space ∷ h.target ++ space ∷ print_version h.minor ++ print_end h.line_end) (print_section h.fields h.last)
    (behind_feed (flat_map print_field h.fields) (print_end h.last) (end_feed h.last))

response_feed : (h : ResponseHead) → EndsInFeed (print_response h)
unfolding print_response
response_feed h =
    behind_feed (print_blank h.blank ++ print_version h.minor ++ space ∷ h.digits ++ print_reason h.reason ++ print_end h.line_end) (print_section h.fields h.last)
    (behind_feed (flat_map print_field h.fields) (print_end h.last) (end_feed h.last))

or_feed : (b : Bool) → (b || true) ≡ true
or_feed true = refl
or_feed false = refl

feed_at_end : (front : List ℕ) → has_feed (front ++ 10 ∷ []) ≡ true
feed_at_end front = list_any-append (λ byte. byte == 10) front (10 ∷ []) ∙ or_feed (has_feed front)

-- what ends in a feed has one behind any of its fronts, but for all of it
feed_behind : (held more front : List ℕ) → held ++ more ≡ front ++ 10 ∷ [] → (more ≡ []) ⊎ (has_feed more ≡ true)
feed_behind [] more front is = inr (ap has_feed is ∙ feed_at_end front)
feed_behind (b ∷ []) more [] is = inl (append_cancel_left (b ∷ []) more [] (one_alone b more is))
  where
    one_alone : (b : ℕ) (more : List ℕ) → b ∷ more ≡ 10 ∷ [] → b ∷ more ≡ b ∷ []
    one_alone b more e = cc
feed_behind (b ∷ c ∷ held) more [] is = absurd cc
feed_behind (b ∷ held) more (c ∷ front) is = feed_behind held more front cc

-- a head that stands in a front of what came
head_in : (bytes : List ℕ) (h : RequestHead) (rest whole behind : List ℕ) → HasHead whole h behind → bytes ≡ print_request h ++ rest → HasHead bytes h rest
head_in bytes h rest whole behind is e = (record { reads = (is.0.reads.0, e); few_bytes = is.0.few_bytes; few_fields = is.0.few_fields }, is.1)

none_left : (front rest : List ℕ) → [] ≡ (front ++ 10 ∷ []) ++ rest → ⊥
none_left [] rest e = cc
none_left (b ∷ front) rest e = cc

-- what ends in a feed, and stands in what came, stood there before the last feed came
stands_before : (held more text rest : List ℕ) → EndsInFeed text → held ++ more ≡ text ++ rest → has_feed more ≡ false → (m : List ℕ) × (held ≡ text ++ m)
stands_before held more text rest feed is dry =
    elim (two_fronts held text more rest is) [
      | inl f ↦
          let behind : more ≡ f.rest ++ rest =
          append_cancel_left held more (f.rest ++ rest) (is ∙ ap (λ l. l ++ rest) f.is ∙ append_assoc held f.rest rest) in
          elim (feed_behind held f.rest feed.front (sym f.is ∙ feed.is)) [
            | inl all ↦ ([], sym (append-nil held) ∙ ap (λ l. held ++ l) (sym all) ∙ sym f.is ∙ sym (append-nil text))
            | inr some ↦
                absurd (true≢false (sym (ap (λ b. b || has_feed rest) some) ∙ sym (list_any-append (λ byte. byte == 10) f.rest rest) ∙ ap has_feed (sym behind) ∙ dry))
          ]
      | inr f ↦ (f.rest, f.is)
    ]

pub no_head_yet : (held more : List ℕ) → HasNoHead held → has_feed more ≡ false → HasNoHead (held ++ more)
no_head_yet held more none dry h rest is =
    let before = stands_before held more (print_request h) rest (request_feed h) is.0.reads.1 dry in
    none h before.0 (head_in held h before.0 (held ++ more) rest is before.1)

pub no_answer_yet : (held more : List ℕ) → HasNoAnswer held → has_feed more ≡ false → HasNoAnswer (held ++ more)
no_answer_yet held more none dry h rest is =
    let before = stands_before held more (print_response h) rest (response_feed h) is.reads.1 dry in
    none h before.0 (record { reads = (is.reads.0, before.1); few_bytes = is.few_bytes; few_fields = is.few_fields })

pub no_answer_at_all : HasNoAnswer []
no_answer_at_all h rest is =
    let feed = response_feed h in
    none_left feed.front rest (is.reads.1 ∙ ap (λ l. l ++ rest) feed.is)

pub no_head_at_all : HasNoHead []
no_head_at_all h rest is =
    let feed = request_feed h in
    none_left feed.front rest (is.0.reads.1 ∙ ap (λ l. l ++ rest) feed.is)

-- a head may still come, where no line has ended since
pub may_still : {Awaits : List ℕ → Type 0} (input bytes : List ℕ) → MayCome Awaits input → has_feed bytes ≡ false → MayCome Awaits (input ++ bytes)
may_still input bytes may dry = record {
  front = may.front;
  since = may.since ++ bytes;
  input_is = ap (λ l. l ++ bytes) may.input_is ∙ append_assoc may.front may.since bytes;
  waits = may.waits;
  unended = list_any-append (λ byte. byte == 10) may.since bytes ∙ ap (λ b. b || has_feed bytes) may.unended ∙ dry;
}

-- what is waited on at a look
pub may_come : {Awaits : List ℕ → Type 0} (input : List ℕ) → Awaits input → MayCome Awaits input
may_come input waits = record { front = input; since = []; input_is = sym (append-nil input); waits = inr waits; unended = refl }

-- where nothing came, too
pub may_at_all : {Awaits : List ℕ → Type 0} → MayCome Awaits []
may_at_all = record { front = []; since = []; input_is = refl; waits = inl refl; unended = refl }
