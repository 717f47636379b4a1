-- Worked examples of what an exchange is after its calls.
use Rattle.std.proofs.Common.{◌≡◌, ℕ, Option, List, [], Some, true, false, codes, length, length-append, refl, ap, arith, inl, inr}
use Rattle.std.proofs.KnownBytes.{Consumes-nil, Appends-nil}
use base.Fml.{GName}
use Rattle.base_streams.specs.Streams.{Stream}
use Rattle.httparse.specs.Grammar.{ResponseHead}
use Rattle.exchange_machine.proofs.HeadEnds.{no_answer_at_all}
use Rattle.http_bodies.specs.Framings.{IsUnfinished}
use Rattle.http_bodies.specs.Steps.{Ends}
use Rattle.http_bodies.specs.declared.framing.Framing.TheVariants.{Length}
use Rattle.http_texts.specs.declared.fault.Fault.TheVariants.{Read, Turns as TurnsSpent}
use Rattle.http_bodies.proofs.Meanings.{sent}
use Rattle.http_bodies.proofs.Writing.{Wrote-nil}
use Rattle.http_texts.specs.Messages.{AreInterims}
use Rattle.http_texts.specs.Framings.{request_framing}
use Rattle.http_texts.specs.Messages.PartOfAnswered.{some_heads}
use Rattle.http_texts.specs.Messages.PartOfForwarded.{head_and_body}
use Rattle.http_texts.specs.declared.additions.Additions.{Additions}
use Rattle.http_texts.specs.declared.persistence.Persistence.TheVariants.{Close}
use Rattle.relay_http.specs.Calls.{HoldsHead, HandsRequest, HandsAnswer}
use Rattle.relay_http.specs.Failures.{Blames, Misses, NoCause}
use Rattle.relay_http.specs.States.{Serves, Marks}
use Rattle.req_view.specs.AnswerHeads.{HasAnswer}
use Rattle.req_view.specs.Request.{Request}
use Rattle.base_verdict.specs.declared.cause.Cause.TheVariants.{Aborted}
use Rattle.base_verdict.specs.declared.Verdict.TheVariants.{Serve, Told}

-- a verdict that drops the request gives no slot
slot : Serves (Serve 0)
slot = tt

no_slot : ¬ (Serves (Told Aborted))
no_slot serves = serves

stream : GName → List ℕ → ℕ → Stream
stream end bytes calls = record { name = end; bytes = Some bytes; calls = calls; failures = 0 }

-- before a byte went out nothing was written, and where one did something was
silent : (end : GName) → Marks (stream end [] 0) (stream end [] 1) false false
unfolding stream
silent end = record { stays = λ yes. yes; unset = λ no. refl; rose = λ no yes. let wrong : false ≡ true = yes in cc }

not_silent : (end : GName) → ¬ (Marks (stream end [] 0) (stream end (codes "a") 1) false false)
unfolding stream
not_silent end marks = omega (arith, ap (length {A = ℕ}) (marks.unset refl))

-- turns aren't spent while one is left
not_spent : (old new : Ends) (input : List ℕ) → new.pipe.turns ≡ 1 → ¬ (Blames old new NoCause input TurnsSpent)
not_spent old new input left blames = omega (arith, left, blames.1)

-- no head came, and nothing of an answer was written
no_heads : (method : List ℕ) → AreInterims method []
no_heads method = record { each = tt; few = omega arith }

held : (end : GName) (method : List ℕ) → HoldsHead (stream end [] 0) (stream end [] 1) (stream end [] 0) (stream end [] 0) {says = Close} {framed = true} (some_heads [] (no_heads method))
held end method = λ few. inl (Wrote-nil _)

-- one byte of it was, after one read
not_held : (end : GName) (method : List ℕ)
    → ¬ (HoldsHead (stream end [] 0) (stream end [] 1) (stream end [] 0) (stream end (codes "H") 1) {says = Close} {framed = true} (some_heads [] (no_heads method)))
unfolding stream
not_held end method holds = elim (holds (omega arith)) [
  | inl wrote ↦ absurd (omega (arith, wrote.some))
  | inr full ↦ absurd (omega (arith, full))
]

-- a read may fail where one byte of a body of two is held, and not behind both bytes
failed_amid_a_body : (w : Option (List ℕ))
    → Misses (codes "a") (Some (codes "b")) (Some (codes "b")) w w [] [] NoCause (IsUnfinished (Length 2)) Read
failed_amid_a_body w = record {
  taken = [];
  reads = Consumes-nil (Some (codes "b"));
  rest = codes "a";
  all = refl;
  front = [];
  left = [];
  writes = Appends-nil w;
  text_is = refl;
  why = tt;
  undone = λ is. cc;
  wanted = λ is. inr (omega arith, refl);
  told = λ is. refl;
}

not_behind_a_body : (w : Option (List ℕ)) → ¬ (Misses (codes "a") (Some (codes "b")) (Some []) w w (codes "ab") [] NoCause (IsUnfinished (Length 2)) Read)
not_behind_a_body w x = elim (x.wanted refl) [
  | inl is ↦ cc
  | inr lacks ↦ absurd (omega (arith, lacks.0, ap (length {A = ℕ}) x.all))
]

-- a read may fail behind a text that was written, and not before it
written_before : Misses [] (Some []) (Some []) (Some []) (Some (codes "a")) [] (codes "a") NoCause (IsUnfinished (Length 2)) Read
written_before = record {
  taken = [];
  reads = Consumes-nil (Some []);
  rest = [];
  all = refl;
  front = codes "a";
  left = [];
  writes = refl;
  text_is = refl;
  why = tt;
  undone = λ is. cc;
  wanted = λ is. inr (omega arith, refl);
  told = λ is. refl;
}

not_written_after : ¬ (Misses [] (Some []) (Some []) (Some []) (Some []) [] (codes "a") NoCause (IsUnfinished (Length 2)) Read)
not_written_after x =
    omega (
      arith,
      ap (length {A = ℕ}) x.text_is,
      length-append x.front x.left,
      ap (length {A = ℕ}) (x.told refl),
      ap (length {A = ℕ}) x.writes,
    )

-- of one byte of a body of two, that byte is all, and nothing of it isn't
all_handed_on : (adds : Additions) (r : Request) → (is : request_framing r ≡ Some (Length 2))
    → HandsRequest {adds = adds} {r = r} (head_and_body (Length 2) (codes "a") (codes "a") is (omega arith, refl)) []
all_handed_on adds r is = sent (Length 2) true (codes "a")

not_held_back : (adds : Additions) (r : Request) → (is : request_framing r ≡ Some (Length 2))
    → ¬ (HandsRequest {adds = adds} {r = r} (head_and_body (Length 2) [] [] is (omega arith, refl)) (codes "a"))
not_held_back adds r is hands =
    let front = hands.most (codes "a") (codes "a") [] (omega arith, refl) refl in
    omega (arith, ap (length {A = ℕ}) front.is)

-- where nothing came no head is all, and where a whole head did it isn't
no_head_is_all : (method : List ℕ) → HandsAnswer {says = Close} {method = method} {framed = true} (some_heads [] (no_heads method)) []
no_head_is_all method = no_answer_at_all

no_head_is_held_back : (method input rest : List ℕ) (h : ResponseHead) → HasAnswer input h rest
    → ¬ (HandsAnswer {says = Close} {method = method} {framed = true} (some_heads [] (no_heads method)) input)
no_head_is_held_back method input rest h has hands = hands h rest has
