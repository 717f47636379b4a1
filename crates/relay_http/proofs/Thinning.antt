-- What is known of streams that count, as what is known of their readers and writers.
use Rattle.std.proofs.Common.{◌≡◌, ◌∙◌, ap, sym, ℕ, Bool, List, [], Option, Result, Ok, Err, ◌+◌, refl, subst}
use Rattle.std.specs.Prelude.{IfErr, IfOk, OnOk, IsSome}
use Rattle.std.specs.Io.KnownBytes.{Appends, Consumes, Keeps, IsAtEnd}
use Rattle.base_streams.specs.Streams.{Stream}
use Rattle.httparse.specs.Grammar.{RequestHead, print_request}
use Rattle.http_bodies.specs.declared.pipe.Pipe.{Pipe}
use Rattle.http_bodies.specs.Steps.{Ends, ends, Moves}
use Rattle.http_bodies.specs.Texts.{Wrote, WritesFront}
use Rattle.http_bodies.specs.declared.framing.Framing.TheVariants.{ToEnd}
use Rattle.relay_http.specs.Failures.{Fails, Conveys, Misses, WrotePrefix}
use Rattle.http_texts.specs.Framings.{request_framing}
use Rattle.http_texts.specs.Heads.{IsRequest}
use Rattle.http_texts.specs.Messages.{IsAnswered}
use Rattle.http_texts.specs.declared.fault.Fault.{Fault}
use Rattle.http_texts.specs.declared.fault.Fault.TheVariants.{Read, Write}
use Rattle.relay_http.proofs.Failing.{passes_of, misses_of}
use Rattle.http_texts.specs.declared.persistence.Persistence.TheVariants.{Close}
use Rattle.req_view.specs.Request.{Request, request_of}

-- the bytes of a reader and of a writer, before and after
pub record Same (a b : Ends) (r0 r w0 w : Option (List ℕ)) : Type 0 where
  pub reader0 : a.source.bytes ≡ r0
  pub reader : b.source.bytes ≡ r
  pub writer0 : a.sink.bytes ≡ w0
  pub writer : b.sink.bytes ≡ w

pub consumes_as : {r0 r s0 s : Option (List ℕ)} (taken : List ℕ) → r0 ≡ s0 → r ≡ s → Consumes r0 r taken → Consumes s0 s taken
consumes_as {r0} {r} {s0} {s} taken e f x = subst (λ (o : Option (List ℕ)). Consumes s0 o taken) f (subst (λ (o : Option (List ℕ)). Consumes o r taken) e x)

pub appends_as : {r0 r s0 s : Option (List ℕ)} (front : List ℕ) → r0 ≡ s0 → r ≡ s → Appends r0 r front → Appends s0 s front
appends_as {r0} {r} {s0} {s} front e f x = subst (λ (o : Option (List ℕ)). Appends s0 o front) f (subst (λ (o : Option (List ℕ)). Appends o r front) e x)

pub keeps_as : {r0 r s0 s : Option (List ℕ)} → r0 ≡ s0 → r ≡ s → Keeps r0 r → Keeps s0 s
keeps_as {r0} {r} {s0} {s} e f x = subst (λ (o : Option (List ℕ)). Keeps s0 o) f (subst (λ (o : Option (List ℕ)). Keeps o r) e x)

pub thin : {a b : Ends} {r0 r w0 w : Option (List ℕ)} {used text : List ℕ} → Same a b r0 r w0 w → a.pipe.outbox ≡ [] → b.pipe.outbox ≡ [] → Moves a b used text
    → Conveys a.pipe.inbox b.pipe.inbox r0 r w0 w used text
thin {text = text} same none left x =
    let p = passes_of none left x in
    record {
      taken = p.taken;
      reads = consumes_as p.taken same.reader0 same.reader p.reads;
      all = p.all;
      writes = appends_as text same.writer0 same.writer p.writes;
    }

unfoldable pub thin_fault : {a b : Ends} {r0 r w0 w : Option (List ℕ)} {used text : List ℕ} {fault : Fault} (Why : Fault → List ℕ → Type 0)
    (Wants : List ℕ → Type 0) → Same a b r0 r w0 w
    → a.pipe.outbox ≡ []
    → Fails a b used text Why Wants fault → Misses a.pipe.inbox r0 r w0 w used text Why Wants fault
thin_fault Why Wants same none x =
    let p = misses_of Why Wants none x in record {
      taken = p.taken;
      reads = consumes_as p.taken same.reader0 same.reader p.reads;
      rest = p.rest;
      all = p.all;
      front = p.front;
      left = p.left;
      writes = appends_as p.front same.writer0 same.writer p.writes;
      text_is = p.text_is;
      why = p.why;
      undone = p.undone;
      wanted = p.wanted;
      told = p.told;
    }

-- a stream of which only the bytes matter
abbrev pub silent : Stream → Option (List ℕ) → Stream
silent s bytes = record { name = s.name; bytes = bytes; calls = 0; failures = 0 }

pub thin_read : (result : Result Request Fault) (p q : Pipe) (s t : Stream) (r0 r : Option (List ℕ)) → s.bytes ≡ r0 → t.bytes ≡ r → p.outbox ≡ []
    → q.outbox ≡ []
    → IfOk result (λ v. (h : RequestHead) × IsRequest h × (v ≡ request_of h) × IsSome (request_framing v) × ((w : Stream) → Moves (ends p s w) (ends q t w)
    (print_request h) []))
    → IfOk result (λ v. (h : RequestHead) × IsRequest h × (v ≡ request_of h) × IsSome (request_framing v)
    × ((w : Option (List ℕ)) → Conveys p.inbox q.inbox r0 r w w (print_request h) []))
thin_read (Ok v) p q s t r0 r e f none left x = (
  x.0,
  x.1,
  x.2,
  x.3,
  λ w. thin (record { reader0 = e; reader = f; writer0 = refl; writer = refl }) none left (x.4 (silent s w)),
)
thin_read (Err fault) p q s t r0 r e f none left x = tt

pub thin_read_fault : (result : Result Request Fault) (Why : Fault → List ℕ → Type 0) (Wants : List ℕ → Type 0) (p q : Pipe) (s t : Stream) (r0 r : Option (List ℕ)) → s.bytes ≡ r0
    → t.bytes ≡ r
    → p.outbox ≡ [] → ((w : Stream) → IfErr result (Fails (ends p s w) (ends q t w) [] [] Why Wants)) → (w : Option (List ℕ))
    → IfErr result (Misses p.inbox r0 r w w [] [] Why Wants)
thin_read_fault (Ok v) Why Wants p q s t r0 r e f none x w = tt
thin_read_fault (Err fault) Why Wants p q s t r0 r e f none x w =
    thin_fault Why Wants (record { reader0 = e; reader = f; writer0 = refl; writer = refl }) none (x (silent s w))

pub thin_write : {T : Type 0} (result : Result T Fault) (text : List ℕ) (p q : Pipe) (s t : Stream) (w0 w : Option (List ℕ)) → s.bytes ≡ w0 → t.bytes ≡ w
    → p.outbox ≡ [] → q.outbox ≡ [] → ((r : Stream) → OnOk result (Moves (ends p r s) (ends q r t) [] text))
    → (r : Option (List ℕ)) → OnOk result (Conveys p.inbox q.inbox r r w0 w [] text)
thin_write (Ok v) text p q s t w0 w e f none left x r =
    thin (record { reader0 = refl; reader = refl; writer0 = e; writer = f }) none left (x (silent s r))
thin_write (Err fault) text p q s t w0 w e f none left x r = tt

pub thin_write_fault : {T : Type 0} (result : Result T Fault) (Why : Fault → List ℕ → Type 0) (Wants : List ℕ → Type 0) (text : List ℕ) (p q : Pipe) (s t : Stream)
    (w0 w : Option (List ℕ))
    → s.bytes ≡ w0 → t.bytes ≡ w → p.outbox ≡ [] → ((r : Stream) → IfErr result (Fails (ends p r s) (ends q r t) [] text Why Wants))
    → (r : Option (List ℕ)) → IfErr result (Misses p.inbox r r w0 w [] text Why Wants)
thin_write_fault (Ok v) Why Wants text p q s t w0 w e f none x r = tt
thin_write_fault (Err fault) Why Wants text p q s t w0 w e f none x r =
    thin_fault Why Wants (record { reader0 = refl; reader = refl; writer0 = e; writer = f }) none (x (silent s r))

pub thin_both_fault : {T : Type 0} (result : Result T Fault) (Part : List ℕ → List ℕ → Type 0) (Says : (x y : List ℕ) → Part x y → List ℕ → Type 0)
    (Why : Fault → List ℕ → Type 0) (Wants : List ℕ → Type 0) (a b : Ends)
    (r0 r w0 w : Option (List ℕ))
    → a.source.bytes ≡ r0 → b.source.bytes ≡ r → a.sink.bytes ≡ w0 → b.sink.bytes ≡ w → a.pipe.outbox ≡ []
    → IfErr result (λ fault. (x : List ℕ) × (y : List ℕ) × (part : Part x y) × (fails : Fails a b x y Why Wants fault) × (fault ≡ Read → Says x y part fails.rest))
    → IfErr result (λ fault. (x : List ℕ) × (y : List ℕ) × (part : Part x y) × (misses : Misses a.pipe.inbox r0 r w0 w x y Why Wants fault)
    × (fault ≡ Read → Says x y part misses.rest))
unfolding thin_fault misses_of
thin_both_fault (Ok v) Part Says Why Wants a b r0 r w0 w e0 e f0 f none x = tt
thin_both_fault (Err fault) Part Says Why Wants a b r0 r w0 w e0 e f0 f none x = (
  x.0,
  x.1,
  x.2,
  thin_fault Why Wants (record { reader0 = e0; reader = e; writer0 = f0; writer = f }) none x.3,
  x.4,
)

pub thin_answer : {T : Type 0} (result : Result T Fault) (method : List ℕ) (framed : Bool) (a b : Ends) (r0 r w0 w : Option (List ℕ))
    → a.source.bytes ≡ r0 → b.source.bytes ≡ r → a.sink.bytes ≡ w0 → b.sink.bytes ≡ w → a.pipe.outbox ≡ [] → b.pipe.outbox ≡ []
    → OnOk result ((x : List ℕ) × (y : List ℕ) × (answered : IsAnswered Close method framed x y) × Moves a b x y
    × (answered.plan.body ≡ ToEnd → IsAtEnd b.source.bytes) × (answered.plan.body ≡ ToEnd → b.pipe.inbox ≡ []))
    → OnOk result ((x : List ℕ) × (y : List ℕ) × (answered : IsAnswered Close method framed x y) × Conveys a.pipe.inbox b.pipe.inbox r0 r w0 w x y
    × (answered.plan.body ≡ ToEnd → IsAtEnd r) × (answered.plan.body ≡ ToEnd → b.pipe.inbox ≡ []))
thin_answer (Ok v) method framed a b r0 r w0 w e0 e f0 f none left x = (
  x.0,
  x.1,
  x.2,
  thin (record { reader0 = e0; reader = e; writer0 = f0; writer = f }) none left x.3,
  λ to_end. subst (λ (o : Option (List ℕ)). IsAtEnd o) e (x.4 to_end),
  x.5,
)
thin_answer (Err fault) method framed a b r0 r w0 w e0 e f0 f none left x = tt

pub thin_wrote : {T : Type 0} (result : Result T Fault) (s t : Stream) (w0 w : Option (List ℕ)) (text : List ℕ) → s.bytes ≡ w0 → t.bytes ≡ w
    → OnOk result (Wrote s t text) → OnOk result (Appends w0 w text)
thin_wrote (Ok v) s t w0 w text e f x = appends_as text e f x.bytes
thin_wrote (Err fault) s t w0 w text e f x = tt

pub thin_prefix : {T : Type 0} (result : Result T Fault) (s t : Stream) (w0 w : Option (List ℕ)) (text : List ℕ) → s.bytes ≡ w0 → t.bytes ≡ w
    → IfErr result (λ fault. (fault ≡ Write) × (t.failures ≡ s.failures + 1) × WritesFront s t text)
    → IfErr result (λ fault. (fault ≡ Write) × WrotePrefix w0 w text)
thin_prefix (Ok v) s t w0 w text e f x = tt
thin_prefix (Err fault) s t w0 w text e f x =
    (x.0, record { front = x.2.front; left = x.2.rest; writes = appends_as x.2.front e f x.2.wrote.bytes; text_is = x.2.all })

-- a stream that wasn't asked
pub thin_same : (s t : Stream) (r0 r : Option (List ℕ)) → s.bytes ≡ r0 → t.bytes ≡ r → t ≡ s → r ≡ r0
thin_same s t r0 r e f same = sym f ∙ ap (λ (k : Stream). k.bytes) same ∙ e
