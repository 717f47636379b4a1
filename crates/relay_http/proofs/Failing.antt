-- Steps, and then a fault.
use Rattle.std.proofs.Common.{◌≡◌, ◌∙◌, ◌<◌, ℕ, Bool, ◌+◌, List, [], ◌++◌, length, refl, sym, ap, arith, append_assoc, append-nil, length-append, subst, inl, inr}
use Rattle.std.specs.Io.KnownBytes.{IsAtEnd}
use Rattle.std.proofs.KnownBytes.{Consumes-nil}
use Rattle.std.proofs.lemmas.List.{nil_from_length}
use Rattle.base_streams.specs.Streams.{Stream}
use Rattle.http_bodies.specs.Framings.{LacksBody, IsUnfinished}
use Rattle.http_bodies.specs.Runs.{IsSent, IsTaken}
use Rattle.http_bodies.specs.declared.fault.Fault as Body
use Rattle.http_bodies.specs.declared.fault.Fault.TheVariants as OfBody
use Rattle.http_bodies.specs.declared.framing.Framing as Framed
use Rattle.http_bodies.specs.declared.outbox.TheConstants.{OUTBOX_BYTES}
use Rattle.http_bodies.specs.declared.pipe.Pipe.{Pipe}
use Rattle.http_bodies.specs.Texts.{StopsBy, Wrote}
use Rattle.http_bodies.specs.Steps.{Ends, ends, Reads, Moves, Breaks, HoldsBack, LacksNothing}
use Rattle.http_bodies.specs.Steps as Body_steps
use Rattle.http_bodies.proofs.Stepping.{joined, Reads-trans, moves_emit}
use Rattle.http_bodies.proofs.Writing.{Wrote-trans}
use Rattle.http_texts.specs.Emissions.{Sends, Puts, Halts}
use Rattle.relay_http.specs.Failures.{Blames, Fails, Explains, Conveys, Misses}
use Rattle.http_texts.specs.Faults.{relayed}
use Rattle.http_texts.specs.Messages.{NoBody}
use Rattle.http_texts.specs.declared.fault.Fault.{Fault}
use Rattle.http_texts.specs.declared.fault.Fault.TheVariants.{NoMemory, Head, Framing, Read, Write, Turns, Closed}

-- whose the fault is doesn't depend on where one begins to look, as long as no call failed before
pub blames_earlier : (fault : Fault) (a b c : Ends) (Why Whole : Fault → List ℕ → Type 0) (used input whole : List ℕ)
    → b.source.failures ≡ a.source.failures → b.sink.failures ≡ a.sink.failures
    → ((l : List ℕ) → Why fault l → Whole fault (used ++ l)) → whole ≡ used ++ input
    → Blames b c Why input fault → Blames a c Whole whole fault
blames_earlier NoMemory a b c Why Whole used input whole r w step e blame =
    (record { reads = blame.0.reads ∙ r; writes = blame.0.writes ∙ w }, subst (Whole NoMemory) (sym e) (step input blame.1))
blames_earlier Head a b c Why Whole used input whole r w step e blame =
    (record { reads = blame.0.reads ∙ r; writes = blame.0.writes ∙ w }, subst (Whole Head) (sym e) (step input blame.1))
blames_earlier Framing a b c Why Whole used input whole r w step e blame =
    (record { reads = blame.0.reads ∙ r; writes = blame.0.writes ∙ w }, subst (Whole Framing) (sym e) (step input blame.1))
blames_earlier Read a b c Why Whole used input whole r w step e blame = (
  blame.0 ∙ w,
  elim blame.1 [
    | inl failed ↦ inl (failed ∙ ap (λ n. n + 1) r)
    | inr ended ↦ inr (ended.0 ∙ r, ended.1, subst (Whole Read) (sym e) (step input ended.2))
  ],
)
blames_earlier Write a b c Why Whole used input whole r w step e blame = (blame.0 ∙ r, blame.1 ∙ ap (λ n. n + 1) w)
blames_earlier Turns a b c Why Whole used input whole r w step e blame =
    (record { reads = blame.0.reads ∙ r; writes = blame.0.writes ∙ w }, blame.1)
blames_earlier Closed a b c Why Whole used input whole r w step e blame = blame

-- a step, and then a fault
unfoldable pub moves_fails : {a b c : Ends} {used text more_used more_text : List ℕ} {fault : Fault} (Why Whole : Fault → List ℕ → Type 0)
    (Wants All : List ℕ → Type 0)
    → ((l : List ℕ) → Why fault l → Whole fault (used ++ l)) → ((l : List ℕ) → Wants l → All (used ++ l)) → Moves a b used text
    → (q : Fails b c more_used more_text Why Wants fault) → (fault ≡ Read → a.pipe.outbox ≡ [] → q.writes.rest ≡ [])
    → Fails a c (used ++ more_used) (text ++ more_text) Whole All fault
moves_fails {a} {b} {c} {used} {text} {more_used} {more_text} {fault} Why Whole Wants All step want p q told =
    let front : a.pipe.inbox ++ (p.taken ++ q.taken) ≡ used ++ (b.pipe.inbox ++ q.taken) =
    sym (append_assoc a.pipe.inbox p.taken q.taken) ∙ ap (λ l. l ++ q.taken) p.held ∙ append_assoc used b.pipe.inbox q.taken in record {
      taken = p.taken ++ q.taken;
      reads = Reads-trans p.reads q.reads;
      rest = q.rest;
      held = joined a.pipe.inbox p.taken used b.pipe.inbox q.taken more_used q.rest p.held q.held;
      writes = record {
        front = p.front ++ q.writes.front;
        rest = q.writes.rest;
        wrote = Wrote-trans p.writes q.writes.wrote;
        all = joined a.pipe.outbox text p.front b.pipe.outbox more_text q.writes.front q.writes.rest p.waiting q.writes.all;
      };
      blames = blames_earlier fault a b c Why Whole used (b.pipe.inbox ++ q.taken)
          (a.pipe.inbox ++ (p.taken ++ q.taken)) p.good_reads p.good_writes step front q.blames;
      undone = λ spent. elim (q.undone spent) [
        | inl some ↦ inl some
        | inr wants ↦ inr (subst All (sym front) (want (b.pipe.inbox ++ q.taken) wants))
      ];
      wanted = λ is. subst All (sym front) (want (b.pipe.inbox ++ q.taken) (q.wanted is));
      told = told;
    }

-- a fault of the relay's is one of a body of the same name
pub relayed_turns : (fault : Body.Fault) → relayed fault ≡ Turns → fault ≡ OfBody.Turns
relayed_turns OfBody.Turns is = refl
relayed_turns OfBody.Read is = cc
relayed_turns OfBody.Write is = cc
relayed_turns OfBody.Framing is = cc

pub relayed_read : (fault : Body.Fault) → relayed fault ≡ Read → fault ≡ OfBody.Read
relayed_read OfBody.Read is = refl
relayed_read OfBody.Turns is = cc
relayed_read OfBody.Write is = cc
relayed_read OfBody.Framing is = cc

head_is_not_turns : Head ≡ Turns → ⊥
head_is_not_turns is = cc

framing_is_not_turns : Framing ≡ Turns → ⊥
framing_is_not_turns is = cc

memory_is_not_turns : NoMemory ≡ Turns → ⊥
memory_is_not_turns is = cc

pub read_is_not_turns : Read ≡ Turns → ⊥
read_is_not_turns is = cc

head_is_not_read : Head ≡ Read → ⊥
head_is_not_read is = cc

framing_is_not_read : Framing ≡ Read → ⊥
framing_is_not_read is = cc

memory_is_not_read : NoMemory ≡ Read → ⊥
memory_is_not_read is = cc

pub blames_of : (fault : Body.Fault) (a b : Ends) (Lacks : List ℕ → Type 0) (Why : Fault → List ℕ → Type 0) (input : List ℕ)
    → ((l : List ℕ) → Lacks l → Why Read l) → ((l : List ℕ) → ((more : List ℕ) → Lacks (l ++ more)) → Why Framing l)
    → Body_steps.Blames a b Lacks input fault → Blames a b Why input (relayed fault)
blames_of OfBody.Read a b Lacks Why input early bad blame =
    (blame.0, elim blame.1 [ inl failed ↦ inl failed | inr ended ↦ inr (ended.0, ended.1, early input ended.2) ])
blames_of OfBody.Write a b Lacks Why input early bad blame = blame
blames_of OfBody.Turns a b Lacks Why input early bad blame = (record { reads = blame.0; writes = blame.1 }, blame.2)
blames_of OfBody.Framing a b Lacks Why input early bad blame = (record { reads = blame.0; writes = blame.1 }, bad input blame.2)

-- where nothing waits, the whole text was written
pub told_all : {a b : Ends} {used text : List ℕ} {Lacks Wants : List ℕ → Type 0} {fault : Body.Fault} → (p : Breaks a b used text Lacks Wants fault)
    → b.pipe.outbox ≡ []
    → p.writes.rest ≡ []
told_all p none =
    nil_from_length _ (omega (arith, length-append p.waiting.again p.writes.rest, ap (length {A = ℕ}) p.waiting.waiting_is, ap (length {A = ℕ}) none))

-- a fault of a body
unfoldable pub fails_of : {a b : Ends} {used text : List ℕ} {fault : Body.Fault} (Lacks : List ℕ → Type 0) (Why : Fault → List ℕ → Type 0) (Wants : List ℕ → Type 0)
    → ((l : List ℕ) → Lacks l → Why Read l) → ((l : List ℕ) → ((more : List ℕ) → Lacks (l ++ more)) → Why Framing l)
    → (p : Breaks a b used text Lacks Wants fault) → (fault ≡ OfBody.Read → a.pipe.outbox ≡ [] → p.writes.rest ≡ [])
    → Fails a b used text Why Wants (relayed fault)
fails_of {a} {b} {fault = fault} Lacks Why Wants early bad p told = record {
  taken = p.taken;
  reads = p.reads;
  rest = b.pipe.inbox;
  held = p.held;
  writes = p.writes;
  blames = blames_of fault a b Lacks Why (a.pipe.inbox ++ p.taken) early bad p.blames;
  undone = λ spent. p.undone (relayed_turns fault spent);
  wanted = λ is. p.wanted (relayed_read fault is);
  told = λ is. told (relayed_read fault is);
}

unfoldable pub fails_as : {a b : Ends} {used text same_used same_text : List ℕ} {fault : Fault} (Why : Fault → List ℕ → Type 0) (Wants : List ℕ → Type 0)
    → used ≡ same_used → text ≡ same_text
    → Fails a b used text Why Wants fault → Fails a b same_used same_text Why Wants fault
fails_as {a} Why Wants e f p = record {
  taken = p.taken;
  reads = p.reads;
  rest = p.rest;
  held = p.held ∙ ap (λ l. l ++ p.rest) e;
  writes = record {
    front = p.writes.front;
    rest = p.writes.rest;
    wrote = p.writes.wrote;
    all = ap (λ l. a.pipe.outbox ++ l) (sym f) ∙ p.writes.all;
  };
  blames = p.blames;
  undone = p.undone;
  wanted = p.wanted;
  told = p.told;
}

-- less is claimed to be used
unfoldable pub fails_less : {a b : Ends} {text : List ℕ} {fault : Fault} (Why : Fault → List ℕ → Type 0) (Wants : List ℕ → Type 0) (used tail : List ℕ)
    → Fails a b (used ++ tail) text Why Wants fault
    → Fails a b used text Why Wants fault
fails_less Why Wants used tail p = record {
  taken = p.taken;
  reads = p.reads;
  rest = tail ++ p.rest;
  held = p.held ∙ append_assoc used tail p.rest;
  writes = p.writes;
  blames = p.blames;
  undone = p.undone;
  wanted = p.wanted;
  told = p.told;
}

-- one amid a body: a part of it stands at the front of what was taken
unfoldable pub fails_body : {a b : Ends} {used text : List ℕ} {fault : Body.Fault} (framing : Framed.Framing) (framed : Bool) → (is : IsTaken framing framed used text)
    → (p : Breaks a b used text (LacksBody framing) (IsUnfinished framing) fault)
    → (fault ≡ OfBody.Read → (b.pipe.inbox ≡ []) × (b.pipe.outbox ≡ []))
    → Fails a b is.sent.used text (NoBody framing) (IsUnfinished framing) (relayed fault)
fails_body framing framed is p told =
    fails_less (NoBody framing) (IsUnfinished framing) is.sent.used is.sent.rest
    (fails_as (NoBody framing) (IsUnfinished framing) is.sent.input_is refl
    (fails_of (LacksBody framing) (NoBody framing) (IsUnfinished framing) (λ l lacks. lacks) (λ l lacks. lacks) p (λ at none. told_all p (told at).1)))

-- one after which nothing lacks
unfoldable pub fails_plainly : {a b : Ends} {used text : List ℕ} {fault : Body.Fault} (Why : Fault → List ℕ → Type 0) (Wants : List ℕ → Type 0)
    → Breaks a b used text LacksNothing Wants fault → b.pipe.outbox ≡ a.pipe.outbox
    → Fails a b used text Why Wants (relayed fault)
fails_plainly Why Wants p waits =
    fails_of LacksNothing Why Wants (λ l none. absurd none) (λ l none. absurd (none [])) p (λ at none. told_all p (waits ∙ none))

-- steps, and what they read is bad
pub fails_head : {a b : Ends} {used text : List ℕ} (Why : Fault → List ℕ → Type 0) (Wants : List ℕ → Type 0) → Moves a b used text
    → Why Head (used ++ b.pipe.inbox)
    → Fails a b used text Why Wants Head
fails_head {a} {b} Why Wants p why = record {
  taken = p.taken;
  reads = p.reads;
  rest = b.pipe.inbox;
  held = p.held;
  writes = record { front = p.front; rest = b.pipe.outbox; wrote = p.writes; all = p.waiting };
  blames = (record { reads = p.good_reads; writes = p.good_writes }, subst (Why Head) (sym p.held) why);
  undone = λ spent. absurd (head_is_not_turns spent);
  wanted = λ is. absurd (head_is_not_read is);
  told = λ is. absurd (head_is_not_read is);
}

pub fails_framing : {a b : Ends} {used text : List ℕ} (Why : Fault → List ℕ → Type 0) (Wants : List ℕ → Type 0) → Moves a b used text
    → Why Framing (used ++ b.pipe.inbox)
    → Fails a b used text Why Wants Framing
fails_framing {a} {b} Why Wants p why = record {
  taken = p.taken;
  reads = p.reads;
  rest = b.pipe.inbox;
  held = p.held;
  writes = record { front = p.front; rest = b.pipe.outbox; wrote = p.writes; all = p.waiting };
  blames = (record { reads = p.good_reads; writes = p.good_writes }, subst (Why Framing) (sym p.held) why);
  undone = λ spent. absurd (framing_is_not_turns spent);
  wanted = λ is. absurd (framing_is_not_read is);
  told = λ is. absurd (framing_is_not_read is);
}

-- or memory is wanting
pub fails_memory : {a b : Ends} {used text : List ℕ} (Why : Fault → List ℕ → Type 0) (Wants : List ℕ → Type 0) → Moves a b used text
    → Why NoMemory (used ++ b.pipe.inbox)
    → Fails a b used text Why Wants NoMemory
fails_memory {a} {b} Why Wants p why = record {
  taken = p.taken;
  reads = p.reads;
  rest = b.pipe.inbox;
  held = p.held;
  writes = record { front = p.front; rest = b.pipe.outbox; wrote = p.writes; all = p.waiting };
  blames = (record { reads = p.good_reads; writes = p.good_writes }, subst (Why NoMemory) (sym p.held) why);
  undone = λ spent. absurd (memory_is_not_turns spent);
  wanted = λ is. absurd (memory_is_not_read is);
  told = λ is. absurd (memory_is_not_read is);
}

-- or the input ended where more is wanted
unfoldable pub fails_end : {a b : Ends} {used text : List ℕ} (Why : Fault → List ℕ → Type 0) (Wants : List ℕ → Type 0) → Moves a b used text → IsAtEnd b.source.bytes
    → Why Read (used ++ b.pipe.inbox) → Wants (used ++ b.pipe.inbox) → (a.pipe.outbox ≡ [] → b.pipe.outbox ≡ [])
    → Fails a b used text Why Wants Read
fails_end {a} {b} Why Wants p end why wants waits = record {
  taken = p.taken;
  reads = p.reads;
  rest = b.pipe.inbox;
  held = p.held;
  writes = record { front = p.front; rest = b.pipe.outbox; wrote = p.writes; all = p.waiting };
  blames = (p.good_writes, inr (p.good_reads, end, subst (Why Read) (sym p.held) why));
  undone = λ spent. absurd (read_is_not_turns spent);
  wanted = λ is. subst Wants (sym p.held) wants;
  told = λ is. waits;
}

-- what was put, as a step
pub moves_put : {p q : Pipe} {a b : Stream} {text : List ℕ} (s : Stream) → Sends p q a b text → Moves (ends p s a) (ends q s b) [] text
moves_put s x = moves_emit s [] x.emits (sym x.inbox)

-- what stops a text is a fault of the relay's
stops_blames : (fault : Body.Fault) (p0 p : Pipe) (w0 w s : Stream) (Why : Fault → List ℕ → Type 0) (input : List ℕ) → StopsBy w0 w p.turns fault
    → Blames (ends p0 s w0) (ends p s w) Why input (relayed fault)
stops_blames OfBody.Read p0 p w0 w s Why input by = absurd by
stops_blames OfBody.Write p0 p w0 w s Why input by = (refl, by)
stops_blames OfBody.Turns p0 p w0 w s Why input by = (record { reads = refl; writes = by.0 }, by.1)
stops_blames OfBody.Framing p0 p w0 w s Why input by = absurd by

-- and no read
pub stops_no_read : (fault : Body.Fault) (w0 w : Stream) (turns : ℕ) → StopsBy w0 w turns fault → relayed fault ≡ Read → ⊥
stops_no_read OfBody.Read w0 w turns by is = absurd by
stops_no_read OfBody.Write w0 w turns by is = cc
stops_no_read OfBody.Turns w0 w turns by is = cc
stops_no_read OfBody.Framing w0 w turns by is = absurd by

pub fails_put : {p q : Pipe} {a b : Stream} {text : List ℕ} {fault : Body.Fault} (s : Stream) (Why : Fault → List ℕ → Type 0) (Wants : List ℕ → Type 0)
    → Halts p q a b text fault
    → Fails (ends p s a) (ends q s b) [] text Why Wants (relayed fault)
fails_put {p} {q} {a} {b} {fault = fault} s Why Wants x = record {
  taken = [];
  reads = record {
    same_source = refl;
    same_sink = x.stops.spends.same;
    bytes = Consumes-nil s.bytes;
    few = omega arith;
    reads = omega arith;
    writes = x.stops.spends.calls;
    spent = omega (arith, x.stops.spends.spent);
  };
  rest = p.inbox;
  held = append-nil p.inbox;
  writes = x.stops.front;
  blames = stops_blames fault p q a b s Why (p.inbox ++ []) x.stops.cause;
  undone = λ spent. inl x.stops.left;
  wanted = λ is. absurd (stops_no_read fault a b q.turns x.stops.cause is);
  told = λ is. absurd (stops_no_read fault a b q.turns x.stops.cause is);
}

-- a step, and then a text that stopped on its way
pub moves_halts : {a : Ends} {p q : Pipe} {s w v : Stream} {used text more : List ℕ} {fault : Body.Fault} (Why : Fault → List ℕ → Type 0)
    (Wants : List ℕ → Type 0)
    → Moves a (ends p s w) used text → Halts p q w v more fault → Fails a (ends q s v) used (text ++ more) Why Wants (relayed fault)
moves_halts {q = q} {s = s} {w} {v} {used} {fault = fault} Why Wants so_far x =
    fails_as Why Wants (append-nil used) refl
    (moves_fails (λ f l. ⊥) Why LacksNothing Wants (λ l none. absurd none) (λ l none. absurd none) so_far (fails_put s (λ f l. ⊥) LacksNothing x)
    (λ is none. absurd (stops_no_read fault w v q.turns x.stops.cause is)))

pub turns_same : (fault : Fault) (a : Ends) (p q : Pipe) (s w : Stream) (Why : Fault → List ℕ → Type 0) (input : List ℕ) → q.turns ≡ p.turns
    → Blames a (ends p s w) Why input fault → Blames a (ends q s w) Why input fault
turns_same NoMemory a p q s w Why input e blame = (record { reads = blame.0.reads; writes = blame.0.writes }, blame.1)
turns_same Head a p q s w Why input e blame = (record { reads = blame.0.reads; writes = blame.0.writes }, blame.1)
turns_same Framing a p q s w Why input e blame = (record { reads = blame.0.reads; writes = blame.0.writes }, blame.1)
turns_same Read a p q s w Why input e blame = blame
turns_same Write a p q s w Why input e blame = blame
turns_same Turns a p q s w Why input e blame = (record { reads = blame.0.reads; writes = blame.0.writes }, e ∙ blame.1)
turns_same Closed a p q s w Why input e blame = blame

-- what a pipe does with its bytes after a fault doesn't matter
unfoldable pub fails_after : {a : Ends} {p : Pipe} {s w : Stream} {used text : List ℕ} {fault : Fault} (Why : Fault → List ℕ → Type 0) (Wants : List ℕ → Type 0)
    (q : Pipe) → q.turns ≡ p.turns
    → Fails a (ends p s w) used text Why Wants fault → Fails a (ends q s w) used text Why Wants fault
fails_after {a} {p} {s} {w} {fault = fault} Why Wants q e x = record {
  taken = x.taken;
  reads = record {
    same_source = x.reads.same_source;
    same_sink = x.reads.same_sink;
    bytes = x.reads.bytes;
    few = x.reads.few;
    reads = x.reads.reads;
    writes = x.reads.writes;
    spent = omega (arith, x.reads.spent, e);
  };
  rest = x.rest;
  held = x.held;
  writes = x.writes;
  blames = turns_same fault a p q s w Why (a.pipe.inbox ++ x.taken) e x.blames;
  undone = x.undone;
  wanted = x.wanted;
  told = x.told;
}

-- where one pipe is the other, what is said of the rest stays
pub fails_from : {p q : Pipe} {s w : Stream} {b : Ends} {used text : List ℕ} {fault : Fault} (Why : Fault → List ℕ → Type 0) (Wants Says : List ℕ → Type 0)
    → p ≡ q → (x : Fails (ends p s w) b used text Why Wants fault) → (fault ≡ Read → Says x.rest)
    → (y : Fails (ends q s w) b used text Why Wants fault) × (fault ≡ Read → Says y.rest)
fails_from {s = s} {w} {b} {used} {text} {fault} Why Wants Says same x says =
    subst (λ (p : Pipe). (y : Fails (ends p s w) b used text Why Wants fault) × (fault ≡ Read → Says y.rest)) same (x, says)

-- the text of all that was used is that of what is a part of a body, and of what is left
pub sent_all : {framing : Framed.Framing} {framed : Bool} {used text : List ℕ} (inbox : List ℕ) → (is : IsTaken framing framed used text) → inbox ≡ []
    → IsSent framing framed (is.sent.used ++ (is.sent.rest ++ inbox)) text
sent_all {framing} {framed} {used} {text} inbox is none =
    let same : used ≡ is.sent.used ++ (is.sent.rest ++ inbox) =
    is.sent.input_is ∙ ap (λ l. is.sent.used ++ l) (sym (ap (λ l. is.sent.rest ++ l) none ∙ append-nil is.sent.rest)) in
    subst (λ (l : List ℕ). IsSent framing framed l text) same is.sent

pub explains : (fault : Fault) (a b : Ends) (Why : Fault → List ℕ → Type 0) (input : List ℕ) → Blames a b Why input fault → Explains Why fault input
explains NoMemory a b Why input blame = blame.1
explains Head a b Why input blame = blame.1
explains Framing a b Why input blame = blame.1
explains Read a b Why input blame = tt
explains Write a b Why input blame = tt
explains Turns a b Why input blame = tt
explains Closed a b Why input blame = blame

-- where nothing waits, what was put was written
pub wrote_of : {a b : Ends} {used text : List ℕ} → a.pipe.outbox ≡ [] → b.pipe.outbox ≡ [] → Moves a b used text → Wrote a.sink b.sink text
wrote_of {a} {b} {used} {text} none left x =
    let whole : x.front ≡ text = sym (ap (λ l. l ++ text) (sym none) ∙ x.waiting ∙ ap (λ l. x.front ++ l) left ∙ append-nil x.front) in
    subst (λ (l : List ℕ). Wrote a.sink b.sink l) whole x.writes

pub passes_of : {a b : Ends} {used text : List ℕ} → a.pipe.outbox ≡ [] → b.pipe.outbox ≡ [] → Moves a b used text
    → Conveys a.pipe.inbox b.pipe.inbox a.source.bytes b.source.bytes a.sink.bytes b.sink.bytes used text
passes_of none left x = record { taken = x.taken; reads = x.reads.bytes; all = x.held; writes = (wrote_of none left x).bytes }

unfoldable pub misses_of : {a b : Ends} {used text : List ℕ} {fault : Fault} (Why : Fault → List ℕ → Type 0) (Wants : List ℕ → Type 0) → a.pipe.outbox ≡ []
    → Fails a b used text Why Wants fault
    → Misses a.pipe.inbox a.source.bytes b.source.bytes a.sink.bytes b.sink.bytes used text Why Wants fault
misses_of {a} {b} {used} {text} {fault} Why Wants none x = record {
  taken = x.taken;
  reads = x.reads.bytes;
  rest = x.rest;
  all = x.held;
  front = x.writes.front;
  left = x.writes.rest;
  writes = x.writes.wrote.bytes;
  text_is = ap (λ l. l ++ text) (sym none) ∙ x.writes.all;
  why = explains fault a b Why (a.pipe.inbox ++ x.taken) x.blames;
  undone = x.undone;
  wanted = x.wanted;
  told = λ is. x.told is none;
}

-- a fault of the bytes is one of a body
pub relayed_framing : (fault : Body.Fault) → relayed fault ≡ Framing → fault ≡ OfBody.Framing
relayed_framing OfBody.Framing is = refl
relayed_framing OfBody.Read is = cc
relayed_framing OfBody.Write is = cc
relayed_framing OfBody.Turns is = cc

-- and never one of a text that stopped on its way, or of a call after which nothing lacks
pub halts_unframed : {p q : Pipe} {a b : Stream} {text : List ℕ} (fault : Body.Fault) → Halts p q a b text fault → relayed fault ≡ Framing → ⊥
halts_unframed {p} {q} {a} {b} {text} fault x is =
    (subst (λ (f : Body.Fault). Halts p q a b text f) (relayed_framing fault is) x).stops.cause

pub halts_unread : {p q : Pipe} {a b : Stream} {text : List ℕ} (fault : Body.Fault) → Halts p q a b text fault → relayed fault ≡ Read → ⊥
halts_unread {q = q} {a} {b} fault x is = stops_no_read fault a b q.turns x.stops.cause is

pub breaks_unframed : {a b : Ends} {used text : List ℕ} (Wants : List ℕ → Type 0) (fault : Body.Fault) → Breaks a b used text LacksNothing Wants fault
    → relayed fault ≡ Framing → ⊥
breaks_unframed {a} {b} {used} {text} Wants fault x is =
    (subst (λ (f : Body.Fault). Breaks a b used text LacksNothing Wants f) (relayed_framing fault is) x).blames.2 []

-- a text that was put, and then more of which nothing was written before it had to be
pub puts_hold : {p q : Pipe} {v w : Stream} {first : List ℕ} (s : Stream) (end : Ends) (text : List ℕ) → Puts p q v w first → HoldsBack (ends q s w) end text
    → HoldsBack (ends p s v) end (first ++ text)
puts_hold {p} {q} {first = first} s end text x holds = λ same. elim x.late [
  | inr full ↦ inr (omega (arith, full, length-append p.outbox first, length-append p.outbox (first ++ text), length-append first text))
  | inl kept ↦
      elim (holds same) [
        | inl still ↦ inl (still ∙ kept.0)
        | inr full ↦ inr (subst (λ l. OUTBOX_BYTES < length l + 18) (ap (λ l. l ++ text) kept.1 ∙ append_assoc p.outbox first text) full)
      ]
]
