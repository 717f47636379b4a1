-- Steps one after the other.
use Rattle.std.proofs.Common.{◌≡◌, ◌∙◌, ◌⊎◌, ℕ, ◌+◌, List, [], ◌++◌}
use Rattle.std.proofs.Common.{refl, sym, ap, arith, append_assoc, append-nil, subst, inl, inr, length-append}
use Rattle.std.specs.Io.KnownBytes.{IsAtEnd}
use Rattle.std.proofs.KnownBytes.{Consumes-nil, Consumes-trans}
use Rattle.base_streams.specs.Streams.{Stream}
use Rattle.http_bodies.specs.declared.fault.Fault.{Fault}
use Rattle.http_bodies.specs.declared.fault.Fault.TheVariants.{Framing, Read, Write, Turns}
use Rattle.http_bodies.specs.declared.pipe.Pipe.{Pipe}
use Rattle.http_bodies.specs.Texts.{Emits, StopsBy, Stops}
use Rattle.http_bodies.proofs.Emitting.{stops_as}
use Rattle.http_bodies.proofs.Writing.{Wrote-nil, Wrote-trans}
use Rattle.http_bodies.specs.Steps.{Ends, ends, Countable, Reads, Moves, Blames, Lingers, Breaks, LacksNothing, IsAll}

-- a list whose front is taken off, twice
pub joined : (a b c d e f g : List ℕ) → a ++ b ≡ c ++ d → d ++ e ≡ f ++ g → a ++ (b ++ e) ≡ (c ++ f) ++ g
joined a b c d e f g p q =
    sym (append_assoc a b e) ∙ ap (λ l. l ++ e) p ∙ append_assoc c d e ∙ ap (λ l. c ++ l) q ∙ sym (append_assoc c f g)

pub Reads-none : (e : Ends) → Reads e e []
Reads-none e = record {
  same_source = refl;
  same_sink = refl;
  bytes = Consumes-nil e.source.bytes;
  few = omega arith;
  reads = omega arith;
  writes = omega arith;
  spent = refl;
}

pub Reads-trans : {a b c : Ends} {x y : List ℕ} → Reads a b x → Reads b c y → Reads a c (x ++ y)
Reads-trans {a} {b} {c} {x} {y} p q = record {
  same_source = q.same_source ∙ p.same_source;
  same_sink = q.same_sink ∙ p.same_sink;
  bytes = Consumes-trans a.source.bytes b.source.bytes c.source.bytes x y p.bytes q.bytes;
  few = omega (arith, p.few, q.few, length-append x y);
  reads = omega (arith, p.reads, q.reads);
  writes = omega (arith, p.writes, q.writes);
  spent = q.spent ∙ p.spent;
}

pub Countable-later : {a b : Ends} {x : List ℕ} → Reads a b x → Countable a → Countable b
Countable-later p h = record {
  reads = omega (arith, p.spent, p.writes, h.reads);
  writes = omega (arith, p.spent, p.reads, h.writes);
}

pub moves_none : (e : Ends) → Moves e e [] []
moves_none e = record {
  taken = [];
  reads = Reads-none e;
  held = append-nil e.pipe.inbox;
  front = [];
  writes = Wrote-nil e.sink;
  waiting = append-nil e.pipe.outbox;
  good_reads = refl;
  good_writes = refl;
}

unfoldable pub moves_trans : {a b c : Ends} {used text more_used more_text : List ℕ} → Moves a b used text → Moves b c more_used more_text
    → Moves a c (used ++ more_used) (text ++ more_text)
moves_trans {a} {b} {c} {used} {text} {more_used} {more_text} p q = record {
  taken = p.taken ++ q.taken;
  reads = Reads-trans p.reads q.reads;
  held = joined a.pipe.inbox p.taken used b.pipe.inbox q.taken more_used c.pipe.inbox p.held q.held;
  front = p.front ++ q.front;
  writes = Wrote-trans p.writes q.writes;
  waiting = joined a.pipe.outbox text p.front b.pipe.outbox more_text q.front c.pipe.outbox p.waiting q.waiting;
  good_reads = q.good_reads ∙ p.good_reads;
  good_writes = q.good_writes ∙ p.good_writes;
}

-- whose the fault is doesn't depend on where one begins to look, as long as no call failed before
blames_earlier : (fault : Fault) (a b c : Ends) (Lacks Whole : List ℕ → Type 0) (used input whole : List ℕ)
    → b.source.failures ≡ a.source.failures → b.sink.failures ≡ a.sink.failures
    → ((l : List ℕ) → Lacks l → Whole (used ++ l)) → whole ≡ used ++ input
    → Blames b c Lacks input fault → Blames a c Whole whole fault
blames_earlier Read a b c Lacks Whole used input whole r w step e blame = (
  blame.0 ∙ w,
  elim blame.1 [
    | inl failed ↦ inl (failed ∙ ap (λ n. n + 1) r)
    | inr ended ↦ inr (ended.0 ∙ r, ended.1, subst Whole (sym e) (step input ended.2))
  ],
)
blames_earlier Write a b c Lacks Whole used input whole r w step e blame = (blame.0 ∙ r, blame.1 ∙ ap (λ n. n + 1) w)
blames_earlier Turns a b c Lacks Whole used input whole r w step e blame = (blame.0 ∙ r, blame.1 ∙ w, blame.2)
blames_earlier Framing a b c Lacks Whole used input whole r w step e blame = (
  blame.0 ∙ r,
  blame.1 ∙ w,
  λ more. subst Whole (sym (ap (λ l. l ++ more) e ∙ append_assoc used input more)) (step (input ++ more) (blame.2 more)),
)

-- all that was written before doesn't wait any more
lingers_after : {front rest waiting : List ℕ} {fault : Fault} (before : List ℕ) → Lingers front rest waiting fault
    → Lingers (before ++ front) rest waiting fault
lingers_after before x = record {
  sent = before ++ x.sent;
  again = x.again;
  front_is = ap (λ l. before ++ l) x.front_is ∙ sym (append_assoc before x.sent x.again);
  waiting_is = x.waiting_is;
  stopped = x.stopped;
}

-- exactly what wasn't written waits
lingers_rest : (front rest : List ℕ) (fault : Fault) → Lingers front rest rest fault
lingers_rest front rest fault = record { sent = front; again = []; front_is = sym (append-nil front); waiting_is = refl; stopped = inl refl }

-- a step, and then a fault; what lacks behind the step, or is wanted there, does so in the whole
pub moves_breaks : {a b c : Ends} {used text more_used more_text : List ℕ} {fault : Fault} (Lacks Whole Wants All : List ℕ → Type 0)
    → ((l : List ℕ) → Lacks l → Whole (used ++ l)) → ((l : List ℕ) → Wants l → All (used ++ l))
    → Moves a b used text → Breaks b c more_used more_text Lacks Wants fault
    → Breaks a c (used ++ more_used) (text ++ more_text) Whole All fault
moves_breaks {a} {b} {c} {used} {text} {more_used} {more_text} {fault} Lacks Whole Wants All step want p q =
    let front : a.pipe.inbox ++ (p.taken ++ q.taken) ≡ used ++ (b.pipe.inbox ++ q.taken) =
    sym (append_assoc a.pipe.inbox p.taken q.taken) ∙ ap (λ l. l ++ q.taken) p.held ∙ append_assoc used b.pipe.inbox q.taken in record {
      taken = p.taken ++ q.taken;
      reads = Reads-trans p.reads q.reads;
      held = joined a.pipe.inbox p.taken used b.pipe.inbox q.taken more_used c.pipe.inbox p.held q.held;
      writes = record {
        front = p.front ++ q.writes.front;
        rest = q.writes.rest;
        wrote = Wrote-trans p.writes q.writes.wrote;
        all = joined a.pipe.outbox text p.front b.pipe.outbox more_text q.writes.front q.writes.rest p.waiting q.writes.all;
      };
      waiting = lingers_after p.front q.waiting;
      blames = blames_earlier fault a b c Lacks Whole used (b.pipe.inbox ++ q.taken)
          (a.pipe.inbox ++ (p.taken ++ q.taken)) p.good_reads p.good_writes step front q.blames;
      undone = λ spent. elim (q.undone spent) [
        | inl some ↦ inl some
        | inr wants ↦ inr (subst All (sym front) (want (b.pipe.inbox ++ q.taken) wants))
      ];
      wanted = λ is. subst All (sym front) (want (b.pipe.inbox ++ q.taken) (q.wanted is));
    }

unfoldable pub moves_as : {a b : Ends} {used text same_used same_text : List ℕ} → used ≡ same_used → text ≡ same_text → Moves a b used text → Moves a b same_used same_text
moves_as {a} {b} e f p = record {
  taken = p.taken;
  reads = p.reads;
  held = p.held ∙ ap (λ l. l ++ b.pipe.inbox) e;
  front = p.front;
  writes = p.writes;
  waiting = ap (λ l. a.pipe.outbox ++ l) (sym f) ∙ p.waiting;
  good_reads = p.good_reads;
  good_writes = p.good_writes;
}

pub breaks_as : {a b : Ends} {used text same_used same_text : List ℕ} {fault : Fault} (Lacks Wants : List ℕ → Type 0) → used ≡ same_used → text ≡ same_text
    → Breaks a b used text Lacks Wants fault → Breaks a b same_used same_text Lacks Wants fault
breaks_as {a} {b} {used} {text} {same_used} {fault = fault} Lacks Wants e f p =
    subst (λ (l : List ℕ). Breaks a b same_used l Lacks Wants fault) f (subst (λ (l : List ℕ). Breaks a b l text Lacks Wants fault) e p)

-- what was emitted, as a step that uses some of what is held
pub moves_emit : {p0 p : Pipe} {w0 w : Stream} {text : List ℕ} (s : Stream) (used : List ℕ) → Emits w0 w p0.turns p.turns p0.outbox p.outbox text
    → p0.inbox ≡ used ++ p.inbox → Moves (ends p0 s w0) (ends p s w) used text
moves_emit {p0} {p} {w0} {w} s used e same = record {
  taken = [];
  reads = record {
    same_source = refl;
    same_sink = e.spends.same;
    bytes = Consumes-nil s.bytes;
    few = omega arith;
    reads = omega arith;
    writes = e.spends.calls;
    spent = omega (arith, e.spends.spent);
  };
  held = append-nil p0.inbox ∙ same;
  front = e.front;
  writes = e.wrote;
  waiting = e.all;
  good_reads = refl;
  good_writes = e.fine;
}

stops_blame : (fault : Fault) (p0 p : Pipe) (w0 w : Stream) (s : Stream) (input : List ℕ) → StopsBy w0 w p.turns fault
    → Blames (ends p0 s w0) (ends p s w) LacksNothing input fault
stops_blame Read p0 p w0 w s input by = absurd by
stops_blame Write p0 p w0 w s input by = (refl, by)
stops_blame Turns p0 p w0 w s input by = (refl, by.0, by.1)
stops_blame Framing p0 p w0 w s input by = absurd by

-- a fault that stops a text
stopped_by : (w0 w : Stream) (turns : ℕ) (fault : Fault) → StopsBy w0 w turns fault → (fault ≡ Write) ⊎ (fault ≡ Turns)
stopped_by w0 w turns Write by = inl refl
stopped_by w0 w turns Turns by = inr refl
stopped_by w0 w turns Read by = absurd by
stopped_by w0 w turns Framing by = absurd by

-- and no read
pub stopped_by_no_read : (w0 w : Stream) (turns : ℕ) (fault : Fault) → StopsBy w0 w turns fault → fault ≡ Read → ⊥
stopped_by_no_read w0 w turns Write by is = cc
stopped_by_no_read w0 w turns Turns by is = cc
stopped_by_no_read w0 w turns Read by is = absurd by
stopped_by_no_read w0 w turns Framing by is = absurd by

-- what waits is as it was where it wasn't written whole
lingers_stopped : {w0 w : Stream} {turns0 turns : ℕ} {text : List ℕ} {fault : Fault} (waiting : List ℕ) → (e : Stops w0 w turns0 turns text fault)
    → waiting ≡ text → Lingers e.front.front e.front.rest waiting fault
lingers_stopped {w0} {w} {turns = turns} {fault = fault} waiting e same = record {
  sent = [];
  again = e.front.front;
  front_is = refl;
  waiting_is = same ∙ e.front.all;
  stopped = inr (e.left, stopped_by w0 w turns fault e.cause);
}

-- what waits wasn't written whole, as a step that breaks
pub breaks_flush : {p0 p : Pipe} {w0 w : Stream} {fault : Fault} (s : Stream) (Wants : List ℕ → Type 0)
    → Stops w0 w p0.turns p.turns p0.outbox fault → p.inbox ≡ p0.inbox → p.outbox ≡ p0.outbox
    → Breaks (ends p0 s w0) (ends p s w) [] [] LacksNothing Wants fault
breaks_flush {p0} {p} {w0} {w} {fault} s Wants stops held waits = let e = stops_as (sym (append-nil p0.outbox)) stops in record {
  taken = [];
  reads = record {
    same_source = refl;
    same_sink = e.spends.same;
    bytes = Consumes-nil s.bytes;
    few = omega arith;
    reads = omega arith;
    writes = e.spends.calls;
    spent = omega (arith, e.spends.spent);
  };
  held = append-nil p0.inbox ∙ sym held;
  writes = e.front;
  waiting = lingers_stopped p.outbox e (waits ∙ sym (append-nil p0.outbox));
  blames = stops_blame fault p0 p w0 w s (p0.inbox ++ []) e.cause;
  undone = λ spent. inl e.left;
  wanted = λ is. absurd (stopped_by_no_read w0 w p.turns fault e.cause is);
}

read_is_not_turns : Read ≡ Turns → ⊥
read_is_not_turns is = cc

framing_is_not_turns : Framing ≡ Turns → ⊥
framing_is_not_turns is = cc

framing_is_not_read : Framing ≡ Read → ⊥
framing_is_not_read is = cc

turns_is_not_read : Turns ≡ Read → ⊥
turns_is_not_read is = cc

-- steps after which the input ended too early
pub breaks_end : {a b : Ends} {used text : List ℕ} (Lacks Wants : List ℕ → Type 0) → Moves a b used text → IsAtEnd b.source.bytes
    → Lacks (used ++ b.pipe.inbox) → Wants (used ++ b.pipe.inbox)
    → Breaks a b used text Lacks Wants Read
breaks_end {a} {b} {used} Lacks Wants p end lacks wants = record {
  taken = p.taken;
  reads = p.reads;
  held = p.held;
  writes = record { front = p.front; rest = b.pipe.outbox; wrote = p.writes; all = p.waiting };
  waiting = lingers_rest p.front b.pipe.outbox Read;
  blames = (p.good_writes, inr (p.good_reads, end, subst Lacks (sym p.held) lacks));
  undone = λ spent. absurd (read_is_not_turns spent);
  wanted = λ is. subst Wants (sym p.held) wants;
}

-- no continuation of the input has what is wanted
pub breaks_framing : {a b : Ends} {used text : List ℕ} (Lacks Wants : List ℕ → Type 0) → Moves a b used text
    → ((more : List ℕ) → Lacks ((used ++ b.pipe.inbox) ++ more))
    → Breaks a b used text Lacks Wants Framing
breaks_framing {a} {b} {used} Lacks Wants p never = record {
  taken = p.taken;
  reads = p.reads;
  held = p.held;
  writes = record { front = p.front; rest = b.pipe.outbox; wrote = p.writes; all = p.waiting };
  waiting = lingers_rest p.front b.pipe.outbox Framing;
  blames = (p.good_reads, p.good_writes, λ more. subst (λ (l : List ℕ). Lacks (l ++ more)) (sym p.held) (never more));
  undone = λ spent. absurd (framing_is_not_turns spent);
  wanted = λ is. absurd (framing_is_not_read is);
}

-- the front of what is held is used, and nothing else is changed
pub moves_use : (p0 p : Pipe) (s w : Stream) (used : List ℕ) → p0.inbox ≡ used ++ p.inbox → p.outbox ≡ p0.outbox → p.turns ≡ p0.turns
    → Moves (ends p0 s w) (ends p s w) used []
moves_use p0 p s w used e same turns = record {
  taken = [];
  reads = record {
    same_source = refl;
    same_sink = refl;
    bytes = Consumes-nil s.bytes;
    few = omega arith;
    reads = omega arith;
    writes = omega arith;
    spent = omega (arith, turns);
  };
  held = append-nil p0.inbox ∙ e;
  front = [];
  writes = Wrote-nil w;
  waiting = append-nil p0.outbox ∙ sym same;
  good_reads = refl;
  good_writes = refl;
}

-- no turn is left, so nothing is asked
pub breaks_unasked : (p : Pipe) (s w : Stream) → p.turns ≡ 0 → Breaks (ends p s w) (ends p s w) [] [] LacksNothing (IsAll p.inbox) Turns
breaks_unasked p s w none = record {
  taken = [];
  reads = Reads-none (ends p s w);
  held = append-nil p.inbox;
  writes = record { front = []; rest = p.outbox; wrote = Wrote-nil w; all = append-nil p.outbox };
  waiting = lingers_rest [] p.outbox Turns;
  blames = (refl, refl, none);
  undone = λ spent. inr (append-nil p.inbox);
  wanted = λ is. absurd (turns_is_not_read is);
}

-- a read failed, and nothing else is changed
pub breaks_read : (p0 p : Pipe) (s0 s w : Stream) → p.inbox ≡ p0.inbox → p.outbox ≡ p0.outbox → Reads (ends p0 s0 w) (ends p s w) []
    → s.failures ≡ s0.failures + 1
    → Breaks (ends p0 s0 w) (ends p s w) [] [] LacksNothing (IsAll p0.inbox) Read
breaks_read p0 p s0 s w held waits reads failed = record {
  taken = [];
  reads = reads;
  held = append-nil p0.inbox ∙ sym held;
  writes = record { front = []; rest = p.outbox; wrote = Wrote-nil w; all = append-nil p0.outbox ∙ sym waits };
  waiting = lingers_rest [] p.outbox Read;
  blames = (refl, inl failed);
  undone = λ spent. absurd (read_is_not_turns spent);
  wanted = λ is. append-nil p0.inbox;
}
