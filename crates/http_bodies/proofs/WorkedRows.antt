-- The definitions at worked examples: what must hold, and what must not.
use base.Fml.{GName}
use Rattle.std.proofs.Common.{◌≡◌, ℕ, List, [], Some, true, codes, length, length-append, refl, ap, arith, inl, inr}
use Rattle.base_streams.specs.Streams.{Stream}
use Rattle.httparse.specs.Grammar.LineEnd.{lf}
use Rattle.std.proofs.KnownBytes.{Consumes-nil}
use Rattle.http_bodies.specs.Framings.{IsBody, LacksBody, IsUnfinished}
use Rattle.http_bodies.specs.Steps.{Ends, ends, Breaks, HoldsBack, Asks, Lingers}
use Rattle.http_bodies.specs.Stops.{LacksRoom}
use Rattle.http_bodies.specs.Texts.{Remains, WaitsBehind, Wrote}
use Rattle.http_bodies.specs.declared.coding.Coding.TheVariants as Coded
use Rattle.http_bodies.specs.declared.fault.Fault.TheVariants.{Framing, Read, Write, Turns}
use Rattle.http_bodies.specs.declared.framing.Framing.TheVariants.{Length, ToEnd}
use Rattle.http_bodies.specs.declared.outbox.TheConstants.{OUTBOX_BYTES}
use Rattle.http_bodies.specs.declared.pipe.Pipe.{Pipe}
use Rattle.http_bodies.proofs.Writing.{Wrote-nil}
use Rattle.http_bodies.specs.Trailers.{print_trailers, IsTrailer}

-- an empty line that ends in a line feed alone ends the trailers
bare_blank : print_trailers (record { lines = []; blank = lf }) ≡ codes "\n"
bare_blank = refl

-- a lone CR is the empty line, and no trailer
no_return : ¬ (IsTrailer (codes "\r"))
no_return is = is.more refl

three_bytes : IsBody (Length 3) true (codes "abc") (codes "abc")
three_bytes = (refl, refl)

not_two_bytes : ¬ (IsBody (Length 3) true (codes "ab") (codes "ab"))
not_two_bytes is = omega (arith, is.0)

two_lack_one : LacksBody (Length 3) (codes "ab")
two_lack_one = omega arith

three_lack_none : ¬ (LacksBody (Length 3) (codes "abc"))
three_lack_none lacks = omega (arith, lacks)

-- what goes on to the end lacks nothing
empty_is_whole : ¬ (LacksBody ToEnd [])
empty_is_whole lacks = lacks

stream : GName → List ℕ → ℕ → Stream
stream end bytes calls = record { name = end; bytes = Some bytes; calls = calls; failures = 0 }

-- two bytes went out by one write
one_write : (end : GName) → Wrote (stream end [] 0) (stream end (codes "ab") 1) (codes "ab")
unfolding stream
one_write end = record { bytes = refl; more = omega arith; some = omega arith; none = λ e. absurd (omega (arith, e)) }

-- one byte isn't what two writes took, since each takes one at least
not_two_writes : (end : GName) → ¬ (Wrote (stream end [] 0) (stream end (codes "a") 2) (codes "a"))
unfolding stream
not_two_writes end wrote = omega (arith, wrote.some)

-- a text for which there is room waits, and isn't written at once
waits : (end : GName) → WaitsBehind (stream end [] 0) (stream end [] 0) (codes "a") (codes "ab") (codes "b")
waits end = inl (refl, refl)

not_at_once : (end : GName) → ¬ (WaitsBehind (stream end [] 0) (stream end (codes "b") 1) [] [] (codes "b"))
unfolding stream
not_at_once end waits = elim waits [
  | inl kept ↦ absurd (omega (arith, ap (λ (w : Stream). w.calls) kept.0))
  | inr full ↦ absurd (omega (arith, full))
]

-- behind a full outbox there is no room for a byte, and behind nothing there is; where no byte comes none lacks room
full : (waiting : List ℕ) → length waiting ≡ OUTBOX_BYTES → LacksRoom Coded.ToEnd waiting (codes "a")
full waiting all = omega (arith, all, length-append waiting (codes "a"))

not_empty : ¬ (LacksRoom Coded.ToEnd [] (codes "a"))
not_empty lacks = omega (arith, lacks)

no_byte : (waiting : List ℕ) → ¬ (LacksRoom Coded.ToEnd waiting [])
no_byte waiting lacks = lacks

ends_at : GName → List ℕ → ℕ → ℕ → Ends
ends_at end sent reads writes = record {
  pipe = record { inbox = []; outbox = []; turns = 9 };
  source = stream end [] reads;
  sink = stream end sent writes;
}

-- without a read nothing is written of a text for which there is room; after one it may be
held_back : (end : GName) → HoldsBack (ends_at end [] 1 0) (ends_at end [] 1 0) (codes "a")
held_back end = λ same. inl refl

after_a_read : (end : GName) → HoldsBack (ends_at end [] 1 0) (ends_at end (codes "a") 2 1) (codes "a")
unfolding ends_at stream
after_a_read end = λ same. absurd (omega (arith, same))

not_before_one : (end : GName) → ¬ (HoldsBack (ends_at end [] 1 0) (ends_at end (codes "a") 1 1) (codes "a"))
unfolding ends_at stream
not_before_one end holds = elim (holds refl) [
  | inl same ↦ absurd (omega (arith, ap (λ (w : Stream). w.calls) same))
  | inr full ↦ absurd (omega (arith, full))
]

no_write : Framing ≡ Write → ⊥
no_write is = cc

no_turns : Framing ≡ Turns → ⊥
no_turns is = cc

-- of two bytes one was written, and both wait as before; a pipe that dropped the one would be wrong
as_before : Remains (codes "a") (codes "ab") (codes "ab")
as_before = inl (omega arith, refl)

not_one_less : ¬ (Remains (codes "a") (codes "ab") (codes "b"))
not_one_less remains = elim remains [
  | inl kept ↦ absurd (omega (arith, ap (length {A = ℕ}) kept.1))
  | inr gone ↦ absurd (omega (arith, gone.0))
]

-- the byte that wasn't written waits, after the one that was where the write failed behind it
lingers_with_it : Lingers (codes "a") (codes "b") (codes "ab") Write
lingers_with_it = record { sent = []; again = codes "a"; front_is = refl; waiting_is = refl; stopped = inr (omega arith, inl refl) }

lingers_alone : Lingers (codes "a") (codes "b") (codes "b") Write
lingers_alone = record { sent = codes "a"; again = []; front_is = refl; waiting_is = refl; stopped = inl refl }

-- it isn't dropped
not_dropped : ¬ (Lingers (codes "a") (codes "b") [] Write)
not_dropped x = omega (arith, ap (length {A = ℕ}) x.waiting_is, length-append x.again (codes "b"))

-- and what was written doesn't wait again after a fault of the bytes
not_again : ¬ (Lingers (codes "a") (codes "b") (codes "ab") Framing)
not_again x = elim x.stopped [
  | inl none ↦ absurd (omega (arith, ap (length {A = ℕ}) x.waiting_is, length-append x.again (codes "b"), ap (length {A = ℕ}) none))
  | inr stopped ↦ elim stopped.1 [ inl is ↦ absurd (no_write is) | inr is ↦ absurd (no_turns is) ]
]

holding : List ℕ → ℕ → Pipe
holding held turns = record { inbox = held; outbox = []; turns = turns }

failing : GName → List ℕ → ℕ → Stream
failing end bytes calls = record { name = end; bytes = Some bytes; calls = calls; failures = 1 }

-- a read may fail where one byte of a body of two is held, and not behind both bytes
failed_amid_a_body : (end : GName) (w : Stream) → Breaks (ends (holding (codes "a") 9) (stream end (codes "b") 0) w)
    (ends (holding (codes "a") 8) (failing end (codes "b") 1) w) [] [] (LacksBody (Length 2)) (IsUnfinished (Length 2)) Read
unfolding holding stream failing
failed_amid_a_body end w = record {
  taken = [];
  reads = record {
    same_source = refl;
    same_sink = refl;
    bytes = Consumes-nil (Some (codes "b"));
    few = omega arith;
    reads = omega arith;
    writes = omega arith;
    spent = omega arith;
  };
  held = refl;
  writes = record { front = []; rest = []; wrote = Wrote-nil w; all = refl };
  waiting = record { sent = []; again = []; front_is = refl; waiting_is = refl; stopped = inl refl };
  blames = (refl, inl refl);
  undone = λ is. cc;
  wanted = λ is. inr (omega arith, refl);
}

not_behind_a_body : (end : GName) (w : Stream) → ¬ (Breaks (ends (holding (codes "a") 9) (stream end (codes "b") 0) w)
    (ends (holding [] 7) (failing end [] 2) w) (codes "ab") [] (LacksBody (Length 2)) (IsUnfinished (Length 2)) Read)
unfolding holding stream failing
not_behind_a_body end w x = elim (x.wanted refl) [
  | inl is ↦ cc
  | inr lacks ↦ absurd (omega (arith, lacks.0, ap (length {A = ℕ}) x.held))
]

-- of a body of two bytes, of which each read brings one, two reads are made, and not a third
two_reads : (end : GName) → Asks (stream end (codes "abc") 0) (stream end (codes "c") 2) [] (IsUnfinished (Length 2))
unfolding stream
two_reads end = record { before = codes "a"; last = codes "b"; bytes = refl; few = omega arith; wanted = inr (omega arith, refl) }

not_a_third : (end : GName) → ¬ (Asks (stream end (codes "abc") 0) (stream end [] 3) [] (IsUnfinished (Length 2)))
unfolding stream
not_a_third end asks = elim asks.wanted [ inl is ↦ cc | inr lacks ↦ absurd (omega (arith, lacks.0, asks.few)) ]
