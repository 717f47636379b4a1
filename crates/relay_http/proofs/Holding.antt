-- What came with an answer's head is looked at before the head goes out.
use Rattle.std.proofs.Common.{◌≡◌, ◌<◌, ◌≤◌, ◌+◌, ◌⊎◌, ℕ, Bool, List, [], ◌∷◌, ◌++◌, length, sym, arith, ap, length-append, subst, inl, inr}
use Rattle.base_streams.specs.Streams.{Stream}
use Rattle.httparse.specs.Ascii.{space}
use Rattle.httparse.specs.Grammar.{ResponseHead, print_blank, print_version, print_reason, print_end, print_section, print_response}
use Rattle.http_bodies.specs.Steps.{Ends, HoldsBack, Moves, Reads}
use Rattle.http_bodies.specs.Texts.{Wrote}
use Rattle.http_bodies.specs.declared.outbox.TheConstants.{OUTBOX_BYTES}
use Rattle.http_texts.specs.Messages.{print_heads, interims_text}
use Rattle.relay_http.proofs.Failing.{wrote_of}

some_before : (a b c d e : List ℕ) (x : ℕ) → 0 < length (a ++ x ∷ b ++ c ++ d ++ e)
some_before a b c d e x =
    omega (
      arith,
      length-append a (x ∷ b),
      length-append (a ++ x ∷ b) c,
      length-append (a ++ x ∷ b ++ c) d,
      length-append (a ++ x ∷ b ++ c ++ d) e,
    )

-- a head has bytes
some_printed : (h : ResponseHead) → 0 < length (print_response h)
unfolding print_response
some_printed h =
    some_before (print_blank h.blank ++ print_version h.minor) (h.digits) (print_reason h.reason) (print_end h.line_end) (print_section h.fields h.last) space

-- heads that nobody held were read
some_read : {a b : Ends} {text : List ℕ} (hs : List ResponseHead) (h : ResponseHead) → a.pipe.inbox ≡ [] → Moves a b (print_heads hs ++ print_response h) text
    → a.source.calls < b.source.calls
some_read {a} {b} hs h none x =
    omega (
      arith,
      some_printed h,
      length-append (print_heads hs) (print_response h),
      length-append (print_heads hs ++ print_response h) b.pipe.inbox,
      length-append a.pipe.inbox x.taken,
      ap (length {A = ℕ}) none,
      ap (length {A = ℕ}) x.held,
      x.reads.few,
    )

pub head_held : {a b c : Ends} {taken : List ℕ} (text : List ℕ) (framed : Bool) (hs : List ResponseHead) (h : ResponseHead)
    → a.pipe.inbox ≡ [] → a.pipe.outbox ≡ [] → b.pipe.outbox ≡ []
    → Moves a b (print_heads hs ++ print_response h) (interims_text framed hs) → Reads b c taken
    → c.source.calls ≤ a.source.calls + 1
    → HoldsBack b c text
    → Wrote a.sink c.sink (interims_text framed hs) ⊎ (OUTBOX_BYTES < length text + 18)
head_held {a} {b} {c} text framed hs h held waits left read later few holds =
    let first = some_read hs h held read in
    let same : c.source.calls ≡ b.source.calls = omega (arith, first, later.reads, few) in
    elim (holds same) [
      | inl still ↦ inl (subst (λ (w : Stream). Wrote a.sink w (interims_text framed hs)) (sym still) (wrote_of waits left read))
      | inr full ↦ inr (omega (arith, full, length-append b.pipe.outbox text, ap (length {A = ℕ}) left))
    ]
