-- A coding that is fed from a pipe: what it used is a body, a part of one, or will never be one.
use Rattle.std.proofs.Common.{◌≡◌, ◌≢◌, ◌∙◌, ◌⊎◌, ◌+◌, ◌<◌, ◌≤◌, ℕ, Bool, true, false, List, [], ◌∷◌, ◌++◌, length, take, drop}
use Rattle.std.proofs.Common.{refl, sym, ap, arith, append_assoc, append-nil, length-append, subst, inl, inr}
use Rattle.std.specs.Io.KnownBytes.{Consumes, IsAtEnd}
use Rattle.std.proofs.KnownBytes.{Consumes-nil, Consumes-trans}
use Rattle.std.proofs.lemmas.Bool.{false≢true}
use Rattle.std.proofs.lemmas.List.{take-append-drop, nil_from_length}
use Rattle.base_streams.specs.Streams.{Stream}
use Rattle.http_bodies.specs.Framings.{IsBody, LacksBody, IsSound, IsUnfinished}
use Rattle.http_bodies.specs.declared.fault.Fault.{Fault}
use Rattle.http_bodies.specs.declared.fault.Fault.TheVariants as Faulty
use Rattle.http_bodies.specs.declared.framing.Framing.{Framing}
use Rattle.http_bodies.specs.declared.framing.Framing.TheVariants as Framed
use Rattle.http_bodies.proofs.Writing.{Wrote-nil}
use Rattle.http_bodies.specs.Readings.{Reading, Feeds, Hands, start_of}
use Rattle.http_bodies.specs.Runs.{IsSent, IsTaken}
use Rattle.http_bodies.specs.Stops.{is_done, is_bad}
use Rattle.http_bodies.specs.declared.coding.Coding.{Coding}
use Rattle.http_bodies.specs.declared.coding.Coding.TheVariants.{ToEnd}
use Rattle.http_bodies.proofs.Derivatives.{feeds_nil, feeds_trans}
use Rattle.http_bodies.proofs.Running.{read_nothing, run_text, run_done, run_bad, run_early, run_sound}
use Rattle.http_bodies.specs.Steps.{Ends, ends, Reads, Moves, Breaks, HoldsBack, LacksNothing, IsAll, AsksAtNeed}
use Rattle.http_bodies.specs.declared.outbox.TheConstants.{OUTBOX_BYTES}
use Rattle.http_bodies.specs.declared.pipe.Pipe.{Pipe}
use Rattle.http_bodies.proofs.Stepping.{moves_none, moves_trans, moves_as, moves_breaks, breaks_as, breaks_end, breaks_framing}

-- the front of what is held is used, and its text is put behind what waits
moves_feed : (p0 p : Pipe) (s w : Stream) (used text : List ℕ) → p0.inbox ≡ used ++ p.inbox → p.outbox ≡ p0.outbox ++ text → p.turns ≡ p0.turns
    → Moves (ends p0 s w) (ends p s w) used text
moves_feed p0 p s w used text e waits turns = record {
  taken = [];
  reads = record {
    same_source = refl;
    same_sink = refl;
    bytes = Consumes-nil s.bytes;
    few = omega arith;
    reads = omega arith;
    writes = omega arith;
    spent = omega (arith, turns);
  };
  held = append-nil p0.inbox ∙ e;
  front = [];
  writes = Wrote-nil w;
  waiting = sym waits;
  good_reads = refl;
  good_writes = refl;
}

pub feed_moves : {old new : Coding} (p0 p : Pipe) (input : List ℕ) (n : ℕ) (s w : Stream) → input ≡ p0.inbox
    → Hands old new (take n input) p0.outbox p.outbox → p.inbox ≡ drop n p0.inbox → p.turns ≡ p0.turns
    → (used : List ℕ) × (text : List ℕ) × Feeds old new used text × Moves (ends p0 s w) (ends p s w) used text
feed_moves p0 p input n s w same hands rest turns =
    let held : p0.inbox ≡ take n input ++ p.inbox =
    sym same ∙ sym (take-append-drop n input) ∙ ap (λ l. take n input ++ l) (ap (drop n) same ∙ sym rest) in
    (take n input, hands.given, hands.feeds, moves_feed p0 p s w (take n input) hands.given held hands.waits turns)

-- where nothing was read, all that was given waits and nothing was written, or there was no room for more
abbrev StillWaits : Ends → Ends → List ℕ → Type 0
StillWaits a b text = b.source.calls ≡ a.source.calls
    → ((b.sink ≡ a.sink) × (b.pipe.outbox ≡ a.pipe.outbox ++ text)) ⊎ (OUTBOX_BYTES < length (a.pipe.outbox ++ text) + 18)

-- where what was held isn't unfinished, nothing was asked of the source
abbrev IsUnread : Framing → Ends → Stream → Type 0
IsUnread framing a s = ¬ (IsUnfinished framing a.pipe.inbox) → s ≡ a.source

-- what a coding used of a body, from its first byte on, and the text that it gave for it; each read
-- brought a byte at least, but this number of them
pub record Forwarding (framing : Framing) (framed : Bool) (c : Coding) (a b : Ends) (idle : ℕ) : Type 0 where
  pub used : List ℕ
  pub text : List ℕ
  pub feeds : Feeds (start_of framing framed) c used text
  pub moves : Moves a b used text
  pub late : StillWaits a b text
  pub unread : IsUnread framing a b.source
  pub each : b.source.calls ≤ a.source.calls + length moves.taken + idle
  pub asked : AsksAtNeed a.source b.source a.pipe.inbox (IsUnfinished framing)

pub forwarding_start : (framing : Framing) (framed : Bool) (c : Coding) (e : Ends) → c ≡ start_of framing framed → Forwarding framing framed c e e 0
forwarding_start framing framed c e is = record {
  used = [];
  text = [];
  feeds = subst (λ (d : Coding). Feeds (start_of framing framed) d [] []) (sym is) (feeds_nil (start_of framing framed));
  moves = moves_none e;
  late = λ same. inl (refl, sym (append-nil e.pipe.outbox));
  unread = λ whole. refl;
  each = omega arith;
  asked = inl refl;
}

-- where no call was made of a sink, what was given waits
given_waits : {b e : Ends} {used text : List ℕ} → e.sink ≡ b.sink → Moves b e used text → e.pipe.outbox ≡ b.pipe.outbox ++ text
given_waits {b} {e} sink p =
    let none = p.writes.none (omega (arith, ap (λ (w : Stream). w.calls) sink, ap (λ (w : Stream). w.failures) sink)) in
    sym (p.waiting ∙ ap (λ l. l ++ e.pipe.outbox) none)

waits_feed : (a : Ends) (text : List ℕ) {b e : Ends} {used more : List ℕ} → e.source.calls ≡ b.source.calls → e.sink ≡ b.sink → StillWaits a b text → Moves b e used more
    → StillWaits a e (text ++ more)
waits_feed a text {more = more} source sink late p = λ same. elim (late (sym source ∙ same)) [
  | inl kept ↦
      inl (sink ∙ kept.0, given_waits sink p ∙ ap (λ l. l ++ more) kept.1 ∙ append_assoc a.pipe.outbox text more)
  | inr full ↦
      inr (omega (arith, full, length-append a.pipe.outbox text, length-append a.pipe.outbox (text ++ more), length-append text more))
]

waits_on : (a b e : Ends) (used text : List ℕ) → (b.pipe.inbox ≡ []) ⊎ (OUTBOX_BYTES < length b.pipe.outbox + 18)
    → (b.pipe.inbox ≡ [] → b.source.calls < e.source.calls) → Moves a b used text → StillWaits a b text → Moves b e [] []
    → StillWaits a e text
waits_on a b e used text going read before late p = λ same. elim going [
  | inl none ↦ absurd (omega (arith, read none, before.reads.reads, same))
  | inr full ↦
      let still : b.source.calls ≡ a.source.calls = omega (arith, before.reads.reads, p.reads.reads, same) in
      elim (late still) [
        | inl kept ↦ inr (subst (λ l. OUTBOX_BYTES < length l + 18) kept.1 full)
        | inr none ↦ inr none
      ]
]

pub forwarding_feed : {framing : Framing} {framed : Bool} {c d : Coding} {a b e : Ends} {idle : ℕ} → e.source ≡ b.source → e.sink ≡ b.sink
    → Forwarding framing framed c a b idle
    → (used : List ℕ) × (text : List ℕ) × Feeds c d used text × Moves b e used text → Forwarding framing framed d a e idle
unfolding moves_trans
forwarding_feed {framing} {a = a} source sink p fed = record {
  used = p.used ++ fed.0;
  text = p.text ++ fed.1;
  feeds = feeds_trans p.feeds fed.2;
  moves = moves_trans p.moves fed.3;
  late = waits_feed a p.text (ap (λ (s : Stream). s.calls) source) sink p.late fed.3;
  unread = λ whole. source ∙ p.unread whole;
  each = omega (arith, p.each, ap (λ (s : Stream). s.calls) source, length-append p.moves.taken fed.3.taken);
  asked = subst (λ (s : Stream). AsksAtNeed a.source s a.pipe.inbox (IsUnfinished framing)) (sym source) p.asked;
}

is_to_end : (framing : Framing) → (framing ≡ Framed.ToEnd) ⊎ (framing ≢ Framed.ToEnd)
is_to_end Framed.Empty = inr (λ is. cc)
is_to_end (Framed.Length count) = inr (λ is. cc)
is_to_end Framed.Chunked = inr (λ is. cc)
is_to_end Framed.ToEnd = inl refl

is_nil : (l : List ℕ) → (l ≡ []) ⊎ (l ≢ [])
is_nil [] = inl refl
is_nil (x ∷ l) = inr (λ is. cc)

-- without a call nothing was read
none_taken : {a b : Ends} {taken : List ℕ} → b.source ≡ a.source → Reads a b taken → taken ≡ []
none_taken same reads = nil_from_length _ (omega (arith, reads.few, ap (λ (s : Stream). s.calls) same))

-- what was used is no whole body yet, and no byte of it is refused
still_unfinished : {framing : Framing} (framed : Bool) {c : Coding} {used text : List ℕ} → is_done c ≡ false → is_bad c ≡ false
    → Feeds (start_of framing framed) c used text → IsUnfinished framing used
still_unfinished {framing} framed {c} {used} {text} going sound feeds = elim (is_to_end framing) [
  | inl to_end ↦ inl to_end
  | inr other ↦
      let steps = (used, text) ∷ [] in
      inr (
        subst (LacksBody framing) (append-nil used) (run_early framing framed steps c (c, feeds, refl) other going),
        subst (IsSound framing) (append-nil used) (run_sound framing framed steps c (c, feeds, refl) sound),
      )
]

-- the source isn't asked where bytes are held, and where none are, what was held is used up and unfinished
pub unread_on : {framing : Framing} {framed : Bool} {c : Coding} {a b : Ends} {idle : ℕ} (s : Stream) → is_done c ≡ false → is_bad c ≡ false
    → Forwarding framing framed c a b idle
    → (b.pipe.inbox ≢ [] → s ≡ b.source) → IsUnread framing a s
unread_on {framing} {framed} {c} {a} {b} s going sound p asks = λ whole. elim (is_nil b.pipe.inbox) [
  | inr some ↦ asks some ∙ p.unread whole
  | inl none ↦
      let all : p.used ≡ a.pipe.inbox =
      sym (append-nil p.used) ∙ ap (λ l. p.used ++ l) (sym none) ∙ sym p.moves.held
      ∙ ap (λ l. a.pipe.inbox ++ l) (none_taken (p.unread whole) p.moves.reads) ∙ append-nil a.pipe.inbox in
      absurd (whole (subst (IsUnfinished framing) all (still_unfinished framed going sound p.feeds)))
]

-- the source is asked once more, where nothing is held and so more is wanted
pub asked_on : {framing : Framing} {framed : Bool} {c : Coding} {a b : Ends} (e : Ends) (more : List ℕ) → is_done c ≡ false → is_bad c ≡ false
    → Forwarding framing framed c a b 0 → (b.pipe.inbox ≢ [] → e.source ≡ b.source) → Consumes b.source.bytes e.source.bytes more
    → e.source.calls ≤ b.source.calls + 1
    → AsksAtNeed a.source e.source a.pipe.inbox (IsUnfinished framing)
asked_on {framing} {framed} {c} {a} {b} e more going sound p asks bytes once = elim (is_nil b.pipe.inbox) [
  | inr some ↦ subst (λ (s : Stream). AsksAtNeed a.source s a.pipe.inbox (IsUnfinished framing)) (sym (asks some)) p.asked
  | inl none ↦
      let all : p.used ≡ a.pipe.inbox ++ p.moves.taken = sym (p.moves.held ∙ ap (λ l. p.used ++ l) none ∙ append-nil p.used) in
      inr (record {
        before = p.moves.taken;
        last = more;
        bytes = Consumes-trans a.source.bytes b.source.bytes e.source.bytes p.moves.taken more p.moves.reads.bytes bytes;
        few = omega (arith, p.each, once);
        wanted = subst (IsUnfinished framing) all (still_unfinished framed going sound p.feeds);
      })
]

-- each read brought a byte, but this number of them
each_on : {framing : Framing} {framed : Bool} {c : Coding} {a b e : Ends} (idle : ℕ) (p : Forwarding framing framed c a b 0)
    → (b.pipe.inbox ≢ [] → e.source ≡ b.source)
    → (q : Moves b e [] []) → (b.pipe.inbox ≡ [] → e.source.calls ≤ b.source.calls + length e.pipe.inbox + idle)
    → e.source.calls ≤ a.source.calls + length (p.moves.taken ++ q.taken) + idle
each_on {b = b} {e = e} idle p asks q brought = elim (is_nil b.pipe.inbox) [
  | inr some ↦ omega (arith, p.each, ap (λ (s : Stream). s.calls) (asks some), length-append p.moves.taken q.taken)
  | inl none ↦
      let came : q.taken ≡ e.pipe.inbox = ap (λ l. l ++ q.taken) (sym none) ∙ q.held in
      omega (arith, p.each, brought none, ap (length {A = ℕ}) came, length-append p.moves.taken q.taken)
]

pub forwarding_on : {framing : Framing} {framed : Bool} {c : Coding} {a b e : Ends} (idle : ℕ) → is_done c ≡ false → is_bad c ≡ false
    → (b.pipe.inbox ≡ []) ⊎ (OUTBOX_BYTES < length b.pipe.outbox + 18)
    → (b.pipe.inbox ≡ [] → b.source.calls < e.source.calls) → (b.pipe.inbox ≢ [] → e.source ≡ b.source)
    → (b.pipe.inbox ≡ [] → e.source.calls ≤ b.source.calls + length e.pipe.inbox + idle) → e.source.calls ≤ b.source.calls + 1
    → Forwarding framing framed c a b 0 → Moves b e [] []
    → Forwarding framing framed c a e idle
unfolding moves_trans moves_as
forwarding_on {a = a} {b = b} {e = e} idle unfinished sound going read asks brought once p moves = record {
  used = p.used;
  text = p.text;
  feeds = p.feeds;
  moves = moves_as (append-nil p.used) (append-nil p.text) (moves_trans p.moves moves);
  late = waits_on a b e p.used p.text going read p.moves p.late moves;
  unread = unread_on e.source unfinished sound p asks;
  each = each_on idle p asks moves brought;
  asked = asked_on e moves.taken unfinished sound p asks moves.reads.bytes once;
}

-- what goes on to the end is given as it came, and is never done
all_given : (c : Coding) (used text : List ℕ) → Feeds ToEnd c used text → text ≡ used
all_given c used text f =
    sym (append-nil text)
    ∙ ap (λ (q : Reading). text ++ q.text) (sym (read_nothing c))
    ∙ sym (ap (λ (q : Reading). q.text) (f.goes_on []))
    ∙ append-nil used

never_done : (c : Coding) (used text : List ℕ) → Feeds ToEnd c used text → is_done c ≡ false
never_done c used text f =
    ap (λ (q : Reading). is_done q.coding) (sym (read_nothing c)) ∙ sym (ap (λ (q : Reading). is_done q.coding) (f.goes_on []))

-- where nothing lacks, the bytes aren't at fault
breaks_plainly : {a b : Ends} {used text : List ℕ} {fault : Fault} (Wants : List ℕ → Type 0) → fault ≡ Faulty.Framing
    → Breaks a b used text LacksNothing Wants fault
    → ⊥
breaks_plainly {a} {b} {used} {text} Wants is breaks =
    let plain = subst (λ (f : Fault). Breaks a b used text LacksNothing Wants f) is breaks in
    plain.blames.2 []

read_is_not_framing : Faulty.Read ≡ Faulty.Framing → ⊥
read_is_not_framing is = cc

-- a whole body was handed on
abbrev pub IsWhole : Framing → Bool → Ends → Ends → Type 0
IsWhole framing framed a b = (used : List ℕ) × (text : List ℕ) × IsBody framing framed used text × Moves a b used text × HoldsBack a b text

-- a fault was met amid a body
abbrev pub StopsAmid : Framing → Bool → Ends → Ends → Fault → Type 0
StopsAmid framing framed a b fault = (used : List ℕ) × (text : List ℕ) × IsTaken framing framed used text
    × Breaks a b used text (LacksBody framing) (IsUnfinished framing) fault
    × (fault ≡ Faulty.Framing → HoldsBack a b text)

still_holds : (a b : Ends) (text : List ℕ) → StillWaits a b text → HoldsBack a b text
still_holds a b text late = λ same. elim (late same) [ inl kept ↦ inl kept.0 | inr full ↦ inr full ]

module _ {framing : Framing} {framed : Bool} {c : Coding} {a b : Ends} {idle : ℕ} (p : Forwarding framing framed c a b idle) where
  pub never_whole : framing ≡ Framed.ToEnd → is_done c ≡ true → ⊥
  never_whole e is =
      let none = subst (λ (f : Framing). Feeds (start_of f framed) c p.used p.text → is_done c ≡ false) (sym e) (never_done c p.used p.text) p.feeds in
      false≢true (sym none ∙ is)

  pub whole_body : is_done c ≡ true → IsWhole framing framed a b
  whole_body is =
      let body = run_done framing framed ((p.used, p.text) ∷ []) c (c, p.feeds, refl) is in
      let held = subst (λ (l : List ℕ). HoldsBack a b l) (sym (append-nil p.text)) (still_holds a b p.text p.late) in
      (p.used ++ [], p.text ++ [], body, moves_as (sym (append-nil p.used)) (sym (append-nil p.text)) p.moves, held)

  pub body_to_end : framing ≡ Framed.ToEnd → IsWhole framing framed a b
  body_to_end e =
      let body = subst (λ (f : Framing). Feeds (start_of f framed) c p.used p.text → IsBody f framed p.used p.text) (sym e) (all_given c p.used p.text) p.feeds in
      (p.used, p.text, body, p.moves, still_holds a b p.text p.late)

  -- a fault: the text is that of what was used
  part_of : {d : Ends} {fault : Fault} → (fault ≡ Faulty.Framing → HoldsBack a d p.text)
      → Breaks a d p.used p.text (LacksBody framing) (IsUnfinished framing) fault
      → StopsAmid framing framed a d fault
  part_of late breaks =
      let sent = run_text framing framed ((p.used, p.text) ∷ []) c (c, p.feeds, refl) in
      let used = subst (λ (l : List ℕ). IsSent framing framed l p.text) (append-nil p.used)
      (subst (λ (l : List ℕ). IsSent framing framed (p.used ++ []) l) (append-nil p.text) sent) in
      (p.used, p.text, record { sent = used; coding = c; feeds = p.feeds }, breaks, late)

  -- what was used is no whole body yet
  unfinished : is_done c ≡ false → is_bad c ≡ false → (l : List ℕ) → IsAll [] l → IsUnfinished framing (p.used ++ l)
  unfinished is sound l none =
      subst (λ (k : List ℕ). IsUnfinished framing (p.used ++ k)) (sym none)
      (subst (IsUnfinished framing) (sym (append-nil p.used)) (still_unfinished framed is sound p.feeds))

  -- of a call that failed
  pub part_before : {d : Ends} {fault : Fault} → is_done c ≡ false → is_bad c ≡ false → Breaks b d [] [] LacksNothing (IsAll []) fault
      → StopsAmid framing framed a d fault
  part_before is sound breaks =
      part_of (λ framed. absurd (breaks_plainly (IsAll []) framed breaks))
      (breaks_as (LacksBody framing) (IsUnfinished framing) (append-nil p.used) (append-nil p.text)
      (moves_breaks LacksNothing (LacksBody framing) (IsAll []) (IsUnfinished framing) (λ l none. absurd none) (unfinished is sound) p.moves breaks))

  -- of bytes that will never be a body
  pub part_of_none : is_bad c ≡ true → StopsAmid framing framed a b Faulty.Framing
  part_of_none is =
      let never = λ (more : List ℕ). run_bad framing framed ((p.used, p.text) ∷ []) c (c, p.feeds, refl) more is in
      part_of (λ is. still_holds a b p.text p.late) (breaks_framing (LacksBody framing) (IsUnfinished framing) p.moves
      (λ more. subst (LacksBody framing)
      (ap (λ l. l ++ (b.pipe.inbox ++ more)) (append-nil p.used) ∙ sym (append_assoc p.used b.pipe.inbox more))
      (never (b.pipe.inbox ++ more))))

  -- of an input that ended too early
  pub part_at_end : is_done c ≡ false → is_bad c ≡ false → framing ≢ Framed.ToEnd → IsAtEnd b.source.bytes → b.pipe.inbox ≡ []
      → StopsAmid framing framed a b Faulty.Read
  part_at_end is sound other end none =
      let early = run_early framing framed ((p.used, p.text) ∷ []) c (c, p.feeds, refl) other is in
      part_of (λ is. absurd (read_is_not_framing is)) (breaks_end (LacksBody framing) (IsUnfinished framing) p.moves end
      (subst (LacksBody framing) (ap (λ l. p.used ++ l) (sym none)) early) (unfinished is sound b.pipe.inbox none))
