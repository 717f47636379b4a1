-- What a reading of an input says of the bodies at its front.
use Rattle.std.proofs.Common.{◌≡◌, ◌≢◌, ◌∙◌, ℕ, ◌+◌, ◌-◌, ◌<◌, ◌==◌, Bool, true, false, if◌then◌else◌, List, [], ◌∷◌, ◌++◌, length, take, drop, refl, sym, ap, arith, append_assoc, append-nil, length-append, length-take, subst}
use Rattle.std.proofs.lemmas.Bool.{eqb-true, eqb-false}
use Rattle.std.proofs.lemmas.List.{take-append-drop}
use Rattle.std.proofs.Math.Seq.{take-append-add, drop-append-add}
use Rattle.httparse.specs.Grammar.{chunk_size}
use Rattle.base_lists.proofs.Fronts.{take_front}
use Rattle.http_bodies.specs.Bodies.{ChunkedBody, IsChunked, print_chunked, chunked_text, PartOfChunked}
use Rattle.http_bodies.specs.Bodies.PartOfChunked.{some_chunks, all_of_it}
use Rattle.http_bodies.specs.Chunks.{PartOfChunk}
use Rattle.http_bodies.specs.Chunks.PartOfData.{some_data, whole_data}
use Rattle.http_bodies.specs.Chunks.PartOfChunk.{nothing, line_and_data}
use Rattle.http_bodies.specs.Framings.{IsBody, LacksBody, IsSound}
use Rattle.http_bodies.specs.declared.framing.Framing.{Framing}
use Rattle.http_bodies.specs.declared.framing.Framing.TheVariants as Framed
use Rattle.http_bodies.specs.Parts.{next, told, is_over}
use Rattle.http_bodies.specs.Readings.{Reading, reading, behind, read, read_parts, Feeds, start_of}
use Rattle.http_bodies.specs.Runs.{IsSent}
use Rattle.http_bodies.specs.Stops.{is_done, is_bad, is_whole}
use Rattle.http_bodies.specs.declared.coding.Coding.{Coding}
use Rattle.http_bodies.specs.declared.coding.Coding.TheVariants.{Length, ToEnd, Chunked}
use Rattle.http_bodies.specs.declared.coding.Part.{Part}
use Rattle.http_bodies.specs.declared.coding.Part.TheVariants.{Digits, Blank, Extension, Return, Data, DataReturn, Trailers, Done, Bad}
use Rattle.http_bodies.proofs.CodedBodies.{feeds_some_line, feeds_some_data, feeds_chunk_rest, feeds_chunks, feeds_body}
use Rattle.http_bodies.proofs.Derivatives.{feeds_nil, feeds_trans, feeds_byte}
use Rattle.http_bodies.proofs.Reaching.{Reach, reach_next, reach_start, part_at, whole_at}

-- where a reading ended
record Ends (framed : Bool) (part : Part) (input used text : List ℕ) (r : Reading) : Type 0 where
  taken : List ℕ
  end : Part
  input_is : input ≡ taken ++ r.rest
  coding_is : r.coding ≡ Chunked framed end
  feeds : Feeds (Chunked framed part) (Chunked framed end) taken r.text
  reach : Reach framed end (used ++ taken) (text ++ r.text)

reach_as : {framed : Bool} {part : Part} {used text used' text' : List ℕ} → used ≡ used' → text ≡ text' → Reach framed part used text
    → Reach framed part used' text'
reach_as {framed} {part} {used} {text} {used'} {text'} e f r =
    subst (λ (l : List ℕ). Reach framed part used' l) f (subst (λ (l : List ℕ). Reach framed part l text) e r)

by_over : (framed : Bool) (part : Part) (b : ℕ) (input used text : List ℕ) (r : Reading) (v : Bool) → Reach framed part used text
    → (v ≡ false → Ends framed (next part b) input (used ++ b ∷ []) (text ++ told framed part b) r) → is_over part ≡ v
    → Ends framed part (b ∷ input) used text (if v then reading [] (b ∷ input) (Chunked framed part) else behind (told framed part b) r)
by_over framed part b input used text r true at on over = record {
  taken = [];
  end = part;
  input_is = refl;
  coding_is = refl;
  feeds = feeds_nil (Chunked framed part);
  reach = reach_as (sym (append-nil used)) (sym (append-nil text)) at;
}
by_over framed part b input used text r false at on over =
    let e = on refl in
    record {
      taken = b ∷ e.taken;
      end = e.end;
      input_is = ap (λ l. b ∷ l) e.input_is;
      coding_is = e.coding_is;
      feeds = feeds_trans (feeds_byte framed part b over) e.feeds;
      reach = reach_as (append_assoc used (b ∷ []) e.taken) (append_assoc text (told framed part b) r.text) e.reach;
    }

ends_of : (framed : Bool) (part : Part) (input used text : List ℕ) → Reach framed part used text
    → Ends framed part input used text (read_parts framed part input)
ends_of framed part [] used text at = record {
  taken = [];
  end = part;
  input_is = refl;
  coding_is = refl;
  feeds = feeds_nil (Chunked framed part);
  reach = reach_as (sym (append-nil used)) (sym (append-nil text)) at;
}
ends_of framed part (b ∷ input) used text at =
    by_over framed part b input used text (read_parts framed (next part b) input) (is_over part) at
    (λ going. ends_of framed (next part b) input (used ++ b ∷ []) (text ++ told framed part b) (reach_next framed part b used text going at)) refl

at_start : (framed : Bool) (input : List ℕ) → Ends framed (Digits 0 0) input [] [] (read_parts framed (Digits 0 0) input)
at_start framed input = ends_of framed (Digits 0 0) input [] [] (reach_start framed)

-- what is over reads nothing more
done_reads : (framed : Bool) (input : List ℕ) → read (Chunked framed Done) input ≡ reading [] input (Chunked framed Done)
done_reads framed [] = refl
done_reads framed (b ∷ input) = refl

bad_reads : (framed : Bool) (input : List ℕ) → read (Chunked framed Bad) input ≡ reading [] input (Chunked framed Bad)
bad_reads framed [] = refl
bad_reads framed (b ∷ input) = refl

-- a part of a body is read, and gives its text
record PartRead (framed : Bool) (used text : List ℕ) : Type 0 where
  end : Part
  feeds : Feeds (Chunked framed (Digits 0 0)) (Chunked framed end) used text

chunk_read : {framed : Bool} {used text : List ℕ} → PartOfChunk framed used text → PartRead framed used text
chunk_read {framed} nothing = record { end = Digits 0 0; feeds = feeds_nil (Chunked framed (Digits 0 0)) }
chunk_read {framed} (line_and_data l used text is some (some_data body few)) =
    record { end = Data (chunk_size l - length body); feeds = feeds_trans (feeds_some_line framed l is some) (feeds_some_data framed (chunk_size l) body few) }
chunk_read {framed} (line_and_data l used text is some (whole_data body len)) =
    record { end = Digits 0 0; feeds = feeds_trans (feeds_some_line framed l is some) (feeds_chunk_rest framed (chunk_size l) body len) }

part_read : {framed : Bool} {used text : List ℕ} → PartOfChunked framed used text → PartRead framed used text
part_read {framed} (some_chunks chunks used text all part) =
    let r = chunk_read part in
    record { end = r.end; feeds = feeds_trans (feeds_chunks framed chunks all) r.feeds }
part_read {framed} (all_of_it b is) = record { end = Done; feeds = feeds_body framed b is }

sent_chunked : (framed : Bool) (input : List ℕ) → IsSent Framed.Chunked framed input (read_parts framed (Digits 0 0) input).text
sent_chunked framed input =
    let e = at_start framed input in
    let r = read_parts framed (Digits 0 0) input in
    let a = part_at framed e.end e.taken r.text e.reach in
    record {
      used = a.front;
      rest = a.rest ++ r.rest;
      input_is = e.input_is ∙ ap (λ l. l ++ r.rest) a.is ∙ append_assoc a.front a.rest r.rest;
      part = subst (λ (t : List ℕ). PartOfChunked framed a.front t) (sym a.text_is) a.part;
      most = λ more_used more_text more_rest part is.
          let p = part_read part in
          record {
            rest = (read (Chunked framed p.end) more_rest).text;
            is = ap (λ l. (read_parts framed (Digits 0 0) l).text) is ∙ ap (λ (q : Reading). q.text) (p.feeds.goes_on more_rest);
          };
    }

whole_chunked : (framed : Bool) (b : ChunkedBody) (rest : List ℕ) → IsChunked b
    → read (Chunked framed (Digits 0 0)) (print_chunked b ++ rest) ≡ reading (chunked_text framed b) rest (Chunked framed Done)
whole_chunked framed b rest is =
    (feeds_body framed b is).goes_on rest ∙ ap (behind (chunked_text framed b)) (done_reads framed rest)
    ∙ (λ i. reading (append-nil (chunked_text framed b) i) rest (Chunked framed Done))

only_done : (part : Part) → is_whole part ≡ true → part ≡ Done
only_done (Digits count size) e = absurd cc
only_done (Blank read size) e = absurd cc
only_done (Extension read size) e = absurd cc
only_done (Return size) e = absurd cc
only_done (Data left) e = absurd cc
only_done DataReturn e = absurd cc
only_done (Trailers left line) e = absurd cc
only_done Done e = refl
only_done Bad e = absurd cc

done_not_bad : (c : Coding) → is_done c ≡ true → is_bad c ≡ true → ⊥
done_not_bad (Length left) e f = cc
done_not_bad ToEnd e f = cc
done_not_bad (Chunked framed (Digits count size)) e f = cc
done_not_bad (Chunked framed (Blank read size)) e f = cc
done_not_bad (Chunked framed (Extension read size)) e f = cc
done_not_bad (Chunked framed (Return size)) e f = cc
done_not_bad (Chunked framed (Data left)) e f = cc
done_not_bad (Chunked framed DataReturn) e f = cc
done_not_bad (Chunked framed (Trailers left line)) e f = cc
done_not_bad (Chunked framed Done) e f = cc
done_not_bad (Chunked framed Bad) e f = cc

only_bad : (framed : Bool) (part : Part) → is_bad (Chunked framed part) ≡ true → part ≡ Bad
only_bad framed (Digits count size) e = absurd cc
only_bad framed (Blank read size) e = absurd cc
only_bad framed (Extension read size) e = absurd cc
only_bad framed (Return size) e = absurd cc
only_bad framed (Data left) e = absurd cc
only_bad framed DataReturn e = absurd cc
only_bad framed (Trailers left line) e = absurd cc
only_bad framed Done e = absurd cc
only_bad framed Bad e = refl

done_chunked : (framed : Bool) (input : List ℕ) → is_done (read_parts framed (Digits 0 0) input).coding ≡ true
    → (used : List ℕ) × (input ≡ used ++ (read_parts framed (Digits 0 0) input).rest)
    × IsBody Framed.Chunked framed used (read_parts framed (Digits 0 0) input).text
done_chunked framed input done =
    let e = at_start framed input in
    let r = read_parts framed (Digits 0 0) input in
    let is : e.end ≡ Done = only_done e.end (sym (ap is_done e.coding_is) ∙ done) in
    let w = whole_at framed e.taken r.text (subst (λ (p : Part). Reach framed p e.taken r.text) is e.reach) in
    (e.taken, e.input_is, (w.body, w.is, w.used_is, w.text_is))

bad_chunked : (framed : Bool) (input more : List ℕ) → is_bad (read_parts framed (Digits 0 0) input).coding ≡ true → LacksBody Framed.Chunked (input ++ more)
bad_chunked framed input more bad b rest is whole =
    let e = at_start framed input in
    let r = read_parts framed (Digits 0 0) input in
    let end : e.end ≡ Bad = only_bad framed e.end (sym (ap is_bad e.coding_is) ∙ bad) in
    let fed = subst (λ (p : Part). Feeds (Chunked framed (Digits 0 0)) (Chunked framed p) e.taken r.text) end e.feeds in
    let one : (read (Chunked framed (Digits 0 0)) (input ++ more)).coding ≡ Chunked framed Bad =
    ap (λ l. (read (Chunked framed (Digits 0 0)) (l ++ more)).coding) e.input_is
    ∙ ap (λ l. (read (Chunked framed (Digits 0 0)) l).coding) (append_assoc e.taken r.rest more)
    ∙ ap (λ (q : Reading). q.coding) (fed.goes_on (r.rest ++ more)) ∙ ap (λ (q : Reading). q.coding) (bad_reads framed (r.rest ++ more)) in
    let other : (read (Chunked framed (Digits 0 0)) (input ++ more)).coding ≡ Chunked framed Done =
    ap (λ l. (read (Chunked framed (Digits 0 0)) l).coding) whole ∙ ap (λ (q : Reading). q.coding) (whole_chunked framed b rest is) in
    let same : is_done (Chunked framed Bad) ≡ is_done (Chunked framed Done) = ap is_done (sym one ∙ other) in
    cc

early_chunked : (framed : Bool) (input : List ℕ) → is_done (read_parts framed (Digits 0 0) input).coding ≡ false → LacksBody Framed.Chunked input
early_chunked framed input early b rest is whole =
    let other : (read (Chunked framed (Digits 0 0)) input).coding ≡ Chunked framed Done =
    ap (λ l. (read (Chunked framed (Digits 0 0)) l).coding) whole ∙ ap (λ (q : Reading). q.coding) (whole_chunked framed b rest is) in
    let same : false ≡ is_done (Chunked framed Done) = sym early ∙ ap is_done other in
    cc

-- the two texts of a chunked body are of the same reading
alike : (framed other : Bool) (part : Part) (input : List ℕ)
    → is_bad (read_parts framed part input).coding ≡ is_bad (read_parts other part input).coding
alike framed other part [] = refl
alike framed other (Digits count size) (b ∷ input) = alike framed other (next (Digits count size) b) input
alike framed other (Blank read size) (b ∷ input) = alike framed other (next (Blank read size) b) input
alike framed other (Extension read size) (b ∷ input) = alike framed other (next (Extension read size) b) input
alike framed other (Return size) (b ∷ input) = alike framed other (next (Return size) b) input
alike framed other (Data left) (b ∷ input) = alike framed other (next (Data left) b) input
alike framed other DataReturn (b ∷ input) = alike framed other (next DataReturn b) input
alike framed other (Trailers left line) (b ∷ input) = alike framed other (next (Trailers left line) b) input
alike framed other Done (b ∷ input) = refl
alike framed other Bad (b ∷ input) = refl

-- no byte is refused, whichever text is written
pub sound : (framing : Framing) (framed : Bool) (input : List ℕ) → is_bad (read (start_of framing framed) input).coding ≡ false → IsSound framing input
sound Framed.Empty framed input is = refl
sound (Framed.Length count) framed input is = refl
sound Framed.Chunked framed input is = alike true framed (Digits 0 0) input ∙ is
sound Framed.ToEnd framed input is = refl

-- bodies of a length
sent_length : (framed : Bool) (count : ℕ) (input : List ℕ) → IsSent (Framed.Length count) framed input (take count input)
sent_length framed count input = record {
  used = take count input;
  rest = drop count input;
  input_is = sym (take-append-drop count input);
  part = (omega (arith, length-take count input), refl);
  most = λ more_used more_text more_rest part is. record {
    rest = take (count - length more_used) more_rest;
    is = take_front count input more_used more_rest is part.0 ∙ ap (λ l. l ++ take (count - length more_used) more_rest) (sym part.1);
  };
}

pub sent : (framing : Framing) (framed : Bool) (input : List ℕ) → IsSent framing framed input (read (start_of framing framed) input).text
sent Framed.Empty framed input = record {
  used = [];
  rest = input;
  input_is = refl;
  part = (refl, refl);
  most = λ more_used more_text more_rest part is. record { rest = []; is = sym part.1 ∙ sym (append-nil more_text) };
}
sent (Framed.Length count) framed input = sent_length framed count input
sent Framed.Chunked framed input = sent_chunked framed input
sent Framed.ToEnd framed input = record {
  used = input;
  rest = [];
  input_is = sym (append-nil input);
  part = refl;
  most = λ more_used more_text more_rest part is. record { rest = more_rest; is = is ∙ ap (λ l. l ++ more_rest) (sym part) };
}

-- a reading's parts
abbrev pub WholeRead : Reading → List ℕ → List ℕ → Type 0
WholeRead r text rest = (r.text ≡ text) × (r.rest ≡ rest) × (is_done r.coding ≡ true)

whole_length : (count : ℕ) (used rest : List ℕ) → length used ≡ count → WholeRead (read (Length count) (used ++ rest)) used rest
whole_length count used rest len =
    let sum : count ≡ length used + 0 = omega (arith, len) in (
      ap (λ n. take n (used ++ rest)) sum ∙ take-append-add used rest 0 ∙ append-nil used,
      ap (λ n. drop n (used ++ rest)) sum ∙ drop-append-add used rest 0,
      (let none : count - length (used ++ rest) ≡ 0 = omega (arith, len, length-append used rest) in ap (λ n. n == 0) none),
    )

pub whole : (framing : Framing) (framed : Bool) (used text rest : List ℕ) → framing ≢ Framed.ToEnd → IsBody framing framed used text
    → WholeRead (read (start_of framing framed) (used ++ rest)) text rest
whole Framed.Empty framed used text rest other is =
    let r = whole_length 0 used rest (ap (length {A = ℕ}) is.0) in
    (r.0 ∙ is.0 ∙ sym is.1, r.1, r.2)
whole (Framed.Length count) framed used text rest other is =
    let r = whole_length count used rest is.0 in
    (r.0 ∙ sym is.1, r.1, r.2)
whole Framed.Chunked framed used text rest other is =
    let r : read (Chunked framed (Digits 0 0)) (used ++ rest) ≡ reading (chunked_text framed is.0) rest (Chunked framed Done) =
    ap (λ l. read (Chunked framed (Digits 0 0)) (l ++ rest)) is.2 ∙ whole_chunked framed is.0 rest is.1 in
    (ap (λ (q : Reading). q.text) r ∙ sym is.3, ap (λ (q : Reading). q.rest) r, ap (λ (q : Reading). is_done q.coding) r)
whole Framed.ToEnd framed used text rest other is = absurd (other refl)

done_length : (count : ℕ) (input : List ℕ) → ((count - length input) == 0) ≡ true → length (take count input) ≡ count
done_length count input done = omega (arith, eqb-true (count - length input) 0 done, length-take count input)

pub done : (framing : Framing) (framed : Bool) (input : List ℕ) → is_done (read (start_of framing framed) input).coding ≡ true
    → (used : List ℕ) × (input ≡ used ++ (read (start_of framing framed) input).rest) × IsBody framing framed used (read (start_of framing framed) input).text
done Framed.Empty framed input is = ([], refl, (refl, refl))
done (Framed.Length count) framed input is = (take count input, sym (take-append-drop count input), (done_length count input is, refl))
done Framed.Chunked framed input is = done_chunked framed input is
done Framed.ToEnd framed input is = absurd cc

pub bad : (framing : Framing) (framed : Bool) (input more : List ℕ) → is_bad (read (start_of framing framed) input).coding ≡ true
    → LacksBody framing (input ++ more)
bad Framed.Empty framed input more is = cc
bad (Framed.Length count) framed input more is = absurd cc
bad Framed.Chunked framed input more is = bad_chunked framed input more is
bad Framed.ToEnd framed input more is = cc

early_length : (count : ℕ) (input : List ℕ) → ((count - length input) == 0) ≡ false → length input < count
early_length count input is =
    let ne = eqb-false (count - length input) 0 is in
    omega arith

pub early : (framing : Framing) (framed : Bool) (input : List ℕ) → framing ≢ Framed.ToEnd → is_done (read (start_of framing framed) input).coding ≡ false
    → LacksBody framing input
early Framed.Empty framed input other is = absurd (omega (arith, early_length 0 input is))
early (Framed.Length count) framed input other is = early_length count input is
early Framed.Chunked framed input other is = early_chunked framed input is
early Framed.ToEnd framed input other is = absurd (other refl)
