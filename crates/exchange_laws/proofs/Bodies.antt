-- The body of a request that is handed on is a whole body as its head frames it.
use Rattle.std.proofs.Common.{◌≡◌, ◌≢◌, ◌∙◌, ℕ, ◌^◌, ◌<◌, ◌≤◌, ◌==◌, Bool, true, false, IsTrue, None, List, [], ◌∷◌, ◌++◌, length, map, codes, refl, sym, ap, arith, append-nil, length-append}
use Rattle.std.specs.Prelude.{if◌then◌else◌}
use Rattle.std.specs.Char.{is_ascii_hexdigit, digit_char, digit_value}
use Rattle.std.specs.Int.Digits.{digits_of}
use Rattle.std.specs.List.{flat_map, AllByRecursion}
use Rattle.std.specs.Str.Parse.{AllDigits, digits_value}
use Rattle.std.proofs.lemmas.Bool.Decides.{nat_tests}
use Rattle.std.proofs.lemmas.Int.Digits.{length-digits_of-le, digits_value-lt}
use Rattle.std.proofs.Math.Nat.{pow-le-pow_right}
use Rattle.std.proofs.lemmas.List.{length-map}
use Rattle.std.proofs.lemmas.List.Elements.{All-nil, All-from_recursion, recursion_from_All}
use Rattle.http1.specs.Text.{numeral}
use Rattle.http1.proofs.NumeralLemmas.{numeral_reads_back}
use Rattle.httparse.specs.Ascii.{crlf_bytes}
use Rattle.httparse.specs.Grammar.{RequestHead, ChunkLine, print_chunk_line, is_ows}
use Rattle.httparse.specs.Grammar.LineEnd.{crlf}
use Rattle.http_bodies.specs.Bodies.{ChunkedBody, IsChunked, print_chunked, chunked_text}
use Rattle.http_bodies.specs.Chunks.{IsSizeLine, Chunk, IsChunk, print_chunk, chunk_text}
use Rattle.http_bodies.specs.Framings.{IsBody}
use Rattle.http_bodies.specs.declared.framing.Framing.{Framing}
use Rattle.http_bodies.specs.declared.framing.Framing.TheVariants.{Empty, Length, Chunked, ToEnd}
use Rattle.http_texts.specs.Heads.{IsRequest}
use Rattle.http_texts.specs.Messages.{IsForwarded}
use Rattle.http_texts.specs.declared.additions.Additions.{Additions}
use Rattle.req_view.specs.Request.{request_of}
use Rattle.exchange_laws.specs.Alike.{IsNamed}
use Rattle.exchange_laws.specs.Found.{FindsRequest}
use Rattle.exchange_laws.proofs.MessageReading.{framed_by_itself}
use Rattle.exchange_laws.proofs.Rereading.{reads_alike}

numeral_len : (size : ℕ) → size < 2 ^ 64 → length (numeral 16 size) ≤ 16
unfolding numeral
numeral_len size small = by_test (size == 0)
  where
    by_test : (t : Bool) → length (if t then 48 ∷ [] else map digit_char (digits_of 16 size)) ≤ 16
    by_test true = omega arith
    by_test false = omega (arith, length-map (digits_of 16 size) digit_char, length-digits_of-le 16 16 size (omega arith) (omega (arith, small)))

hex : (c : ℕ) → digit_value c < 16 → IsTrue (is_ascii_hexdigit c)
hex c small = grind (arith, nat_tests)

hexes : (ds : List ℕ) → AllDigits 16 ds → AllByRecursion (λ b. IsTrue (is_ascii_hexdigit b)) ds
hexes [] all = tt
hexes (c ∷ ds) all = (hex c all.0, hexes ds all.1)

unhex : (c : ℕ) → IsTrue (is_ascii_hexdigit c) → digit_value c < 16
unhex c is = grind (arith, nat_tests)

unhexes : (ds : List ℕ) → AllByRecursion (λ b. IsTrue (is_ascii_hexdigit b)) ds → AllDigits 16 ds
unhexes [] all = tt
unhexes (c ∷ ds) all = (unhex c all.0, unhexes ds all.1)

abbrev plain_line : ℕ → ChunkLine
plain_line size = record { digits = numeral 16 size; pad = []; extension = None }

line_text : (size : ℕ) → print_chunk_line (plain_line size) ≡ numeral 16 size ++ crlf_bytes
unfolding print_chunk_line
line_text size = ap (λ l. l ++ crlf_bytes) (append-nil (numeral 16 size ++ []) ∙ append-nil (numeral 16 size))

line_good : (size : ℕ) → size < 2 ^ 64 → IsSizeLine (plain_line size)
line_good size small =
    let n = numeral_reads_back 16 size (omega arith) (omega arith) in
    let short = numeral_len size small in
    record {
      line = record {
        digits = (n.not_empty, short, All-from_recursion (λ b. IsTrue (is_ascii_hexdigit b)) (numeral 16 size) (hexes (numeral 16 size) n.digits));
        pad = All-nil (λ b. IsTrue (is_ows b));
        extension = tt;
      };
      short = omega (arith, short, ap (length {A = ℕ}) (line_text size), length-append (numeral 16 size) crlf_bytes);
    }

abbrev plain : Chunk → Chunk
plain c = record { line = plain_line (length c.body); body = c.body }

chunk_is : (c : Chunk) → chunk_text true c ≡ print_chunk (plain c)
chunk_is c = ap (λ l. l ++ (c.body ++ crlf_bytes)) (sym (line_text (length c.body)))

chunk_small : (c : Chunk) → IsChunk c → length c.body < 2 ^ 64
chunk_small c is =
    let ds = c.line.digits in
    let few = is.line.line.digits.1 in
    let all = unhexes ds (recursion_from_All (λ b. IsTrue (is_ascii_hexdigit b)) ds is.line.line.digits.2) in
    let below : digits_value 16 ds < 16 ^ length ds = digits_value-lt 16 ds all in
    let top : 16 ^ length ds ≤ 2 ^ 64 = pow-le-pow_right {n = 16} (omega arith) {j = 16} few in
    omega (arith, below, top, is.size)

chunk_good : (c : Chunk) → IsChunk c → IsChunk (plain c)
chunk_good c is = record {
  line = line_good (length c.body) (chunk_small c is);
  size = (numeral_reads_back 16 (length c.body) (omega arith) (omega arith)).value;
  some = is.some;
}

chunks_are : (cs : List Chunk) → flat_map (chunk_text true) cs ≡ flat_map print_chunk (map plain cs)
chunks_are [] = refl
chunks_are (c ∷ cs) = λ i. chunk_is c i ++ chunks_are cs i

chunks_good : (cs : List Chunk) → AllByRecursion IsChunk cs → AllByRecursion IsChunk (map plain cs)
chunks_good [] all = tt
chunks_good (c ∷ cs) all = (chunk_good c all.0, chunks_good cs all.1)

abbrev plain_body : ChunkedBody → ChunkedBody
plain_body b = record {
  chunks = map plain b.chunks;
  last = record { digits = codes "0"; pad = []; extension = None };
  trailers = record { lines = []; blank = crlf };
}

body_is : (b : ChunkedBody) → chunked_text true b ≡ print_chunked (plain_body b)
unfolding print_chunk_line
body_is b = ap (λ l. l ++ codes "0\r\n\r\n") (chunks_are b.chunks)

body_good : (b : ChunkedBody) → IsChunked b → IsChunked (plain_body b)
unfolding print_chunk_line
body_good b is = record {
  chunks = chunks_good b.chunks is.chunks;
  last = record {
    line = record {
      digits = (omega arith, omega arith, All-from_recursion (λ b. IsTrue (is_ascii_hexdigit b)) (codes "0") (refl, tt));
      pad = All-nil (λ b. IsTrue (is_ows b));
      extension = tt;
    };
    short = omega arith;
  };
  no_more = refl;
  trailers = record { lines = tt; few = omega arith };
}

texts_kept : (cs : List Chunk) → flat_map (chunk_text true) (map plain cs) ≡ flat_map (chunk_text true) cs
texts_kept [] = refl
texts_kept (c ∷ cs) = ap (λ l. chunk_text true c ++ l) (texts_kept cs)

text_kept : (b : ChunkedBody) → chunked_text true b ≡ chunked_text true (plain_body b)
text_kept b = ap (λ l. l ++ codes "0\r\n\r\n") (sym (texts_kept b.chunks))

-- what a body became is a body that is framed so, and becomes itself
pub sent_body : (f : Framing) (used sent_on : List ℕ) → f ≢ ToEnd → IsBody f true used sent_on → IsBody f true sent_on sent_on
sent_body Empty used sent_on other is = (is.1, is.1)
sent_body (Length count) used sent_on other is = (ap length is.1 ∙ is.0, refl)
sent_body Chunked used sent_on other is = (plain_body is.0, body_good is.0 is.1, is.3 ∙ body_is is.0, is.3 ∙ text_kept is.0)
sent_body ToEnd used sent_on other is = absurd (other refl)

pub request_found : (adds : Additions) (h : RequestHead) (used text : List ℕ) → IsNamed adds.client → IsRequest h
    → (sent : IsForwarded adds (request_of h) used text) → FindsRequest adds.client (request_of h) sent.body text
request_found adds h used text named is sent =
    let head = reads_alike adds h sent.framing named is sent.framed in
    let body = sent_body sent.framing used sent.body (framed_by_itself (request_of h) sent.framing sent.framed) sent.passes in
    record {
      message = record { head = head.head; body = sent.body };
      is = record { head = head.is; framing = sent.framing; framed = head.framed; text = sent.body; body = body };
      text_is = sent.text_is ∙ ap (λ l. l ++ sent.body) head.text_is;
      asks = head.asks;
      body_is = refl;
      same = refl;
    }
