-- Bodies in chunks at worked examples, and the texts of parts: what must hold, and what must not.
use Rattle.std.proofs.Common.{◌≡◌, ℕ, ◌<◌, [], ◌∷◌, ◌++◌, Some, None, true, false, codes, length, refl, sym, ap, arith, append_assoc, length-append, inl, inr}
use Rattle.std.specs.Char.{is_ascii_hexdigit}
use Rattle.std.specs.List.{flat_map}
use Rattle.std.proofs.lemmas.List.Sums.{AllPass-from_list_all}
use Rattle.http1.specs.Text.{numeral}
use Rattle.httparse.specs.Ascii.{crlf_bytes}
use Rattle.httparse.specs.Grammar.{ChunkLine, print_chunk_line, print_extension, chunk_size, is_ows, is_extension_byte}
use Rattle.httparse.specs.Grammar.LineEnd.{crlf}
use Rattle.http_bodies.specs.Bodies.{ChunkedBody, IsChunked, print_chunked, chunked_text}
use Rattle.http_bodies.specs.Bodies.PartOfChunked.{some_chunks}
use Rattle.http_bodies.specs.Chunks.{Chunk, IsChunk, IsSizeLine, print_chunk, chunk_text, PartOfData, LacksData}
use Rattle.http_bodies.specs.Chunks.PartOfChunk.{line_and_data}
use Rattle.http_bodies.specs.Chunks.PartOfData.{some_data}
use Rattle.http_bodies.specs.Framings.{IsBody, PartOfBody, LacksBody, IsUnfinished}
use Rattle.base_lists.specs.Fronts.{IsFront}
use Rattle.http_bodies.specs.Trailers.{IsTrailer, print_trailers}
use Rattle.http_bodies.specs.declared.framing.Framing.TheVariants.{Chunked}

-- `3;x=1`, CRLF, `abc`, CRLF
abc : Chunk
abc = record { line = record { digits = codes "3"; pad = []; extension = Some (codes "x=1") }; body = codes "abc" }

-- that chunk, then `0` and a trailer `T: 1`
abc_alone : ChunkedBody
abc_alone = record {
  chunks = abc ∷ [];
  last = record { digits = codes "0"; pad = []; extension = None };
  trailers = record { lines = codes "T: 1\r" ∷ []; blank = crlf };
}

abc_alone_bytes : print_chunked abc_alone ≡ codes "3;x=1\r\nabc\r\n0\r\nT: 1\r\n\r\n"
unfolding abc_alone abc print_chunk_line
abc_alone_bytes = refl

-- it is handed on without extension and trailer
abc_alone_text : chunked_text true abc_alone ≡ codes "3\r\nabc\r\n0\r\n\r\n"
unfolding abc_alone abc numeral
abc_alone_text = refl

-- and to an old client as its data
abc_alone_data : chunked_text false abc_alone ≡ codes "abc"
unfolding abc_alone abc
abc_alone_data = refl

-- the size line is one, and so is that of size 0
size_of_abc : IsSizeLine abc.line
unfolding abc print_chunk_line
size_of_abc = record {
  line = record {
    digits = (omega arith, omega arith, AllPass-from_list_all is_ascii_hexdigit (codes "3") refl);
    pad = AllPass-from_list_all is_ows [] refl;
    extension = AllPass-from_list_all is_extension_byte (codes "x=1") refl;
  };
  short = omega arith;
}

size_of_last : IsSizeLine abc_alone.last
unfolding abc_alone print_chunk_line
size_of_last = record {
  line = record {
    digits = (omega arith, omega arith, AllPass-from_list_all is_ascii_hexdigit (codes "0") refl);
    pad = AllPass-from_list_all is_ows [] refl;
    extension = tt;
  };
  short = omega arith;
}

is_abc : IsChunk abc
unfolding abc
is_abc = record { line = size_of_abc; size = refl; some = omega arith }

-- more data than the size says is no chunk
not_four : ¬ (IsChunk (record { line = abc.line; body = codes "abcd" }))
unfolding abc
not_four is = omega (arith, is.size)

trailer : IsTrailer (codes "T: 1\r")
trailer = record {
  whole = ((λ e. omega (arith, e)), ((λ e. omega (arith, e)), ((λ e. omega (arith, e)), ((λ e. omega (arith, e)), ((λ e. omega (arith, e)), tt)))));
  some = λ e. omega (arith, ap (length {A = ℕ}) e);
  more = λ e. omega (arith, ap (length {A = ℕ}) e);
}

is_abc_alone : IsChunked abc_alone
unfolding abc_alone
is_abc_alone = record {
  chunks = (is_abc, tt);
  last = size_of_last;
  no_more = refl;
  trailers = record { lines = (trailer, tt); few = omega arith };
}

abc_alone_is_body : IsBody Chunked true (codes "3;x=1\r\nabc\r\n0\r\nT: 1\r\n\r\n") (codes "3\r\nabc\r\n0\r\n\r\n")
abc_alone_is_body = (abc_alone, is_abc_alone, sym abc_alone_bytes, sym abc_alone_text)

-- a part of it, and what that becomes
part_of_abc : PartOfBody Chunked true (codes "3;x=1\r\nab") (codes "3\r\nab")
unfolding abc print_chunk_line numeral
part_of_abc = some_chunks [] (codes "3;x=1\r\nab") (codes "3\r\nab") tt
    (line_and_data abc.line (codes "ab") (codes "3\r\nab") size_of_abc (omega arith) (some_data (codes "ab") (omega arith)))

-- a size in capital letters with leading zeros becomes the shortest in lower case
eleven : Chunk
eleven = record { line = record { digits = codes "00B"; pad = codes " "; extension = None }; body = codes "hello world" }

eleven_size : chunk_size eleven.line ≡ length eleven.body
unfolding eleven
eleven_size = refl

eleven_text : chunk_text true eleven ≡ codes "b\r\nhello world\r\n"
unfolding eleven numeral
eleven_text = refl

-- data that has no end yet is handed on without one
two_of_three : PartOfData true 3 (codes "ab") (codes "3\r\nab")
unfolding numeral
two_of_three = some_data (codes "ab") (omega arith)

-- a line feed in place of CRLF behind the data is no end, whatever follows
no_bare_end : LacksData 3 (codes "abc\n0\r\n\r\n")
no_bare_end [] rest size e = omega (arith, size)
no_bare_end (a ∷ []) rest size e = omega (arith, size)
no_bare_end (a ∷ b ∷ []) rest size e = omega (arith, size)
no_bare_end (a ∷ b ∷ c ∷ []) rest size e = let same : ◌≡◌ {A = ℕ} 10 13 = cc in omega (arith, same)
no_bare_end (a ∷ b ∷ c ∷ d ∷ body) rest size e = omega (arith, size)

-- a size line has three bytes at least, so a body that is cut after its first byte isn't whole
line_text : (l : ChunkLine) → print_chunk_line l ≡ l.digits ++ (l.pad ++ (print_extension l.extension ++ crlf_bytes))
unfolding print_chunk_line
line_text l = simp append_assoc

line_some : (l : ChunkLine) → IsSizeLine l → 2 < length (print_chunk_line l)
line_some l is =
    omega (
      arith,
      ap (length {A = ℕ}) (line_text l),
      is.line.digits.0,
      length-append l.digits (l.pad ++ (print_extension l.extension ++ crlf_bytes)),
      length-append l.pad (print_extension l.extension ++ crlf_bytes),
      length-append (print_extension l.extension) crlf_bytes,
    )

cut : LacksBody Chunked (codes "3")
cut b rest is e =
    omega (
      arith,
      ap length e,
      length-append (print_chunked b) rest,
      length-append (flat_map print_chunk b.chunks) (print_chunk_line b.last ++ print_trailers b.trailers),
      length-append (print_chunk_line b.last) (print_trailers b.trailers),
      line_some b.last is.last,
    )

-- the whole lacks nothing
whole_lacks_none : ¬ (LacksBody Chunked (codes "3;x=1\r\nabc\r\n0\r\nT: 1\r\n\r\nmore"))
unfolding abc_alone abc print_chunk_line
whole_lacks_none lacks = lacks abc_alone (codes "more") is_abc_alone refl

front : IsFront (codes "ab") (codes "abc")
front = record { rest = codes "c"; is = refl }

ab_in_ac : ¬ (IsFront (codes "ab") (codes "ac"))
ab_in_ac f = let same : ◌≡◌ {A = ℕ} 99 98 = cc in omega (arith, same)

-- behind the beginning of a size line more is wanted, and behind a byte that is refused nothing is
more_to_come : IsUnfinished Chunked (codes "3")
more_to_come = inr (cut, refl)

nothing_to_come : ¬ (IsUnfinished Chunked (codes "x"))
nothing_to_come is = elim is [ inl to_end ↦ cc | inr more ↦ let wrong : true ≡ false = more.1 in cc ]
