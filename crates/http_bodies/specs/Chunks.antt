-- Chunked bodies (RFC 9112, section 7.1), and their texts.
use Rattle.std.specs.Prelude.{◌≡◌, ℕ, ◌<◌, ◌≤◌, Bool, List, [], ◌++◌, length, if◌then◌else◌}
use Rattle.http1.specs.Text.{numeral}
use Rattle.httparse.specs.Ascii.{crlf_bytes}
use Rattle.httparse.specs.Grammar.{ChunkLine, IsChunkLine, print_chunk_line, chunk_size}

-- a size line has at most 256 bytes with its end
pub record IsSizeLine (l : ChunkLine) : Type 0 where
  pub line : IsChunkLine l
  pub short : length (print_chunk_line l) ≤ 256

-- a size line and the data
pub record Chunk : Type 0 where
  pub line : ChunkLine
  pub body : List ℕ

-- there is data, as much as the size says
pub record IsChunk (c : Chunk) : Type 0 where
  pub line : IsSizeLine c.line
  pub size : chunk_size c.line ≡ length c.body
  pub some : 0 < length c.body

-- the bytes of a chunk
abbrev pub print_chunk : Chunk → List ℕ
print_chunk c = print_chunk_line c.line ++ (c.body ++ crlf_bytes)

-- the text before the data: the size in lower case, without leading zeros and without an extension
abbrev pub size_text : Bool → ℕ → List ℕ
size_text framed size = if framed then numeral 16 size ++ crlf_bytes else []

-- the text after the data
abbrev pub end_text : Bool → List ℕ
end_text framed = if framed then crlf_bytes else []

-- the text of a chunk: a chunk, or for an HTTP/1.0 client its data alone
abbrev pub chunk_text : Bool → Chunk → List ℕ
chunk_text framed c = size_text framed (length c.body) ++ (c.body ++ end_text framed)

-- a part of what stands after a size line, and the text of the size and that part
pub data PartOfData (framed : Bool) (size : ℕ) : List ℕ → List ℕ → Type 0 where
  some_data : (body : List ℕ) → length body ≤ size → PartOfData framed size body (size_text framed size ++ body)
  whole_data : (body : List ℕ) → length body ≡ size → PartOfData framed size (body ++ crlf_bytes) (size_text framed size ++ (body ++ end_text framed))

-- a part of a chunk, and its text
pub data PartOfChunk (framed : Bool) : List ℕ → List ℕ → Type 0 where
  nothing : PartOfChunk framed [] []
  line_and_data : (l : ChunkLine) (used text : List ℕ) → IsSizeLine l → 0 < chunk_size l → PartOfData framed (chunk_size l) used text
      → PartOfChunk framed (print_chunk_line l ++ used) text

-- a size line stands at the front of the input
abbrev pub HasSizeLine : List ℕ → Type 0
HasSizeLine input = (l : ChunkLine) × (rest : List ℕ) × IsSizeLine l × (input ≡ print_chunk_line l ++ rest)

abbrev pub LacksSizeLine : List ℕ → Type 0
LacksSizeLine input = ¬ (HasSizeLine input)

-- the input doesn't begin with the bytes
abbrev pub LacksFront : List ℕ → List ℕ → Type 0
LacksFront bytes input = (rest : List ℕ) → ¬ (input ≡ bytes ++ rest)

-- the input doesn't begin with this much data and its end
abbrev pub LacksData : ℕ → List ℕ → Type 0
LacksData size input = (body rest : List ℕ) → length body ≡ size → ¬ (input ≡ (body ++ crlf_bytes) ++ rest)

-- a chunk stands at the front of the input
abbrev pub HasChunk : List ℕ → Type 0
HasChunk input = (c : Chunk) × (rest : List ℕ) × IsChunk c × (input ≡ print_chunk c ++ rest)

-- the line of size 0, after the last chunk, stands there
abbrev pub HasLastLine : List ℕ → Type 0
HasLastLine input = (l : ChunkLine) × (rest : List ℕ) × IsSizeLine l × (chunk_size l ≡ 0) × (input ≡ print_chunk_line l ++ rest)

-- neither of the two stands there
pub record LacksChunk (input : List ℕ) : Type 0 where
  pub no_chunk : ¬ (HasChunk input)
  pub no_end : ¬ (HasLastLine input)
