-- Whole chunked bodies, and their parts.
use Rattle.std.specs.Prelude.{◌≡◌, ℕ, Bool, List, [], ◌++◌, if◌then◌else◌, codes}
use Rattle.std.specs.List.{flat_map, AllByRecursion}
use Rattle.httparse.specs.Grammar.{ChunkLine, print_chunk_line, chunk_size}
use Rattle.http_bodies.specs.Chunks.{IsSizeLine, Chunk, IsChunk, print_chunk, chunk_text, PartOfChunk}
use Rattle.http_bodies.specs.Trailers.{Trailers, print_trailers, AreTrailers}

-- the chunks, the line of size 0 and the trailers
pub record ChunkedBody : Type 0 where
  pub chunks : List Chunk
  pub last : ChunkLine
  pub trailers : Trailers

pub record IsChunked (b : ChunkedBody) : Type 0 where
  pub chunks : AllByRecursion IsChunk b.chunks
  pub last : IsSizeLine b.last
  pub no_more : chunk_size b.last ≡ 0
  pub trailers : AreTrailers 16384 b.trailers

-- the bytes of the body
abbrev pub print_chunked : ChunkedBody → List ℕ
print_chunked b = flat_map print_chunk b.chunks ++ (print_chunk_line b.last ++ print_trailers b.trailers)

-- the text after the last chunk's text
abbrev pub last_text : Bool → List ℕ
last_text framed = if framed then codes "0\r\n\r\n" else []

-- the text of the body: its chunks and an empty one, without extensions and trailers, or the data alone
abbrev pub chunked_text : Bool → ChunkedBody → List ℕ
chunked_text framed b = flat_map (chunk_text framed) b.chunks ++ last_text framed

-- the input doesn't begin with such a body
abbrev pub LacksChunked : List ℕ → Type 0
LacksChunked input = (b : ChunkedBody) (rest : List ℕ) → IsChunked b → ¬ (input ≡ print_chunked b ++ rest)

-- a part of a body, and its text: chunks and a part of one more, or the whole body, whose end is
-- written once it is there
pub data PartOfChunked (framed : Bool) : List ℕ → List ℕ → Type 0 where
  some_chunks : (chunks : List Chunk) (used text : List ℕ) → AllByRecursion IsChunk chunks → PartOfChunk framed used text
      → PartOfChunked framed (flat_map print_chunk chunks ++ used) (flat_map (chunk_text framed) chunks ++ text)
  all_of_it : (b : ChunkedBody) → IsChunked b → PartOfChunked framed (print_chunked b) (chunked_text framed b)
