-- Parts of a body at the front of one input, and what they become.
use Rattle.std.proofs.Common.{◌≡◌, ◌∙◌, ℕ, ◌<◌, Bool, List, [], ◌∷◌, ◌++◌, length, refl, sym, ap, arith, append_assoc, subst, inl, inr}
use Rattle.std.specs.List.{flat_map, AllByRecursion}
use Rattle.httparse.specs.Ascii.{crlf_bytes}
use Rattle.httparse.specs.Grammar.{ChunkLine, print_chunk_line, chunk_size}
use Rattle.httparse.proofs.ChunkLemmas.{chunk_line_unique}
use Rattle.base_lists.specs.Fronts.{IsFront, AreComparable}
use Rattle.base_lists.proofs.Fronts.{front_more, front_under, front_nil, front_same, front_as}
use Rattle.base_lists.proofs.Fronts.{under, comparable_as, two_fronts, short_front, same_front, same_behind}
use Rattle.http_bodies.specs.Bodies.{ChunkedBody, PartOfChunked, last_text, print_chunked}
use Rattle.http_bodies.specs.Bodies.PartOfChunked.{some_chunks, all_of_it}
use Rattle.http_bodies.specs.Chunks.{IsSizeLine, Chunk, IsChunk, print_chunk, chunk_text, size_text, end_text, PartOfData, PartOfChunk}
use Rattle.http_bodies.specs.Chunks.PartOfData.{some_data, whole_data}
use Rattle.http_bodies.specs.Chunks.PartOfChunk.{nothing, line_and_data}
use Rattle.http_bodies.specs.Framings.{PartOfBody}
use Rattle.http_bodies.specs.Trailers.{print_trailers}
use Rattle.http_bodies.specs.declared.framing.Framing.{Framing}
use Rattle.http_bodies.specs.declared.framing.Framing.TheVariants.{Empty, Length, Chunked, ToEnd}

-- the size line at the front of an input is the only one
only_line : (l k : ChunkLine) (x y : List ℕ) → IsSizeLine l → IsSizeLine k → print_chunk_line l ++ x ≡ print_chunk_line k ++ y → (l ≡ k) × (x ≡ y)
only_line l k x y is other e = chunk_line_unique (print_chunk_line l ++ x) l k x y (is.line, refl) (other.line, e)

-- of the data behind a size line, each part is a front of the whole
data_front : {framed : Bool} (size : ℕ) {used text : List ℕ} (body x y : List ℕ) → PartOfData framed size used text → length body ≡ size
    → used ++ x ≡ (body ++ crlf_bytes) ++ y → IsFront text (size_text framed size ++ (body ++ end_text framed))
data_front {framed} size body x y (some_data a few) len e =
    front_under (size_text framed size)
    (front_more (end_text framed) (short_front a body x (crlf_bytes ++ y) (e ∙ append_assoc body crlf_bytes y) (omega (arith, few, len))))
data_front {framed} size body x y (whole_data a is) len e =
    let same = same_front a body (crlf_bytes ++ x) (crlf_bytes ++ y) (sym (append_assoc a crlf_bytes x) ∙ e ∙ append_assoc body crlf_bytes y) (is ∙ sym len) in
    front_as refl (ap (λ l. size_text framed size ++ (l ++ end_text framed)) same) (front_same (size_text framed size ++ (a ++ end_text framed)))

data_agree : {framed : Bool} (size : ℕ) {used text more_used more_text : List ℕ} (x y : List ℕ) → PartOfData framed size used text
    → PartOfData framed size more_used more_text → used ++ x ≡ more_used ++ y → AreComparable text more_text
data_agree {framed} size x y (some_data a few) (some_data b many) e = under (size_text framed size) (two_fronts a b x y e)
data_agree size x y (some_data a few) (whole_data b is) e = inl (data_front size b x y (some_data a few) is e)
data_agree size x y (whole_data a is) other e = inr (data_front size a y x other is (sym e))

-- what stands behind some whole chunks: a part of one more, or the end
data Tail (framed : Bool) : List ℕ → List ℕ → Type 0 where
  chunk : (used text : List ℕ) → PartOfChunk framed used text → Tail framed used text
  end : (l : ChunkLine) (rest : List ℕ) → IsSizeLine l → chunk_size l ≡ 0 → Tail framed (print_chunk_line l ++ rest) (last_text framed)

-- two size lines at one front
lines : (l k : ChunkLine) (u v x y : List ℕ) → IsSizeLine l → IsSizeLine k → (print_chunk_line l ++ u) ++ x ≡ (print_chunk_line k ++ v) ++ y
    → (l ≡ k) × (u ++ x ≡ v ++ y)
lines l k u v x y is other e =
    only_line l k (u ++ x) (v ++ y) is other (sym (append_assoc (print_chunk_line l) u x) ∙ e ∙ append_assoc (print_chunk_line k) v y)

not_last : (l k : ChunkLine) → l ≡ k → 0 < chunk_size l → chunk_size k ≡ 0 → ⊥
not_last l k same some none = omega (arith, some, none, ap chunk_size same)

tail_front : {framed : Bool} {used text : List ℕ} (c : Chunk) (x y : List ℕ) → IsChunk c → Tail framed used text → used ++ x ≡ print_chunk c ++ y
    → IsFront text (chunk_text framed c)
tail_front {framed} c x y is (chunk used text nothing) e = front_nil (chunk_text framed c)
tail_front {framed} c x y is (chunk used text (line_and_data l u t line some part)) e =
    let same = lines l c.line u (c.body ++ crlf_bytes) x y line is.line e in
    let size : length c.body ≡ chunk_size l = sym is.size ∙ sym (ap chunk_size same.0) in
    front_as refl (ap (λ n. size_text framed n ++ (c.body ++ end_text framed)) (sym size)) (data_front (chunk_size l) c.body x y part size same.1)
tail_front {framed} c x y is (end l rest line none) e =
    let same = lines l c.line rest (c.body ++ crlf_bytes) x y line is.line e in
    let zero : length c.body ≡ 0 = sym is.size ∙ sym (ap chunk_size same.0) ∙ none in
    absurd (omega (arith, zero, is.some))

tails_agree : {framed : Bool} {used text more_used more_text : List ℕ} (x y : List ℕ) → Tail framed used text → Tail framed more_used more_text
    → used ++ x ≡ more_used ++ y → AreComparable text more_text
tails_agree {more_text = more_text} x y (chunk used text nothing) other e = inl (front_nil more_text)
tails_agree {text = text} x y one (chunk more_used more_text nothing) e = inr (front_nil text)
tails_agree {framed} x y (chunk used text (line_and_data l u t line some part)) (chunk v s (line_and_data k v' s' other more rest)) e =
    let same = lines l k u v' x y line other e in
    data_agree (chunk_size l) x y part (subst (λ (n : ℕ). PartOfData framed n v' s') (sym (ap chunk_size same.0)) rest) same.1
tails_agree x y (chunk used text (line_and_data l u t line some part)) (end k rest other none) e =
    absurd (not_last l k (lines l k u rest x y line other e).0 some none)
tails_agree x y (end l rest line none) (chunk v s (line_and_data k v' s' other more part)) e =
    absurd (not_last k l (lines k l v' rest y x other line (sym e)).0 more none)
tails_agree {framed} x y (end l rest line none) (end k more other nought) e = inl (front_same (last_text framed))

-- chunks, and then a tail
chunks_agree : {framed : Bool} {used text more_used more_text : List ℕ} (cs ds : List Chunk) (x y : List ℕ) → AllByRecursion IsChunk cs
    → AllByRecursion IsChunk ds
    → Tail framed used text → Tail framed more_used more_text
    → (flat_map print_chunk cs ++ used) ++ x ≡ (flat_map print_chunk ds ++ more_used) ++ y
    → AreComparable (flat_map (chunk_text framed) cs ++ text) (flat_map (chunk_text framed) ds ++ more_text)
chunks_agree [] [] x y p q one other e = tails_agree x y one other e
chunks_agree {framed} {used} {text} {more_used} {more_text} [] (d ∷ ds) x y p q one other e =
    let rest = flat_map print_chunk ds ++ more_used in
    let more = flat_map (chunk_text framed) ds ++ more_text in
    let here : used ++ x ≡ print_chunk d ++ (rest ++ y) =
    e ∙ ap (λ l. l ++ y) (append_assoc (print_chunk d) (flat_map print_chunk ds) more_used) ∙ append_assoc (print_chunk d) rest y in
    inl (front_as refl (sym (append_assoc (chunk_text framed d) (flat_map (chunk_text framed) ds) more_text))
    (front_more more (tail_front d x (rest ++ y) q.0 one here)))
chunks_agree {framed} {used} {text} {more_used} {more_text} (c ∷ cs) [] x y p q one other e =
    let rest = flat_map print_chunk cs ++ used in
    let more = flat_map (chunk_text framed) cs ++ text in
    let here : more_used ++ y ≡ print_chunk c ++ (rest ++ x) =
    sym e ∙ ap (λ l. l ++ x) (append_assoc (print_chunk c) (flat_map print_chunk cs) used) ∙ append_assoc (print_chunk c) rest x in
    inr (front_as refl (sym (append_assoc (chunk_text framed c) (flat_map (chunk_text framed) cs) text))
    (front_more more (tail_front c y (rest ++ x) p.0 other here)))
chunks_agree {framed} {used} {text} {more_used} {more_text} (c ∷ cs) (d ∷ ds) x y p q one other e =
    let first = flat_map print_chunk cs ++ used in
    let second = flat_map print_chunk ds ++ more_used in
    let whole : print_chunk c ++ (first ++ x) ≡ print_chunk d ++ (second ++ y) =
    sym (append_assoc (print_chunk c) first x)
    ∙ ap (λ l. l ++ x) (sym (append_assoc (print_chunk c) (flat_map print_chunk cs) used))
    ∙ e
    ∙ ap (λ l. l ++ y) (append_assoc (print_chunk d) (flat_map print_chunk ds) more_used)
    ∙ append_assoc (print_chunk d) second y in
    let same = lines c.line d.line (c.body ++ crlf_bytes) (d.body ++ crlf_bytes) (first ++ x) (second ++ y) p.0.line q.0.line whole in
    let size : length c.body ≡ length d.body = sym p.0.size ∙ ap chunk_size same.0 ∙ q.0.size in
    let bodies = same_front c.body d.body (crlf_bytes ++ (first ++ x)) (crlf_bytes ++ (second ++ y))
    (sym (append_assoc c.body crlf_bytes (first ++ x)) ∙ same.1 ∙ append_assoc d.body crlf_bytes (second ++ y)) size in
    let ends = ap (λ l. l ++ crlf_bytes) bodies in
    let rests = same_behind (c.body ++ crlf_bytes) (d.body ++ crlf_bytes) (first ++ x) (second ++ y) (ap length ends) same.1 in
    let texts : chunk_text framed c ≡ chunk_text framed d = λ i. size_text framed (length (bodies i)) ++ (bodies i ++ end_text framed) in
    comparable_as (sym (append_assoc (chunk_text framed c) (flat_map (chunk_text framed) cs) text))
    (ap (λ l. l ++ (flat_map (chunk_text framed) ds ++ more_text)) texts ∙ sym (append_assoc (chunk_text framed d) (flat_map (chunk_text framed) ds) more_text))
    (under (chunk_text framed c) (chunks_agree cs ds x y p.1 q.1 one other rests))

-- the whole as chunks and the end
ended : (b : ChunkedBody) (x : List ℕ) → print_chunked b ++ x ≡ (flat_map print_chunk b.chunks ++ (print_chunk_line b.last ++ print_trailers b.trailers)) ++ x
ended b x = refl

chunked_agree : {framed : Bool} {used text more_used more_text : List ℕ} (x y : List ℕ) → PartOfChunked framed used text
    → PartOfChunked framed more_used more_text
    → used ++ x ≡ more_used ++ y → AreComparable text more_text
chunked_agree x y (some_chunks cs u t p part) (some_chunks ds v s q other) e = chunks_agree cs ds x y p q (chunk u t part) (chunk v s other) e
chunked_agree x y (some_chunks cs u t p part) (all_of_it b is) e =
    chunks_agree cs b.chunks x y p is.chunks (chunk u t part) (end b.last (print_trailers b.trailers) is.last is.no_more) e
chunked_agree x y (all_of_it b is) (some_chunks ds v s q other) e =
    chunks_agree b.chunks ds x y is.chunks q (end b.last (print_trailers b.trailers) is.last is.no_more) (chunk v s other) e
chunked_agree x y (all_of_it b is) (all_of_it d other) e =
    chunks_agree b.chunks d.chunks x y is.chunks other.chunks (end b.last (print_trailers b.trailers) is.last is.no_more)
    (end d.last (print_trailers d.trailers) other.last other.no_more) e

pub bodies_agree : (framing : Framing) (framed : Bool) (used text more_used more_text rest more_rest : List ℕ) → PartOfBody framing framed used text
    → PartOfBody framing framed more_used more_text → used ++ rest ≡ more_used ++ more_rest → AreComparable text more_text
bodies_agree Empty framed used text more_used more_text rest more_rest one other e = inl (front_as (sym one.1) refl (front_nil more_text))
bodies_agree (Length count) framed used text more_used more_text rest more_rest one other e =
    comparable_as (sym one.1) (sym other.1) (two_fronts used more_used rest more_rest e)
bodies_agree Chunked framed used text more_used more_text rest more_rest one other e = chunked_agree rest more_rest one other e
bodies_agree ToEnd framed used text more_used more_text rest more_rest one other e =
    comparable_as (sym one) (sym other) (two_fronts used more_used rest more_rest e)
