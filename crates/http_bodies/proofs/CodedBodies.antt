-- The derivative by chunks, by trailers and by a whole body in chunks.
use Rattle.std.proofs.Common.{◌≡◌, ◌≢◌, ℕ, ◌+◌, ◌-◌, ◌<◌, ◌≤◌, ◌==◌, Bool, true, false, List, [], ◌∷◌, ◌++◌, length, refl, sym, ap, arith, length-append, subst}
use Rattle.std.proofs.lemmas.Bool.Decides.{nat_tests}
use Rattle.std.proofs.lemmas.Bool.{ne_eqb}
use Rattle.std.specs.List.{flat_map, AllByRecursion}
use Rattle.httparse.specs.Ascii.{crlf_bytes}
use Rattle.httparse.specs.Grammar.{ChunkLine, print_chunk_line, chunk_size, LineEnd, print_end}
use Rattle.httparse.specs.Grammar.LineEnd.{crlf, lf}
use Rattle.http_bodies.specs.Bodies.{ChunkedBody, IsChunked, print_chunked, chunked_text, last_text}
use Rattle.http_bodies.specs.Chunks.{IsSizeLine, Chunk, IsChunk, print_chunk, chunk_text, size_text, end_text}
use Rattle.http_bodies.specs.Trailers.{IsLine, IsTrailer, print_line, Trailers as Section, print_trailers, AreTrailers}
use Rattle.http_bodies.specs.Parts.{next, told}
use Rattle.http_bodies.specs.Readings.{Feeds}
use Rattle.http_bodies.specs.declared.coding.Coding.{Coding}
use Rattle.http_bodies.specs.declared.coding.Coding.TheVariants.{Chunked}
use Rattle.http_bodies.specs.declared.coding.Line.{Line}
use Rattle.http_bodies.specs.declared.coding.Line.TheVariants.{Fresh, Returned, Written}
use Rattle.http_bodies.specs.declared.coding.Part.TheVariants.{Digits, Data, DataReturn, Trailers, Done}
use Rattle.http_bodies.proofs.Derivatives.{feeds_nil, feeds_trans, feeds_as, feeds_byte, feeds_next, feeds_data}
use Rattle.http_bodies.proofs.SizeLines.{feeds_line}

-- a line whose size isn't 0, and its text
pub feeds_some_line : (framed : Bool) (l : ChunkLine) → IsSizeLine l → 0 < chunk_size l
    → Feeds (Chunked framed (Digits 0 0)) (Chunked framed (Data (chunk_size l))) (print_chunk_line l) (size_text framed (chunk_size l))
feeds_some_line framed l is some =
    let e : (chunk_size l == 0) ≡ false = ne_eqb (chunk_size l) 0 (λ z. omega (arith, z, some)) in
    rw e at (feeds_line framed l is)

pub feeds_last_line : (framed : Bool) (l : ChunkLine) → IsSizeLine l → chunk_size l ≡ 0
    → Feeds (Chunked framed (Digits 0 0)) (Chunked framed (Trailers 16384 Fresh)) (print_chunk_line l) []
feeds_last_line framed l is none = rw none at (feeds_line framed l is)

pub feeds_some_data : (framed : Bool) (size : ℕ) (body : List ℕ) → length body ≤ size
    → Feeds (Chunked framed (Data size)) (Chunked framed (Data (size - length body))) body body
feeds_some_data framed size body few = feeds_data framed size body few

feeds_all_data : (framed : Bool) (size : ℕ) (body : List ℕ) → length body ≡ size → Feeds (Chunked framed (Data size)) (Chunked framed (Data 0)) body body
feeds_all_data framed size body len =
    let none : size - length body ≡ 0 = omega (arith, len) in
    subst (λ (n : ℕ). Feeds (Chunked framed (Data size)) (Chunked framed (Data n)) body body) none (feeds_data framed size body (omega (arith, len)))

feeds_end : (framed : Bool) → Feeds (Chunked framed (Data 0)) (Chunked framed (Digits 0 0)) crlf_bytes (end_text framed)
feeds_end framed = feeds_trans (feeds_byte framed (Data 0) 13 refl) (feeds_byte framed DataReturn 10 refl)

pub feeds_chunk : (framed : Bool) (c : Chunk) → IsChunk c
    → Feeds (Chunked framed (Digits 0 0)) (Chunked framed (Digits 0 0)) (print_chunk c) (chunk_text framed c)
feeds_chunk framed c is =
    let some : 0 < chunk_size c.line = omega (arith, is.some, is.size) in
    feeds_as refl (ap (λ n. size_text framed n ++ (c.body ++ end_text framed)) is.size)
    (feeds_trans (feeds_some_line framed c.line is.line some)
    (feeds_trans (feeds_all_data framed (chunk_size c.line) c.body (sym is.size)) (feeds_end framed)))

pub feeds_chunks : (framed : Bool) (cs : List Chunk) → AllByRecursion IsChunk cs
    → Feeds (Chunked framed (Digits 0 0)) (Chunked framed (Digits 0 0)) (flat_map print_chunk cs) (flat_map (chunk_text framed) cs)
feeds_chunks framed [] all = feeds_nil (Chunked framed (Digits 0 0))
feeds_chunks framed (c ∷ cs) all = feeds_trans (feeds_chunk framed c all.0) (feeds_chunks framed cs all.1)

trailers_as : {framed : Bool} {x g : List ℕ} {a : Coding} {c c' : ℕ} (s : Line) → c ≡ c' → Feeds a (Chunked framed (Trailers c s)) x g
    → Feeds a (Chunked framed (Trailers c' s)) x g
trailers_as {framed} {x} {g} {a} s e p = subst (λ (m : ℕ). Feeds a (Chunked framed (Trailers m s)) x g) e p

some_left : (left : ℕ) → 0 < left → (left == 0) ≡ false
some_left left some = ne_eqb left 0 (λ z. omega (arith, z, some))

-- a byte of a trailer's line, which isn't its end
next_written : (left b : ℕ) → 0 < left → b ≢ 10 → next (Trailers left Written) b ≡ Trailers (left - 1) Written
next_written left b some other =
    let e = some_left left some in
    let f = ne_eqb b 10 other in
    rw (e, f) refl

told_nothing : (framed : Bool) (left b : ℕ) (line : Line) → 0 < left → b ≢ 10 → told framed (Trailers left line) b ≡ []
told_nothing framed left b line some other =
    let e = some_left left some in
    let f = ne_eqb b 10 other in
    rw (e, f) refl

feeds_written : (framed : Bool) (left : ℕ) (xs : List ℕ) → IsLine xs → length xs ≤ left
    → Feeds (Chunked framed (Trailers left Written)) (Chunked framed (Trailers (left - length xs) Written)) xs []
feeds_written framed left [] is few = trailers_as Written (omega arith) (feeds_nil (Chunked framed (Trailers left Written)))
feeds_written framed left (b ∷ xs) is few =
    let some : 0 < left = omega (arith, few) in
    let first = feeds_next framed (Trailers left Written) b refl (next_written left b some is.0) (told_nothing framed left b Written some is.0) in
    trailers_as Written (omega arith) (feeds_trans first (feeds_written framed (left - 1) xs is.1 (omega (arith, few))))

-- and its end
next_feed : (left : ℕ) → 0 < left → next (Trailers left Written) 10 ≡ Trailers (left - 1) Fresh
next_feed left some = let e = some_left left some in rw e refl

told_feed : (framed : Bool) (left : ℕ) → 0 < left → told framed (Trailers left Written) 10 ≡ []
told_feed framed left some = let e = some_left left some in rw e refl

feeds_rest : (framed : Bool) (left : ℕ) (xs : List ℕ) → IsLine xs → length xs < left
    → Feeds (Chunked framed (Trailers left Written)) (Chunked framed (Trailers (left - (length xs + 1)) Fresh)) (print_line xs) []
feeds_rest framed left xs is few =
    let some : 0 < left - length xs = omega (arith, few) in
    trailers_as Fresh (omega arith)
    (feeds_trans (feeds_written framed left xs is (omega (arith, few)))
    (feeds_next framed (Trailers (left - length xs) Written) 10 refl (next_feed (left - length xs) some) (told_feed framed (left - length xs) some)))

next_first : (left b : ℕ) → 0 < left → b ≢ 10 → b ≢ 13 → next (Trailers left Fresh) b ≡ Trailers (left - 1) Written
next_first left b some other more =
    let e = some_left left some in
    let f = ne_eqb b 10 other in
    let f' = ne_eqb b 13 more in
    rw (e, f, f') refl

next_return : (left : ℕ) → 0 < left → next (Trailers left Fresh) 13 ≡ Trailers (left - 1) Returned
next_return left some = let e = some_left left some in rw e refl

next_returned : (left b : ℕ) → 0 < left → b ≢ 10 → next (Trailers left Returned) b ≡ Trailers (left - 1) Written
next_returned left b some other =
    let e = some_left left some in
    let f = ne_eqb b 10 other in
    rw (e, f) refl

-- a trailer that begins with CR, or not
by_first : (framed : Bool) (left x : ℕ) (xs : List ℕ) → IsTrailer (x ∷ xs) → length (x ∷ xs) < left → (t : Bool) → (x == 13) ≡ t
    → Feeds (Chunked framed (Trailers left Fresh)) (Chunked framed (Trailers (left - (length (x ∷ xs) + 1)) Fresh)) (print_line (x ∷ xs)) []
by_first framed left x xs is few false e =
    let some : 0 < left = omega (arith, few) in
    let other : x ≢ 13 = grind (arith, nat_tests) in
    trailers_as Fresh (omega arith)
    (feeds_trans (feeds_next framed (Trailers left Fresh) x refl (next_first left x some is.whole.0 other) (told_nothing framed left x Fresh some is.whole.0))
    (feeds_rest framed (left - 1) xs is.whole.1 (omega (arith, few))))
by_first framed left x [] is few true e =
    let same : x ≡ 13 = grind (arith, nat_tests) in
    absurd (is.more (ap (λ n. n ∷ []) same))
by_first framed left x (y ∷ ys) is few true e =
    let same : x ≡ 13 = grind (arith, nat_tests) in
    let some : 0 < left = omega (arith, few) in
    let still : 0 < left - 1 = omega (arith, few) in
    let first : Feeds (Chunked framed (Trailers left Fresh)) (Chunked framed (Trailers (left - 1) Returned)) (x ∷ []) [] =
    feeds_as (ap (λ n. n ∷ []) (sym same)) refl
    (feeds_next framed (Trailers left Fresh) 13 refl (next_return left some) (told_nothing framed left 13 Fresh some (λ z. omega (arith, z)))) in
    let second = feeds_next framed (Trailers (left - 1) Returned) y refl (next_returned (left - 1) y still is.whole.1.0)
    (told_nothing framed (left - 1) y Returned still is.whole.1.0) in
    trailers_as Fresh (omega arith) (feeds_trans first (feeds_trans second (feeds_rest framed (left - 1 - 1) ys is.whole.1.1 (omega (arith, few)))))

feeds_trailer : (framed : Bool) (left : ℕ) (line : List ℕ) → IsTrailer line → length line < left
    → Feeds (Chunked framed (Trailers left Fresh)) (Chunked framed (Trailers (left - (length line + 1)) Fresh)) (print_line line) []
feeds_trailer framed left [] is few = absurd (is.some refl)
feeds_trailer framed left (x ∷ xs) is few = by_first framed left x xs is few (x == 13) refl

feeds_lines : (framed : Bool) (left : ℕ) (lines : List (List ℕ)) → AllByRecursion IsTrailer lines → length (flat_map print_line lines) ≤ left
    → Feeds (Chunked framed (Trailers left Fresh)) (Chunked framed (Trailers (left - length (flat_map print_line lines)) Fresh)) (flat_map print_line lines) []
feeds_lines framed left [] all few = trailers_as Fresh (omega arith) (feeds_nil (Chunked framed (Trailers left Fresh)))
feeds_lines framed left (line ∷ lines) all few =
    let len = length-append (print_line line) (flat_map print_line lines) in
    let one = length-append line (10 ∷ []) in
    trailers_as Fresh (omega (arith, len, one))
    (feeds_trans (feeds_trailer framed left line all.0 (omega (arith, few, len, one)))
    (feeds_lines framed (left - (length line + 1)) lines all.1 (omega (arith, few, len, one))))

next_blank : (left : ℕ) → 0 < left → next (Trailers left Fresh) 10 ≡ Done
next_blank left some = let e = some_left left some in rw e refl

told_blank : (framed : Bool) (left : ℕ) → 0 < left → told framed (Trailers left Fresh) 10 ≡ last_text framed
told_blank framed left some = let e = some_left left some in rw e refl

next_blank_return : (left : ℕ) → 0 < left → next (Trailers left Returned) 10 ≡ Done
next_blank_return left some = let e = some_left left some in rw e refl

told_blank_return : (framed : Bool) (left : ℕ) → 0 < left → told framed (Trailers left Returned) 10 ≡ last_text framed
told_blank_return framed left some = let e = some_left left some in rw e refl

feeds_blank : (framed : Bool) (left : ℕ) (end : LineEnd) → length (print_end end) ≤ left
    → Feeds (Chunked framed (Trailers left Fresh)) (Chunked framed Done) (print_end end) (last_text framed)
feeds_blank framed left lf few =
    let some : 0 < left = omega (arith, few) in
    feeds_next framed (Trailers left Fresh) 10 refl (next_blank left some) (told_blank framed left some)
feeds_blank framed left crlf few =
    let some : 0 < left = omega (arith, few) in
    let still : 0 < left - 1 = omega (arith, few) in
    feeds_trans (feeds_next framed (Trailers left Fresh) 13 refl (next_return left some) (told_nothing framed left 13 Fresh some (λ z. omega (arith, z))))
    (feeds_next framed (Trailers (left - 1) Returned) 10 refl (next_blank_return (left - 1) still) (told_blank_return framed (left - 1) still))

feeds_trailers : (framed : Bool) (t : Section) → AreTrailers 16384 t
    → Feeds (Chunked framed (Trailers 16384 Fresh)) (Chunked framed Done) (print_trailers t) (last_text framed)
feeds_trailers framed t are =
    let len = length-append (flat_map print_line t.lines) (print_end t.blank) in
    feeds_trans (feeds_lines framed 16384 t.lines are.lines (omega (arith, are.few, len)))
    (feeds_blank framed (16384 - length (flat_map print_line t.lines)) t.blank (omega (arith, are.few, len)))

-- a whole body
pub feeds_body : (framed : Bool) (b : ChunkedBody) → IsChunked b
    → Feeds (Chunked framed (Digits 0 0)) (Chunked framed Done) (print_chunked b) (chunked_text framed b)
feeds_body framed b is =
    feeds_trans (feeds_chunks framed b.chunks is.chunks)
    (feeds_trans (feeds_last_line framed b.last is.last is.no_more) (feeds_trailers framed b.trailers is.trailers))

-- all data of a chunk, and its end
pub feeds_chunk_rest : (framed : Bool) (size : ℕ) (body : List ℕ) → length body ≡ size
    → Feeds (Chunked framed (Data size)) (Chunked framed (Digits 0 0)) (body ++ crlf_bytes) (body ++ end_text framed)
feeds_chunk_rest framed size body len = feeds_trans (feeds_all_data framed size body len) (feeds_end framed)
