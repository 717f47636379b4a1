-- What was taken and given where a body in chunks is in a state.
use Rattle.std.proofs.Common.{◌≡◌, ◌≢◌, ◌∙◌, ℕ, ◌+◌, ◌-◌, ◌*◌, ◌^◌, ◌<◌, ◌≤◌, ◌==◌, ◌&&◌, nat_lt, Bool, true, false, if◌then◌else◌, List, [], ◌∷◌, ◌++◌, length, Option, Some, None, refl, sym, ap, arith, append_assoc, append-nil, length-append, subst, IsTrue}
use Rattle.std.proofs.lemmas.Bool.Decides.{nat_tests}
use Rattle.std.proofs.lemmas.Bool.{eqb-true, eqb-false, ltb-true}
use Rattle.std.proofs.lemmas.List.Elements.{All-push, All-nil}
use Rattle.std.proofs.lemmas.Int.Digits.{digits_value_push}
use Rattle.std.proofs.lemmas.Grind.{flat_map-append}
use Rattle.base_lists.proofs.Members.{all_append}
use Rattle.std.specs.Char.{is_ascii_hexdigit, digit_value}
use Rattle.std.specs.List.{flat_map, AllByRecursion}
use Rattle.std.specs.Str.Parse.{digits_value}
use Rattle.httparse.specs.Ascii.{crlf_bytes}
use Rattle.httparse.specs.Grammar.{AllPass, is_ows, is_extension_byte, ChunkLine, IsChunkLine, print_chunk_line, print_extension, chunk_size}
use Rattle.httparse.specs.Grammar.LineEnd.{crlf, lf}
use Rattle.http_bodies.specs.Bodies.{ChunkedBody, IsChunked, print_chunked, chunked_text, last_text, PartOfChunked}
use Rattle.http_bodies.specs.Bodies.PartOfChunked.{some_chunks, all_of_it}
use Rattle.http_bodies.specs.Chunks.{IsSizeLine, Chunk, IsChunk, print_chunk, chunk_text, size_text, end_text, PartOfChunk}
use Rattle.http_bodies.specs.Chunks.PartOfData.{some_data}
use Rattle.http_bodies.specs.Chunks.PartOfChunk.{nothing, line_and_data}
use Rattle.http_bodies.specs.Trailers.{IsLine, IsTrailer, print_line, Trailers as Section, print_trailers, AreTrailers}
use Rattle.http_bodies.specs.Parts.{next, told, is_over, after_digits, after_blank, after_extension, after_line, after_feed, longer, feed_text}
use Rattle.http_bodies.specs.declared.coding.Line.{Line}
use Rattle.http_bodies.specs.declared.coding.Line.TheVariants.{Fresh, Returned, Written}
use Rattle.http_bodies.specs.declared.coding.Part.{Part}
use Rattle.http_bodies.specs.declared.coding.Part.TheVariants.{Digits, Blank, Extension, Return, Data, DataReturn, Trailers, Done, Bad}

pub record AreDigits (ds : List ℕ) (size : ℕ) : Type 0 where
  pub hex : AllPass is_ascii_hexdigit ds
  pub few : length ds ≤ 16
  pub value : digits_value 16 ds ≡ size

pub record AtDigits (count size : ℕ) (p t : List ℕ) : Type 0 where
  pub digits : AreDigits p size
  pub len : length p ≡ count
  pub none : t ≡ []

pub record AtBlank (read size : ℕ) (p t : List ℕ) : Type 0 where
  pub ds : List ℕ
  pub pad : List ℕ
  pub digits : AreDigits ds size
  pub some : 0 < length ds
  pub blanks : AllPass is_ows pad
  pub is : p ≡ ds ++ pad
  pub len : length p ≡ read
  pub short : read ≤ 254
  pub none : t ≡ []

pub record AtExtension (read size : ℕ) (p t : List ℕ) : Type 0 where
  pub ds : List ℕ
  pub pad : List ℕ
  pub text : List ℕ
  pub digits : AreDigits ds size
  pub some : 0 < length ds
  pub blanks : AllPass is_ows pad
  pub passes : AllPass is_extension_byte text
  pub is : p ≡ ds ++ (pad ++ 59 ∷ text)
  pub len : length p ≡ read
  pub short : read ≤ 254
  pub none : t ≡ []

-- with a line feed it is a line
pub record AtReturn (size : ℕ) (p t : List ℕ) : Type 0 where
  pub line : ChunkLine
  pub is_line : IsSizeLine line
  pub is : p ++ 10 ∷ [] ≡ print_chunk_line line
  pub sized : chunk_size line ≡ size
  pub none : t ≡ []

pub record AtData (framed : Bool) (left : ℕ) (p t : List ℕ) : Type 0 where
  pub line : ChunkLine
  pub body : List ℕ
  pub is_line : IsSizeLine line
  pub is : p ≡ print_chunk_line line ++ body
  pub sized : length body + left ≡ chunk_size line
  pub some : 0 < chunk_size line
  pub text : t ≡ size_text framed (chunk_size line) ++ body

pub record AtDataReturn (framed : Bool) (p t : List ℕ) : Type 0 where
  pub line : ChunkLine
  pub body : List ℕ
  pub is_line : IsSizeLine line
  pub is : p ≡ print_chunk_line line ++ (body ++ 13 ∷ [])
  pub sized : length body ≡ chunk_size line
  pub some : 0 < chunk_size line
  pub text : t ≡ size_text framed (chunk_size line) ++ body

abbrev pub IsKind : Line → List ℕ → Type 0
IsKind Fresh cur = cur ≡ []
IsKind Returned cur = cur ≡ 13 ∷ []
IsKind Written cur = IsTrailer cur

pub record AtTrailers (left : ℕ) (kind : Line) (p t : List ℕ) : Type 0 where
  pub line : ChunkLine
  pub lines : List (List ℕ)
  pub cur : List ℕ
  pub is_line : IsSizeLine line
  pub zero : chunk_size line ≡ 0
  pub all : AllByRecursion IsTrailer lines
  pub is_kind : IsKind kind cur
  pub is : p ≡ print_chunk_line line ++ (flat_map print_line lines ++ cur)
  pub sized : length (flat_map print_line lines) + length cur + left ≡ 16384
  pub none : t ≡ []

pub record AtDone (framed : Bool) (p t : List ℕ) : Type 0 where
  pub line : ChunkLine
  pub trailers : Section
  pub is_line : IsSizeLine line
  pub zero : chunk_size line ≡ 0
  pub are : AreTrailers 16384 trailers
  pub is : p ≡ print_chunk_line line ++ print_trailers trailers
  pub text : t ≡ last_text framed

-- a part of a chunk stands at the front
pub record PieceAt (framed : Bool) (p t : List ℕ) : Type 0 where
  pub front : List ℕ
  pub rest : List ℕ
  pub given : List ℕ
  pub is : p ≡ front ++ rest
  pub text : t ≡ given
  pub part : PartOfChunk framed front given

abbrev pub Stands : Bool → Part → List ℕ → List ℕ → Type 0
Stands framed (Digits count size) p t = AtDigits count size p t
Stands framed (Blank read size) p t = AtBlank read size p t
Stands framed (Extension read size) p t = AtExtension read size p t
Stands framed (Return size) p t = AtReturn size p t
Stands framed (Data left) p t = AtData framed left p t
Stands framed DataReturn p t = AtDataReturn framed p t
Stands framed (Trailers left kind) p t = AtTrailers left kind p t
Stands framed Done p t = AtDone framed p t
Stands framed Bad p t = PieceAt framed p t

by : (P : Bool → Type 0) (t : Bool) → (t ≡ true → P true) → (t ≡ false → P false) → P t
by P true f g = f refl
by P false f g = g refl

-- nothing was given yet
none_at : (framed : Bool) (p t : List ℕ) → t ≡ [] → PieceAt framed p t
none_at framed p t none = record { front = []; rest = p; given = []; is = refl; text = none; part = nothing }

data_at : (framed : Bool) (left : ℕ) (p t : List ℕ) → AtData framed left p t → PieceAt framed p t
data_at framed left p t a = record {
  front = print_chunk_line a.line ++ a.body;
  rest = [];
  given = size_text framed (chunk_size a.line) ++ a.body;
  is = a.is ∙ sym (append-nil (print_chunk_line a.line ++ a.body));
  text = a.text;
  part = line_and_data a.line a.body (size_text framed (chunk_size a.line) ++ a.body) a.is_line a.some (some_data a.body (omega (arith, a.sized)));
}

data_return_at : (framed : Bool) (p t : List ℕ) → AtDataReturn framed p t → PieceAt framed p t
data_return_at framed p t a = record {
  front = print_chunk_line a.line ++ a.body;
  rest = 13 ∷ [];
  given = size_text framed (chunk_size a.line) ++ a.body;
  is = a.is ∙ sym (append_assoc (print_chunk_line a.line) a.body (13 ∷ []));
  text = a.text;
  part = line_and_data a.line a.body (size_text framed (chunk_size a.line) ++ a.body) a.is_line a.some (some_data a.body (omega (arith, a.sized)));
}

-- another byte
piece_more : (framed : Bool) (p t : List ℕ) (b : ℕ) → PieceAt framed p t → PieceAt framed (p ++ b ∷ []) (t ++ [])
piece_more framed p t b a = record {
  front = a.front;
  rest = a.rest ++ b ∷ [];
  given = a.given;
  is = ap (λ l. l ++ b ∷ []) a.is ∙ append_assoc a.front a.rest (b ∷ []);
  text = append-nil t ∙ a.text;
  part = a.part;
}

no_more : {t : List ℕ} → t ≡ [] → t ++ [] ≡ []
no_more {t} e = append-nil t ∙ e

pushed_digit : (p : List ℕ) (size b : ℕ) → AreDigits p size → is_ascii_hexdigit b ≡ true → length p < 16 → AreDigits (p ++ b ∷ []) (size * 16 + digit_value b)
pushed_digit p size b a hex few = record {
  hex = All-push (λ v. IsTrue (is_ascii_hexdigit v)) p b a.hex hex;
  few = omega (arith, length-append p (b ∷ []), few);
  value = digits_value_push 16 p b ∙ ap (λ n. n * 16 + digit_value b) a.value;
}

digits_blank : (count size : ℕ) (p t : List ℕ) → AtDigits count size p t → 0 < count → AtBlank count size p t
digits_blank count size p t a some = record {
  ds = p;
  pad = [];
  digits = a.digits;
  some = omega (arith, a.len, some);
  blanks = All-nil _;
  is = sym (append-nil p);
  len = a.len;
  short = omega (arith, a.len, a.digits.few);
  none = a.none;
}

-- a line of these parts
abbrev line_of : List ℕ → List ℕ → Option (List ℕ) → ChunkLine
line_of ds pad e = record { digits = ds; pad = pad; extension = e }

whole_line : (ds pad : List ℕ) (e : Option (List ℕ)) (p : List ℕ) → p ≡ ds ++ (pad ++ print_extension e)
    → (p ++ 13 ∷ []) ++ 10 ∷ [] ≡ print_chunk_line (line_of ds pad e)
unfolding print_chunk_line
whole_line ds pad e p is =
    append_assoc p (13 ∷ []) (10 ∷ []) ∙ ap (λ l. l ++ crlf_bytes) is ∙ ap (λ l. l ++ crlf_bytes) (sym (append_assoc ds pad (print_extension e)))

size_line : (l : ChunkLine) (p : List ℕ) → IsChunkLine l → (p ++ 13 ∷ []) ++ 10 ∷ [] ≡ print_chunk_line l → length p ≤ 254 → IsSizeLine l
size_line l p is whole few = record {
  line = is;
  short = omega (arith, few, ap (length {A = ℕ}) whole, length-append (p ++ 13 ∷ []) (10 ∷ []), length-append p (13 ∷ []));
}

blank_return : (read size : ℕ) (p t : List ℕ) → AtBlank read size p t → AtReturn size (p ++ 13 ∷ []) (t ++ [])
blank_return read size p t a =
    let line = line_of a.ds a.pad None in
    let whole = whole_line a.ds a.pad None p (a.is ∙ ap (λ l. a.ds ++ l) (sym (append-nil a.pad))) in
    let is : IsChunkLine line = record { digits = (a.some, a.digits.few, a.digits.hex); pad = a.blanks; extension = tt } in
    record {
      line = line;
      is_line = size_line line p is whole (omega (arith, a.len, a.short));
      is = whole;
      sized = a.digits.value;
      none = no_more a.none;
    }

extension_return : (read size : ℕ) (p t : List ℕ) → AtExtension read size p t → AtReturn size (p ++ 13 ∷ []) (t ++ [])
extension_return read size p t a =
    let line = line_of a.ds a.pad (Some a.text) in
    let whole = whole_line a.ds a.pad (Some a.text) p a.is in
    let is : IsChunkLine line = record { digits = (a.some, a.digits.few, a.digits.hex); pad = a.blanks; extension = a.passes } in
    record {
      line = line;
      is_line = size_line line p is whole (omega (arith, a.len, a.short));
      is = whole;
      sized = a.digits.value;
      none = no_more a.none;
    }

blank_more : (read size b : ℕ) (p t : List ℕ) → AtBlank read size p t → is_ows b ≡ true → read < 254 → AtBlank (read + 1) size (p ++ b ∷ []) (t ++ [])
blank_more read size b p t a ows few = record {
  ds = a.ds;
  pad = a.pad ++ b ∷ [];
  digits = a.digits;
  some = a.some;
  blanks = All-push (λ v. IsTrue (is_ows v)) a.pad b a.blanks ows;
  is = ap (λ l. l ++ b ∷ []) a.is ∙ append_assoc a.ds a.pad (b ∷ []);
  len = omega (arith, a.len, length-append p (b ∷ []));
  short = omega (arith, few);
  none = no_more a.none;
}

extension_first : (read size : ℕ) (p t : List ℕ) → AtBlank read size p t → read < 254 → AtExtension (read + 1) size (p ++ 59 ∷ []) (t ++ [])
extension_first read size p t a few = record {
  ds = a.ds;
  pad = a.pad;
  text = [];
  digits = a.digits;
  some = a.some;
  blanks = a.blanks;
  passes = All-nil _;
  is = ap (λ l. l ++ 59 ∷ []) a.is ∙ append_assoc a.ds a.pad (59 ∷ []);
  len = omega (arith, a.len, length-append p (59 ∷ []));
  short = omega (arith, few);
  none = no_more a.none;
}

extension_more : (read size b : ℕ) (p t : List ℕ) → AtExtension read size p t → is_extension_byte b ≡ true → read < 254
    → AtExtension (read + 1) size (p ++ b ∷ []) (t ++ [])
extension_more read size b p t a byte few = record {
  ds = a.ds;
  pad = a.pad;
  text = a.text ++ b ∷ [];
  digits = a.digits;
  some = a.some;
  blanks = a.blanks;
  passes = All-push (λ v. IsTrue (is_extension_byte v)) a.text b a.passes byte;
  is = ap (λ l. l ++ b ∷ []) a.is ∙ append_assoc a.ds (a.pad ++ 59 ∷ a.text) (b ∷ []) ∙ ap (λ l. a.ds ++ l) (append_assoc a.pad (59 ∷ a.text) (b ∷ []));
  len = omega (arith, a.len, length-append p (b ∷ []));
  short = omega (arith, few);
  none = no_more a.none;
}

-- the line goes on, or is too long
stands_short : (framed : Bool) (read : ℕ) (part : Part) (p t : List ℕ) → (read < 254 → Stands framed part p t) → PieceAt framed p t
    → Stands framed (if nat_lt read 254 then part else Bad) p t
stands_short framed read part p t f bad =
    by (λ v. Stands framed (if v then part else Bad) p t) (nat_lt read 254) (λ e. f (ltb-true read 254 e)) (λ _. bad)

stands_blank : (framed : Bool) (read size b : ℕ) (p t : List ℕ) → AtBlank read size p t → Stands framed (after_blank read size b) (p ++ b ∷ []) (t ++ [])
stands_blank framed read size b p t a =
    let bad = piece_more framed p t b (none_at framed p t a.none) in
    by (λ v. Stands framed (if v then Return size else if is_ows b then (if nat_lt read 254 then Blank (read + 1) size else Bad)
    else if b == 59 then (if nat_lt read 254 then Extension (read + 1) size else Bad) else Bad) (p ++ b ∷ []) (t ++ [])) (b == 13)
    (λ e. subst (λ (n : ℕ). AtReturn size (p ++ n ∷ []) (t ++ [])) (sym (eqb-true b 13 e)) (blank_return read size p t a))
    (λ _. by (λ v. Stands framed (if v then (if nat_lt read 254 then Blank (read + 1) size else Bad)
    else if b == 59 then (if nat_lt read 254 then Extension (read + 1) size else Bad) else Bad) (p ++ b ∷ []) (t ++ [])) (is_ows b)
    (λ ows. stands_short framed read (Blank (read + 1) size) (p ++ b ∷ []) (t ++ []) (blank_more read size b p t a ows) bad)
    (λ _. by (λ v. Stands framed (if v then (if nat_lt read 254 then Extension (read + 1) size else Bad) else Bad) (p ++ b ∷ []) (t ++ [])) (b == 59)
    (λ e. stands_short framed read (Extension (read + 1) size) (p ++ b ∷ []) (t ++ [])
    (λ few. subst (λ (n : ℕ). AtExtension (read + 1) size (p ++ n ∷ []) (t ++ [])) (sym (eqb-true b 59 e)) (extension_first read size p t a few)) bad)
    (λ _. bad)))

byte_passes : (b : ℕ) → (b == 13) ≡ false → (b == 10) ≡ false → is_extension_byte b ≡ true
byte_passes b e f = rw (e, f) refl

stands_extension : (framed : Bool) (read size b : ℕ) (p t : List ℕ) → AtExtension read size p t
    → Stands framed (after_extension read size b) (p ++ b ∷ []) (t ++ [])
stands_extension framed read size b p t a =
    let bad = piece_more framed p t b (none_at framed p t a.none) in
    by (λ v. Stands framed (if v then Return size else if b == 10 then Bad else (if nat_lt read 254 then Extension (read + 1) size else Bad)) (p
    ++ b ∷ []) (t ++ []))
    (b == 13)
    (λ e. subst (λ (n : ℕ). AtReturn size (p ++ n ∷ []) (t ++ [])) (sym (eqb-true b 13 e)) (extension_return read size p t a))
    (λ e. by (λ v. Stands framed (if v then Bad else (if nat_lt read 254 then Extension (read + 1) size else Bad)) (p ++ b ∷ []) (t ++ [])) (b == 10)
    (λ _. bad)
    (λ f. stands_short framed read (Extension (read + 1) size) (p ++ b ∷ []) (t ++ []) (extension_more read size b p t a (byte_passes b e f)) bad))

both_left : (a b : Bool) → (a && b) ≡ true → a ≡ true
both_left true b e = refl
both_left false b e = absurd cc

stands_digits : (framed : Bool) (count size b : ℕ) (p t : List ℕ) → AtDigits count size p t
    → Stands framed (after_digits count size b) (p ++ b ∷ []) (t ++ [])
stands_digits framed count size b p t a =
    let bad = piece_more framed p t b (none_at framed p t a.none) in
    let fits = nat_lt count 16 && nat_lt size (2 ^ 60) in
    let more = Digits (count + 1) (size * 16 + digit_value b) in
    by (λ v. Stands framed (if v then (if fits then more else Bad) else if count == 0 then Bad else after_blank count size b) (p ++ b ∷ []) (t ++ []))
    (is_ascii_hexdigit b)
    (λ hex. by (λ v. Stands framed (if v then more else Bad) (p ++ b ∷ []) (t ++ [])) fits
    (λ e.
    let few : count < 16 = ltb-true count 16 (both_left (nat_lt count 16) (nat_lt size (2 ^ 60)) e) in
    record {
      digits = pushed_digit p size b a.digits hex (omega (arith, few, a.len));
      len = omega (arith, a.len, length-append p (b ∷ []));
      none = no_more a.none;
    })
    (λ _. bad))
    (λ _. by (λ v. Stands framed (if v then Bad else after_blank count size b) (p ++ b ∷ []) (t ++ [])) (count == 0)
    (λ _. bad)
    (λ e.
    let some : 0 < count = grind (arith, nat_tests) in
    stands_blank framed count size b p t (digits_blank count size p t a some)))

stands_return : (framed : Bool) (size b : ℕ) (p t : List ℕ) → AtReturn size p t
    → Stands framed (next (Return size) b) (p ++ b ∷ []) (t ++ told framed (Return size) b)
stands_return framed size b p t a =
    by (λ v. Stands framed (if v then after_line size else Bad) (p ++ b ∷ []) (t
    ++ (if v then (if size == 0 then [] else size_text framed size) else []))) (b == 10)
    (λ e.
    let is : p ++ b ∷ [] ≡ print_chunk_line a.line = ap (λ n. p ++ n ∷ []) (eqb-true b 10 e) ∙ a.is in
    by (λ v. Stands framed (if v then Trailers 16384 Fresh else Data size) (p ++ b ∷ []) (t ++ (if v then [] else size_text framed size))) (size == 0)
    (λ zero. record {
      line = a.line;
      lines = [];
      cur = [];
      is_line = a.is_line;
      zero = a.sized ∙ eqb-true size 0 zero;
      all = tt;
      is_kind = refl;
      is = is ∙ sym (append-nil (print_chunk_line a.line));
      sized = refl;
      none = no_more a.none;
    })
    (λ some. record {
      line = a.line;
      body = [];
      is_line = a.is_line;
      is = is ∙ sym (append-nil (print_chunk_line a.line));
      sized = omega (arith, a.sized);
      some = grind (arith, nat_tests, a.sized);
      text = ap (λ l. l ++ size_text framed size) a.none ∙ ap (size_text framed) (sym a.sized) ∙ sym (append-nil (size_text framed (chunk_size a.line)));
    }))
    (λ _. piece_more framed p t b (none_at framed p t a.none))

stands_data : (framed : Bool) (left b : ℕ) (p t : List ℕ) → AtData framed left p t
    → Stands framed (next (Data left) b) (p ++ b ∷ []) (t ++ told framed (Data left) b)
stands_data framed left b p t a =
    by (λ v. Stands framed (if v then (if b == 13 then DataReturn else Bad) else Data (left - 1)) (p ++ b ∷ []) (t ++ (if v then [] else b ∷ []))) (left == 0)
    (λ zero. by (λ v. Stands framed (if v then DataReturn else Bad) (p ++ b ∷ []) (t ++ [])) (b == 13)
    (λ e. record {
      line = a.line;
      body = a.body;
      is_line = a.is_line;
      is = ap (λ n. p ++ n ∷ []) (eqb-true b 13 e) ∙ ap (λ l. l ++ 13 ∷ []) a.is ∙ append_assoc (print_chunk_line a.line) a.body (13 ∷ []);
      sized = omega (arith, a.sized, eqb-true left 0 zero);
      some = a.some;
      text = append-nil t ∙ a.text;
    })
    (λ _. piece_more framed p t b (data_at framed left p t a)))
    (λ more.
    let some : 0 < left = grind (arith, nat_tests) in
    record {
      line = a.line;
      body = a.body ++ b ∷ [];
      is_line = a.is_line;
      is = ap (λ l. l ++ b ∷ []) a.is ∙ append_assoc (print_chunk_line a.line) a.body (b ∷ []);
      sized = omega (arith, a.sized, length-append a.body (b ∷ []), some);
      some = a.some;
      text = ap (λ l. l ++ b ∷ []) a.text ∙ append_assoc (size_text framed (chunk_size a.line)) a.body (b ∷ []);
    })

-- the bytes of the lines, and one more of the last
trailer_is : (line : ChunkLine) (lines : List (List ℕ)) (cur p : List ℕ) (b : ℕ) → p ≡ print_chunk_line line ++ (flat_map print_line lines ++ cur)
    → p ++ b ∷ [] ≡ print_chunk_line line ++ (flat_map print_line lines ++ (cur ++ b ∷ []))
trailer_is line lines cur p b is =
    ap (λ l. l ++ b ∷ []) is ∙ append_assoc (print_chunk_line line) (flat_map print_line lines ++ cur) (b ∷ [])
    ∙ ap (λ l. print_chunk_line line ++ l) (append_assoc (flat_map print_line lines) cur (b ∷ []))

line_push : (xs : List ℕ) (b : ℕ) → IsLine xs → b ≢ 10 → IsLine (xs ++ b ∷ [])
line_push [] b is other = (other, tt)
line_push (x ∷ xs) b is other = (is.0, line_push xs b is.1 other)

not_empty : (xs : List ℕ) (b : ℕ) → xs ++ b ∷ [] ≢ []
not_empty xs b e = omega (arith, ap (length {A = ℕ}) e, length-append xs (b ∷ []))

not_alone : (xs : List ℕ) (b c : ℕ) → 0 < length xs → xs ++ b ∷ [] ≢ c ∷ []
not_alone xs b c some e = omega (arith, ap (length {A = ℕ}) e, length-append xs (b ∷ []), some)

some_bytes : (xs : List ℕ) → xs ≢ [] → 0 < length xs
some_bytes [] none = absurd (none refl)
some_bytes (x ∷ xs) none = omega arith

other_byte : (b n : ℕ) → (b == n) ≡ false → b ≢ n
other_byte b n e = eqb-false b n e

-- a longer line
kind_more : (kind : Line) (cur : List ℕ) (b : ℕ) → IsKind kind cur → b ≢ 10 → IsKind (longer kind b) (cur ++ b ∷ [])
kind_more Fresh cur b is other =
    by (λ v. IsKind (if v then Returned else Written) (cur ++ b ∷ [])) (b == 13)
    (λ e. ap (λ l. l ++ b ∷ []) is ∙ ap (λ n. n ∷ []) (eqb-true b 13 e))
    (λ e. subst (λ (l : List ℕ). IsTrailer (l ++ b ∷ [])) (sym is)
    (record { whole = (other, tt); some = not_empty [] b; more = λ same. other_byte b 13 e cc }))
kind_more Returned cur b is other =
    subst (λ (l : List ℕ). IsTrailer (l ++ b ∷ [])) (sym is)
    (record { whole = ((λ z. omega (arith, z)), (other, tt)); some = not_empty (13 ∷ []) b; more = not_alone (13 ∷ []) b 13 (omega arith) })
kind_more Written cur b is other = record {
  whole = line_push cur b is.whole other;
  some = not_empty cur b;
  more = not_alone cur b 13 (some_bytes cur is.some);
}

-- a line feed ends a line, or the trailers
stands_feed : (framed : Bool) (left : ℕ) (kind : Line) (p t : List ℕ) → AtTrailers left kind p t → 0 < left
    → Stands framed (after_feed (left - 1) kind) (p ++ 10 ∷ []) (t ++ feed_text framed kind)
stands_feed framed left Fresh p t a some =
    let all = trailer_is a.line a.lines a.cur p 10 a.is in
    let end = ap (λ l. flat_map print_line a.lines ++ (l ++ 10 ∷ [])) a.is_kind in
    record {
      line = a.line;
      trailers = record { lines = a.lines; blank = lf };
      is_line = a.is_line;
      zero = a.zero;
      are = record { lines = a.all; few = omega (arith, a.sized, some, ap (length {A = ℕ}) a.is_kind, length-append (flat_map print_line a.lines) (10 ∷ [])) };
      is = all ∙ ap (λ l. print_chunk_line a.line ++ l) end;
      text = ap (λ l. l ++ last_text framed) a.none;
    }
stands_feed framed left Returned p t a some =
    let all = trailer_is a.line a.lines a.cur p 10 a.is in
    let end = ap (λ l. flat_map print_line a.lines ++ (l ++ 10 ∷ [])) a.is_kind in
    record {
      line = a.line;
      trailers = record { lines = a.lines; blank = crlf };
      is_line = a.is_line;
      zero = a.zero;
      are = record { lines = a.all; few = omega (arith, a.sized, some, ap (length {A = ℕ}) a.is_kind, length-append (flat_map print_line a.lines) crlf_bytes) };
      is = all ∙ ap (λ l. print_chunk_line a.line ++ l) end;
      text = ap (λ l. l ++ last_text framed) a.none;
    }
stands_feed framed left Written p t a some =
    let all = trailer_is a.line a.lines a.cur p 10 a.is in
    let pushed : flat_map print_line (a.lines ++ a.cur ∷ []) ≡ flat_map print_line a.lines ++ (a.cur ++ 10 ∷ []) =
    flat_map-append print_line a.lines (a.cur ∷ []) ∙ ap (λ l. flat_map print_line a.lines ++ l) (append-nil (a.cur ++ 10 ∷ [])) in
    record {
      line = a.line;
      lines = a.lines ++ a.cur ∷ [];
      cur = [];
      is_line = a.is_line;
      zero = a.zero;
      all = all_append IsTrailer a.lines (a.cur ∷ []) a.all (a.is_kind, tt);
      is_kind = refl;
      is = all ∙ ap (λ l. print_chunk_line a.line ++ l) (sym pushed ∙ sym (append-nil (flat_map print_line (a.lines ++ a.cur ∷ []))));
      sized = omega (
        arith,
        a.sized,
        some,
        ap (length {A = ℕ}) pushed,
        length-append (flat_map print_line a.lines) (a.cur
            ++ 10 ∷ []),
        length-append a.cur (10 ∷ []),
      );
      none = no_more a.none;
    }

stands_trailers : (framed : Bool) (left : ℕ) (kind : Line) (b : ℕ) (p t : List ℕ) → AtTrailers left kind p t
    → Stands framed (next (Trailers left kind) b) (p ++ b ∷ []) (t ++ told framed (Trailers left kind) b)
stands_trailers framed left kind b p t a =
    by (λ v. Stands framed (if v then Bad else if b == 10 then after_feed (left - 1) kind else Trailers (left - 1) (longer kind b)) (p ++ b ∷ [])
    (t ++ (if v then [] else if b == 10 then feed_text framed kind else []))) (left == 0)
    (λ _. piece_more framed p t b (none_at framed p t a.none))
    (λ more.
    let some : 0 < left = grind (arith, nat_tests) in
    by (λ v. Stands framed (if v then after_feed (left - 1) kind else Trailers (left - 1) (longer kind b)) (p ++ b ∷ []) (t
    ++ (if v then feed_text framed kind else [])))
    (b == 10)
    (λ e. subst (λ (n : ℕ). Stands framed (after_feed (left - 1) kind) (p ++ n ∷ []) (t ++ feed_text framed kind)) (sym (eqb-true b 10 e))
    (stands_feed framed left kind p t a some))
    (λ e. record {
      line = a.line;
      lines = a.lines;
      cur = a.cur ++ b ∷ [];
      is_line = a.is_line;
      zero = a.zero;
      all = a.all;
      is_kind = kind_more kind a.cur b a.is_kind (other_byte b 10 e);
      is = trailer_is a.line a.lines a.cur p b a.is;
      sized = omega (arith, a.sized, some, length-append a.cur (b ∷ []));
      none = no_more a.none;
    }))

-- whole chunks, and where the body stands behind them
pub record Reach (framed : Bool) (part : Part) (used text : List ℕ) : Type 0 where
  pub chunks : List Chunk
  pub p : List ℕ
  pub t : List ℕ
  pub all : AllByRecursion IsChunk chunks
  pub used_is : used ≡ flat_map print_chunk chunks ++ p
  pub text_is : text ≡ flat_map (chunk_text framed) chunks ++ t
  pub stands : Stands framed part p t

-- the same chunks, and something more
reach_by : {framed : Bool} {part q : Part} {used text : List ℕ} (x y : List ℕ) (r : Reach framed part used text) → Stands framed q (r.p ++ x) (r.t ++ y)
    → Reach framed q (used ++ x) (text ++ y)
reach_by {framed} {part} {q} {used} {text} x y r s = record {
  chunks = r.chunks;
  p = r.p ++ x;
  t = r.t ++ y;
  all = r.all;
  used_is = ap (λ l. l ++ x) r.used_is ∙ append_assoc (flat_map print_chunk r.chunks) r.p x;
  text_is = ap (λ l. l ++ y) r.text_is ∙ append_assoc (flat_map (chunk_text framed) r.chunks) r.t y;
  stands = s;
}

-- a chunk more
reach_chunk : {framed : Bool} {part : Part} {used text : List ℕ} (x y : List ℕ) (r : Reach framed part used text) (c : Chunk) → IsChunk c
    → r.p ++ x ≡ print_chunk c
    → r.t ++ y ≡ chunk_text framed c → Reach framed (Digits 0 0) (used ++ x) (text ++ y)
reach_chunk {framed} {part} {used} {text} x y r c is here there = record {
  chunks = r.chunks ++ c ∷ [];
  p = [];
  t = [];
  all = all_append IsChunk r.chunks (c ∷ []) r.all (is, tt);
  used_is =
      ap (λ l. l ++ x) r.used_is ∙ append_assoc (flat_map print_chunk r.chunks) r.p x
      ∙ ap (λ l. flat_map print_chunk r.chunks ++ l) (here ∙ sym (append-nil (print_chunk c)))
      ∙ sym (flat_map-append print_chunk r.chunks (c ∷ [])) ∙ sym (append-nil (flat_map print_chunk (r.chunks ++ c ∷ [])));
  text_is =
      ap (λ l. l ++ y) r.text_is ∙ append_assoc (flat_map (chunk_text framed) r.chunks) r.t y
      ∙ ap (λ l. flat_map (chunk_text framed) r.chunks ++ l) (there ∙ sym (append-nil (chunk_text framed c)))
      ∙ sym (flat_map-append (chunk_text framed) r.chunks (c ∷ [])) ∙ sym (append-nil (flat_map (chunk_text framed) (r.chunks ++ c ∷ [])));
  stands = record { digits = record { hex = All-nil _; few = omega arith; value = refl }; len = refl; none = refl };
}

reach_data_return : (framed : Bool) (b : ℕ) (used text : List ℕ) → Reach framed DataReturn used text
    → Reach framed (next DataReturn b) (used ++ b ∷ []) (text ++ told framed DataReturn b)
reach_data_return framed b used text r =
    let a = r.stands in
    by (λ v. Reach framed (if v then Digits 0 0 else Bad) (used ++ b ∷ []) (text ++ (if v then end_text framed else []))) (b == 10)
    (λ e.
    let c : Chunk = record { line = a.line; body = a.body } in
    let is : IsChunk c = record { line = a.is_line; size = sym a.sized; some = omega (arith, a.sized, a.some) } in
    reach_chunk (b ∷ []) (end_text framed) r c is
    (ap (λ n. r.p ++ n ∷ []) (eqb-true b 10 e) ∙ ap (λ l. l ++ 10 ∷ []) a.is
    ∙ append_assoc (print_chunk_line a.line) (a.body ++ 13 ∷ []) (10 ∷ []) ∙ ap (λ l. print_chunk_line a.line ++ l) (append_assoc a.body (13 ∷ []) (10 ∷ [])))
    (ap (λ l. l ++ end_text framed) a.text ∙ append_assoc (size_text framed (chunk_size a.line)) a.body (end_text framed)
    ∙ ap (λ n. size_text framed n ++ (a.body ++ end_text framed)) (sym a.sized)))
    (λ _. reach_by (b ∷ []) [] r (piece_more framed r.p r.t b (data_return_at framed r.p r.t a)))

-- a byte more
pub reach_next : (framed : Bool) (part : Part) (b : ℕ) (used text : List ℕ) → is_over part ≡ false → Reach framed part used text
    → Reach framed (next part b) (used ++ b ∷ []) (text ++ told framed part b)
reach_next framed (Digits count size) b used text going r = reach_by (b ∷ []) _ r (stands_digits framed count size b r.p r.t r.stands)
reach_next framed (Blank read size) b used text going r = reach_by (b ∷ []) _ r (stands_blank framed read size b r.p r.t r.stands)
reach_next framed (Extension read size) b used text going r = reach_by (b ∷ []) _ r (stands_extension framed read size b r.p r.t r.stands)
reach_next framed (Return size) b used text going r = reach_by (b ∷ []) _ r (stands_return framed size b r.p r.t r.stands)
reach_next framed (Data left) b used text going r = reach_by (b ∷ []) _ r (stands_data framed left b r.p r.t r.stands)
reach_next framed DataReturn b used text going r = reach_data_return framed b used text r
reach_next framed (Trailers left line) b used text going r = reach_by (b ∷ []) _ r (stands_trailers framed left line b r.p r.t r.stands)
reach_next framed Done b used text going r = absurd cc
reach_next framed Bad b used text going r = absurd cc

pub reach_start : (framed : Bool) → Reach framed (Digits 0 0) [] []
reach_start framed = record {
  chunks = [];
  p = [];
  t = [];
  all = tt;
  used_is = refl;
  text_is = refl;
  stands = record { digits = record { hex = All-nil _; few = omega arith; value = refl }; len = refl; none = refl };
}

-- a part of a body stands at the front
pub record PartAt (framed : Bool) (used text : List ℕ) : Type 0 where
  pub front : List ℕ
  pub rest : List ℕ
  pub given : List ℕ
  pub is : used ≡ front ++ rest
  pub text_is : text ≡ given
  pub part : PartOfChunked framed front given

part_behind : (framed : Bool) (part : Part) (used text : List ℕ) (r : Reach framed part used text) → PieceAt framed r.p r.t → PartAt framed used text
part_behind framed part used text r a = record {
  front = flat_map print_chunk r.chunks ++ a.front;
  rest = a.rest;
  given = flat_map (chunk_text framed) r.chunks ++ a.given;
  is = r.used_is ∙ ap (λ l. flat_map print_chunk r.chunks ++ l) a.is ∙ sym (append_assoc (flat_map print_chunk r.chunks) a.front a.rest);
  text_is = r.text_is ∙ ap (λ l. flat_map (chunk_text framed) r.chunks ++ l) a.text;
  part = some_chunks r.chunks a.front a.given r.all a.part;
}

pub record WholeAt (framed : Bool) (used text : List ℕ) : Type 0 where
  pub body : ChunkedBody
  pub is : IsChunked body
  pub used_is : used ≡ print_chunked body
  pub text_is : text ≡ chunked_text framed body

pub whole_at : (framed : Bool) (used text : List ℕ) → Reach framed Done used text → WholeAt framed used text
whole_at framed used text r =
    let a = r.stands in
    record {
      body = record { chunks = r.chunks; last = a.line; trailers = a.trailers };
      is = record { chunks = r.all; last = a.is_line; no_more = a.zero; trailers = a.are };
      used_is = r.used_is ∙ ap (λ l. flat_map print_chunk r.chunks ++ l) a.is;
      text_is = r.text_is ∙ ap (λ l. flat_map (chunk_text framed) r.chunks ++ l) a.text;
    }

pub part_at : (framed : Bool) (part : Part) (used text : List ℕ) → Reach framed part used text → PartAt framed used text
part_at framed (Digits count size) used text r = part_behind framed (Digits count size) used text r (none_at framed r.p r.t r.stands.none)
part_at framed (Blank read size) used text r = part_behind framed (Blank read size) used text r (none_at framed r.p r.t r.stands.none)
part_at framed (Extension read size) used text r = part_behind framed (Extension read size) used text r (none_at framed r.p r.t r.stands.none)
part_at framed (Return size) used text r = part_behind framed (Return size) used text r (none_at framed r.p r.t r.stands.none)
part_at framed (Data left) used text r = part_behind framed (Data left) used text r (data_at framed left r.p r.t r.stands)
part_at framed DataReturn used text r = part_behind framed DataReturn used text r (data_return_at framed r.p r.t r.stands)
part_at framed (Trailers left line) used text r = part_behind framed (Trailers left line) used text r (none_at framed r.p r.t r.stands.none)
part_at framed Done used text r =
    let w = whole_at framed used text r in
    record {
      front = print_chunked w.body;
      rest = [];
      given = chunked_text framed w.body;
      is = w.used_is ∙ sym (append-nil (print_chunked w.body));
      text_is = w.text_is;
      part = all_of_it w.body w.is;
    }
part_at framed Bad used text r = part_behind framed Bad used text r r.stands
