-- The derivative by a size line: digits, blanks, an extension and the line's end.
use Rattle.std.proofs.Common.{◌≡◌, ◌∙◌, ℕ, ◌+◌, ◌*◌, ◌^◌, ◌<◌, ◌≤◌, ◌==◌, nat_lt, Bool, true, false, List, [], ◌∷◌, ◌++◌, length, Option, Some, None, refl, sym, ap, arith, append_assoc, length-append, subst, pow-add}
use Rattle.std.proofs.Math.Nat.{pow-le-pow_right}
use Rattle.std.proofs.lemmas.Bool.Decides.{nat_tests}
use Rattle.std.proofs.lemmas.List.Elements.{All-head, All-tail}
use Rattle.std.specs.Char.{is_ascii_hexdigit, digit_value}
use Rattle.std.specs.Str.Parse.{digits_value_after}
use Rattle.httparse.specs.Ascii.{crlf_bytes}
use Rattle.httparse.specs.Grammar.{AllPass, is_ows, is_extension_byte, IsExtension, ChunkLine, print_chunk_line, print_extension, chunk_size}
use Rattle.http_bodies.specs.Chunks.{IsSizeLine}
use Rattle.http_bodies.specs.Parts.{told, after_digits, after_blank, after_extension, after_line}
use Rattle.http_bodies.specs.Readings.{read, behind, Feeds}
use Rattle.http_bodies.specs.declared.coding.Coding.{Coding}
use Rattle.http_bodies.specs.declared.coding.Coding.TheVariants.{Chunked}
use Rattle.http_bodies.specs.declared.coding.Part.TheVariants.{Digits, Blank, Extension, Return}
use Rattle.http_bodies.proofs.Derivatives.{feeds_nil, feeds_trans, feeds_as, feeds_byte, feeds_next}

digit_small : (b : ℕ) → is_ascii_hexdigit b ≡ true → digit_value b < 16
digit_small b hex = grind (arith, nat_tests)

pub next_digit : (count size b : ℕ) → is_ascii_hexdigit b ≡ true → count < 16 → size < 2 ^ 60
    → after_digits count size b ≡ Digits (count + 1) (size * 16 + digit_value b)
next_digit count size b hex few small =
    let e : nat_lt count 16 ≡ true = grind (arith, nat_tests) in
    let f : nat_lt size (2 ^ 60) ≡ true = grind (arith, nat_tests) in
    rw (hex, e, f) refl

below_top : (count : ℕ) → count < 16 → 16 ^ count ≤ 2 ^ 60
below_top count few = pow-le-pow_right {n = 16} (omega arith) {j = 15} (omega arith)

digit_more : (size digit count : ℕ) → size < 16 ^ count → digit < 16 → size * 16 + digit < 16 ^ (count + 1)
digit_more size digit count below small = omega (arith, pow-add 16 count 1)

-- two numbers for two
digits_as : {framed : Bool} {x g : List ℕ} {a : Coding} {c s c' s' : ℕ} → c ≡ c' → s ≡ s' → Feeds a (Chunked framed (Digits c s)) x g
    → Feeds a (Chunked framed (Digits c' s')) x g
digits_as {framed} {x} {g} {a} {c} {s} {c'} {s'} e f p =
    subst (λ (m : ℕ). Feeds a (Chunked framed (Digits c' m)) x g) f (subst (λ (m : ℕ). Feeds a (Chunked framed (Digits m s)) x g) e p)

pub feeds_digits : (framed : Bool) (count size : ℕ) (ds : List ℕ) → AllPass is_ascii_hexdigit ds → size < 16 ^ count → count + length ds ≤ 16
    → Feeds (Chunked framed (Digits count size)) (Chunked framed (Digits (count + length ds) (digits_value_after 16 size ds))) ds []
feeds_digits framed count size [] all below few = digits_as (omega arith) refl (feeds_nil (Chunked framed (Digits count size)))
feeds_digits framed count size (d ∷ ds) all below few =
    let hex = All-head (λ b. is_ascii_hexdigit b ≡ true) d ds all in
    let more = digit_more size (digit_value d) count below (digit_small d hex) in
    let top = below_top count (omega (arith, few)) in
    let first = feeds_next framed (Digits count size) d refl (next_digit count size d hex (omega (arith, few)) (omega (arith, below, top))) refl in
    digits_as (omega arith) refl
    (feeds_trans first (feeds_digits framed (count + 1) (size * 16 + digit_value d) ds (All-tail (λ b. is_ascii_hexdigit b ≡ true) d ds all) more (omega
    (arith, few))))

next_blank : (read size b : ℕ) → is_ows b ≡ true → read < 254 → after_blank read size b ≡ Blank (read + 1) size
next_blank read size b ows few =
    let e : (b == 13) ≡ false = grind (arith, nat_tests) in
    let f : nat_lt read 254 ≡ true = grind (arith, nat_tests) in
    rw (e, ows, f) refl

blank_as : {framed : Bool} {x g : List ℕ} {a : Coding} {c c' : ℕ} (s : ℕ) → c ≡ c' → Feeds a (Chunked framed (Blank c s)) x g
    → Feeds a (Chunked framed (Blank c' s)) x g
blank_as {framed} {x} {g} {a} s e p = subst (λ (m : ℕ). Feeds a (Chunked framed (Blank m s)) x g) e p

feeds_blanks : (framed : Bool) (read size : ℕ) (ws : List ℕ) → AllPass is_ows ws → read + length ws ≤ 254
    → Feeds (Chunked framed (Blank read size)) (Chunked framed (Blank (read + length ws) size)) ws []
feeds_blanks framed read size [] all few = blank_as size (omega arith) (feeds_nil (Chunked framed (Blank read size)))
feeds_blanks framed read size (b ∷ ws) all few =
    let first = feeds_next framed (Blank read size) b refl (next_blank read size b (All-head (λ v. is_ows v ≡ true) b ws all) (omega (arith, few))) refl in
    blank_as size (omega arith)
    (feeds_trans first (feeds_blanks framed (read + 1) size ws (All-tail (λ v. is_ows v ≡ true) b ws all) (omega (arith, few))))

next_extension : (read size b : ℕ) → is_extension_byte b ≡ true → read < 254 → after_extension read size b ≡ Extension (read + 1) size
next_extension read size b byte few =
    let e : (b == 13) ≡ false = grind (arith, nat_tests) in
    let e' : (b == 10) ≡ false = grind (arith, nat_tests) in
    let f : nat_lt read 254 ≡ true = grind (arith, nat_tests) in
    rw (e, e', f) refl

extension_as : {framed : Bool} {x g : List ℕ} {a : Coding} {c c' : ℕ} (s : ℕ) → c ≡ c' → Feeds a (Chunked framed (Extension c s)) x g
    → Feeds a (Chunked framed (Extension c' s)) x g
extension_as {framed} {x} {g} {a} s e p = subst (λ (m : ℕ). Feeds a (Chunked framed (Extension m s)) x g) e p

feeds_text : (framed : Bool) (read size : ℕ) (xs : List ℕ) → AllPass is_extension_byte xs → read + length xs ≤ 254
    → Feeds (Chunked framed (Extension read size)) (Chunked framed (Extension (read + length xs) size)) xs []
feeds_text framed read size [] all few = extension_as size (omega arith) (feeds_nil (Chunked framed (Extension read size)))
feeds_text framed read size (b ∷ xs) all few =
    let first = feeds_next framed (Extension read size) b refl (next_extension read size b (All-head (λ v. is_extension_byte v ≡ true) b xs all) (omega
    (arith, few))) refl in
    extension_as size (omega arith)
    (feeds_trans first (feeds_text framed (read + 1) size xs (All-tail (λ v. is_extension_byte v ≡ true) b xs all) (omega (arith, few))))

-- the line's end
feeds_return : (framed : Bool) (size : ℕ) → Feeds (Chunked framed (Return size)) (Chunked framed (after_line size)) (10 ∷ []) (told framed (Return size) 10)
feeds_return framed size = feeds_byte framed (Return size) 10 refl

feeds_end : (framed : Bool) (read size : ℕ)
    → Feeds (Chunked framed (Blank read size)) (Chunked framed (after_line size)) crlf_bytes (told framed (Return size) 10)
feeds_end framed read size = feeds_trans (feeds_byte framed (Blank read size) 13 refl) (feeds_return framed size)

feeds_extended : (framed : Bool) (read size : ℕ)
    → Feeds (Chunked framed (Extension read size)) (Chunked framed (after_line size)) crlf_bytes (told framed (Return size) 10)
feeds_extended framed read size = feeds_trans (feeds_byte framed (Extension read size) 13 refl) (feeds_return framed size)

next_semicolon : (read size : ℕ) → read < 254 → after_blank read size 59 ≡ Extension (read + 1) size
next_semicolon read size few =
    let f : nat_lt read 254 ≡ true = grind (arith, nat_tests) in
    rw f refl

abbrev short : ℕ → Option (List ℕ) → Type 0
short read None = read ≤ 254
short read (Some text) = read + 1 + length text ≤ 254

feeds_extension : (framed : Bool) (read size : ℕ) (e : Option (List ℕ)) → IsExtension e → short read e
    → Feeds (Chunked framed (Blank read size)) (Chunked framed (after_line size)) (print_extension e ++ crlf_bytes) (told framed (Return size) 10)
feeds_extension framed read size None all few = feeds_end framed read size
feeds_extension framed read size (Some text) all few =
    let first = feeds_next framed (Blank read size) 59 refl (next_semicolon read size (omega (arith, few))) refl in
    feeds_trans first (feeds_trans (feeds_text framed (read + 1) size text all (omega (arith, few))) (feeds_extended framed (read + 1 + length text) size))

feeds_tail : (framed : Bool) (read size : ℕ) (pad : List ℕ) (e : Option (List ℕ)) → AllPass is_ows pad → IsExtension e → short (read + length pad) e
    → read + length pad ≤ 254
    → Feeds (Chunked framed (Blank read size)) (Chunked framed (after_line size)) (pad ++ (print_extension e ++ crlf_bytes)) (told framed (Return size) 10)
feeds_tail framed read size pad e blanks all few some =
    feeds_trans (feeds_blanks framed read size pad blanks some) (feeds_extension framed (read + length pad) size e all few)

-- what isn't a digit does the same behind digits as behind blanks
next_other : (count size b : ℕ) → 0 < count → is_ascii_hexdigit b ≡ false → after_digits count size b ≡ after_blank count size b
next_other count size b some other =
    let e : (count == 0) ≡ false = grind (arith, nat_tests) in
    rw (other, e) refl

other_first : (framed : Bool) (count size b : ℕ) (x g : List ℕ) (c : Coding) → 0 < count → is_ascii_hexdigit b ≡ false
    → Feeds (Chunked framed (Blank count size)) c (b ∷ x) g → Feeds (Chunked framed (Digits count size)) c (b ∷ x) g
other_first framed count size b x g c some other p = record {
  goes_on = λ more. ap (λ q. behind [] (read (Chunked framed q) (x ++ more))) (next_other count size b some other) ∙ p.goes_on more;
}

ows_other : (b : ℕ) → is_ows b ≡ true → is_ascii_hexdigit b ≡ false
ows_other b ows = grind (arith, nat_tests)

tail_first : (framed : Bool) (count size : ℕ) (pad : List ℕ) (e : Option (List ℕ)) (g : List ℕ) (c : Coding) → 0 < count → AllPass is_ows pad
    → Feeds (Chunked framed (Blank count size)) c (pad ++ (print_extension e ++ crlf_bytes)) g
    → Feeds (Chunked framed (Digits count size)) c (pad ++ (print_extension e ++ crlf_bytes)) g
tail_first framed count size [] None g c some blanks p = other_first framed count size 13 (10 ∷ []) g c some refl p
tail_first framed count size [] (Some text) g c some blanks p = other_first framed count size 59 (text ++ crlf_bytes) g c some refl p
tail_first framed count size (b ∷ pad) e g c some blanks p =
    other_first framed count size b (pad ++ (print_extension e ++ crlf_bytes)) g c some (ows_other b (All-head (λ v. is_ows v ≡ true) b pad blanks)) p

line_is : (l : ChunkLine) → l.digits ++ (l.pad ++ (print_extension l.extension ++ crlf_bytes)) ≡ print_chunk_line l
unfolding print_chunk_line
line_is l = sym (simp append_assoc)

line_len : (l : ChunkLine) (e : Option (List ℕ)) → l.extension ≡ e → length (print_chunk_line l) ≤ 256
    → length l.digits + (length l.pad + (length (print_extension e) + 2)) ≤ 256
line_len l e is few =
    let len = ap (λ x. length (l.digits ++ (l.pad ++ (print_extension x ++ crlf_bytes)))) (sym is) ∙ ap (length {A = ℕ}) (line_is l) in
    omega (
      arith,
      few,
      len,
      length-append l.digits (l.pad ++ (print_extension e ++ crlf_bytes)),
      length-append l.pad (print_extension e ++ crlf_bytes),
      length-append (print_extension e) crlf_bytes,
    )

line_short : (digits pad : ℕ) (e : Option (List ℕ)) → digits + (pad + (length (print_extension e) + 2)) ≤ 256 → short (digits + pad) e
line_short digits pad None few = omega (arith, few)
line_short digits pad (Some text) few = omega (arith, few)

pub feeds_line : (framed : Bool) (l : ChunkLine) → IsSizeLine l
    → Feeds (Chunked framed (Digits 0 0)) (Chunked framed (after_line (chunk_size l))) (print_chunk_line l) (told framed (Return (chunk_size l)) 10)
feeds_line framed l is =
    let count = length l.digits in
    let few = line_len l l.extension refl is.short in
    let first = digits_as (omega arith) refl (feeds_digits framed 0 0 l.digits is.line.digits.2 (omega arith) (omega (arith, is.line.digits.1))) in
    let tail = feeds_tail framed count (chunk_size l) l.pad l.extension is.line.pad is.line.extension (line_short count (length l.pad) l.extension few)
    (omega (arith, few)) in
    let after = tail_first framed count (chunk_size l) l.pad l.extension _ _ is.line.digits.0 is.line.pad tail in
    feeds_as (line_is l) refl (feeds_trans first after)
