-- A chunked body, byte by byte (RFC 9112, section 7.1). The laws of this crate say that this
-- machine reads exactly the bodies of `http_bodies`, and writes what they become.
use Rattle.std.specs.Prelude.{ℕ, ◌+◌, ◌-◌, ◌*◌, ◌^◌, Bool, true, false, ◌==◌, ◌&&◌, nat_lt, List, [], ◌∷◌, if◌then◌else◌}
use Rattle.std.specs.Char.{is_ascii_hexdigit, digit_value}
use Rattle.httparse.specs.Grammar.{is_ows}
use Rattle.http_bodies.specs.Bodies.{last_text}
use Rattle.http_bodies.specs.Chunks.{size_text, end_text}
use Rattle.http_bodies.specs.declared.coding.Line.{Line}
use Rattle.http_bodies.specs.declared.coding.Line.TheVariants.{Fresh, Returned, Written}
use Rattle.http_bodies.specs.declared.coding.Part.{Part}
use Rattle.http_bodies.specs.declared.coding.Part.TheVariants.{Digits, Blank, Extension, Return, Data, DataReturn, Trailers, Done, Bad}

-- the next state in a size line, where one more byte and the two that end the line still fit
abbrev pub if_short : ℕ → Part → Part
if_short read part = if nat_lt read 254 then part else Bad

-- the state after a size's digits and blanks
abbrev pub after_blank : ℕ → ℕ → ℕ → Part
after_blank read size b =
    if b == 13 then Return size
    else if is_ows b then if_short read (Blank (read + 1) size)
    else if b == 59 then if_short read (Extension (read + 1) size)
    else Bad

-- the state in a chunk extension
abbrev pub after_extension : ℕ → ℕ → ℕ → Part
after_extension read size b =
    if b == 13 then Return size
    else if b == 10 then Bad
    else if_short read (Extension (read + 1) size)

-- the state after the digits of a size, or at its beginning
abbrev pub after_digits : ℕ → ℕ → ℕ → Part
after_digits count size b =
    if is_ascii_hexdigit b then (if nat_lt count 16 && nat_lt size (2 ^ 60) then Digits (count + 1) (size * 16 + digit_value b) else Bad)
    else if count == 0 then Bad
    else after_blank count size b

-- the state after a size line
abbrev pub after_line : ℕ → Part
after_line size = if size == 0 then Trailers 16384 Fresh else Data size

-- the state after a line feed in the trailers
abbrev pub after_feed : ℕ → Line → Part
after_feed left Fresh = Done
after_feed left Returned = Done
after_feed left Written = Trailers left Fresh

-- the trailer line with one more byte, which isn't a line feed
abbrev pub longer : Line → ℕ → Line
longer Fresh b = if b == 13 then Returned else Written
longer Returned b = Written
longer Written b = Written

-- the next state
abbrev pub next : Part → ℕ → Part
next (Digits count size) b = after_digits count size b
next (Blank read size) b = after_blank read size b
next (Extension read size) b = after_extension read size b
next (Return size) b = if b == 10 then after_line size else Bad
next (Data left) b = if left == 0 then (if b == 13 then DataReturn else Bad) else Data (left - 1)
next DataReturn b = if b == 10 then Digits 0 0 else Bad
next (Trailers left line) b =
    if left == 0 then Bad
    else if b == 10 then after_feed (left - 1) line
    else Trailers (left - 1) (longer line b)
next Done b = Done
next Bad b = Bad

-- the text that is written for a line feed that ends the trailers
abbrev pub feed_text : Bool → Line → List ℕ
feed_text framed Fresh = last_text framed
feed_text framed Returned = last_text framed
feed_text framed Written = []

-- the text that is written for a byte
abbrev pub told : Bool → Part → ℕ → List ℕ
told framed (Digits count size) b = []
told framed (Blank read size) b = []
told framed (Extension read size) b = []
told framed (Return size) b = if b == 10 then (if size == 0 then [] else size_text framed size) else []
told framed (Data left) b = if left == 0 then [] else b ∷ []
told framed DataReturn b = if b == 10 then end_text framed else []
told framed (Trailers left line) b = if left == 0 then [] else if b == 10 then feed_text framed line else []
told framed Done b = []
told framed Bad b = []

-- the state takes no more bytes
abbrev pub is_over : Part → Bool
is_over (Digits count size) = false
is_over (Blank read size) = false
is_over (Extension read size) = false
is_over (Return size) = false
is_over (Data left) = false
is_over DataReturn = false
is_over (Trailers left line) = false
is_over Done = true
is_over Bad = true
