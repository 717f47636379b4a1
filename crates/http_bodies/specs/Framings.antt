-- Bodies by their framing (RFC 9112, section 6): which input is one, and its text.
use Rattle.std.specs.Prelude.{◌≡◌, ◌⊎◌, ℕ, ◌≤◌, Bool, true, false, List, [], length}
use Rattle.http_bodies.specs.declared.framing.Framing.{Framing}
use Rattle.http_bodies.specs.declared.framing.Framing.TheVariants.{Empty, Length, Chunked, ToEnd}
use Rattle.http_bodies.specs.Bodies.{ChunkedBody, IsChunked, print_chunked, chunked_text, PartOfChunked, LacksChunked}
use Rattle.http_bodies.specs.Lengths.{LacksLength}
use Rattle.http_bodies.specs.Readings.{read, start_of}
use Rattle.http_bodies.specs.Stops.{is_bad}

-- `used` is a whole body, and `text` is its text
abbrev pub IsBody : Framing → Bool → List ℕ → List ℕ → Type 0
IsBody Empty framed used text = (used ≡ []) × (text ≡ [])
IsBody (Length count) framed used text = (length used ≡ count) × (text ≡ used)
IsBody Chunked framed used text = (b : ChunkedBody) × IsChunked b × (used ≡ print_chunked b) × (text ≡ chunked_text framed b)
IsBody ToEnd framed used text = text ≡ used

-- `used` is a part of a body, and `text` is its text
abbrev pub PartOfBody : Framing → Bool → List ℕ → List ℕ → Type 0
PartOfBody Empty framed used text = (used ≡ []) × (text ≡ [])
PartOfBody (Length count) framed used text = (length used ≤ count) × (text ≡ used)
PartOfBody Chunked framed used text = PartOfChunked framed used text
PartOfBody ToEnd framed used text = text ≡ used

-- the input doesn't begin with a whole body
abbrev pub LacksBody : Framing → List ℕ → Type 0
LacksBody Empty input = ⊥
LacksBody (Length count) input = LacksLength count input
LacksBody Chunked input = LacksChunked input
LacksBody ToEnd input = ⊥

-- no byte of the input is refused as one of a body
abbrev pub IsSound : Framing → List ℕ → Type 0
IsSound framing input = is_bad (read (start_of framing true) input).coding ≡ false

-- The input doesn't begin with a whole body, and no byte of it is refused; or the body goes on to the
-- end of the input, which hasn't been met.
abbrev pub IsUnfinished : Framing → List ℕ → Type 0
IsUnfinished framing input = (framing ≡ ToEnd) ⊎ (LacksBody framing input × IsSound framing input)
