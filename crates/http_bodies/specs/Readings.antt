-- The meaning of a coding: what it makes of the input that is still to come.
use Rattle.std.specs.Prelude.{◌≡◌, ℕ, ◌-◌, Bool, List, [], ◌∷◌, ◌++◌, length, take, drop, if◌then◌else◌}
use Rattle.http_bodies.specs.Parts.{next, told, is_over}
use Rattle.http_bodies.specs.declared.coding.Coding.{Coding}
use Rattle.http_bodies.specs.declared.coding.Coding.TheVariants.{Length, ToEnd, Chunked}
use Rattle.http_bodies.specs.declared.coding.Part.{Part}
use Rattle.http_bodies.specs.declared.coding.Part.TheVariants.{Digits}
use Rattle.http_bodies.specs.declared.framing.Framing.{Framing}
use Rattle.http_bodies.specs.declared.framing.Framing.TheVariants as Framed

-- the text that is written, the input after the body, and the coding that is left
pub record Reading : Type 0 where
  pub text : List ℕ
  pub rest : List ℕ
  pub coding : Coding

abbrev pub reading : List ℕ → List ℕ → Coding → Reading
reading text rest coding = record { text = text; rest = rest; coding = coding }

-- the same reading, after a text that was written before
abbrev pub behind : List ℕ → Reading → Reading
behind given r = reading (given ++ r.text) r.rest r.coding

-- what is made of a chunked body
abbrev pub read_parts : Bool → Part → List ℕ → Reading
read_parts framed part [] = reading [] [] (Chunked framed part)
read_parts framed part (b ∷ input) =
    if is_over part then reading [] (b ∷ input) (Chunked framed part)
    else behind (told framed part b) (read_parts framed (next part b) input)

-- the meaning of a coding: what it makes of an input that is still to come
abbrev pub read : Coding → List ℕ → Reading
read (Length left) input = reading (take left input) (drop left input) (Length (left - length input))
read ToEnd input = reading input [] ToEnd
read (Chunked framed part) input = read_parts framed part input

-- The derivative: the coding `old` takes these bytes, writes this text and becomes `new`. Whatever
-- input follows, `old` makes of the bytes and the input what `new` makes of the input, after the
-- text.
pub record Feeds (old new : Coding) (taken given : List ℕ) : Type 0 where
  pub goes_on : (more : List ℕ) → read old (taken ++ more) ≡ behind given (read new more)

-- the coding takes these bytes, and their text is put after what waits
pub record Hands (old new : Coding) (taken before waiting : List ℕ) : Type 0 where
  pub given : List ℕ
  pub waits : waiting ≡ before ++ given
  pub feeds : Feeds old new taken given

-- the coding of a body of this framing at its beginning
abbrev pub start_of : Framing → Bool → Coding
start_of Framed.Empty framed = Length 0
start_of (Framed.Length count) framed = Length count
start_of Framed.Chunked framed = Chunked framed (Digits 0 0)
start_of Framed.ToEnd framed = ToEnd
