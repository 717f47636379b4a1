-- Texts escaped for XML.
use Rattle.std.specs.Prelude.{ℕ, List, [], ◌∷◌, ◌==◌, if◌then◌else◌, codes}
use Rattle.std.specs.List.{flat_map}

-- the entity of a byte that has a meaning in XML, and any other byte itself
abbrev pub escaped_byte : ℕ → List ℕ
escaped_byte byte =
    if byte == 34 then codes "&quot;" else
    if byte == 38 then codes "&amp;" else
    if byte == 39 then codes "&#39;" else
    if byte == 60 then codes "&lt;" else
    if byte == 62 then codes "&gt;" else byte ∷ []

abbrev pub escaped : List ℕ → List ℕ
escaped text = flat_map escaped_byte text
