-- The states in which a coding takes no more bytes.
use Rattle.std.specs.Prelude.{◌≡◌, ◌==◌, ◌<◌, ℕ, Bool, true, false, List, [], ◌∷◌, ◌++◌, length}
use Rattle.http_bodies.specs.Readings.{read}
use Rattle.http_bodies.specs.declared.coding.Coding.{Coding}
use Rattle.http_bodies.specs.declared.coding.Coding.TheVariants.{Length, ToEnd, Chunked}
use Rattle.http_bodies.specs.declared.coding.Part.{Part}
use Rattle.http_bodies.specs.declared.coding.Part.TheVariants as Parts
use Rattle.http_bodies.specs.declared.feeding.State.{State}
use Rattle.http_bodies.specs.declared.feeding.State.TheVariants.{Hungry, Full, Done, Bad}
use Rattle.http_bodies.specs.declared.outbox.TheConstants.{OUTBOX_BYTES}

abbrev pub is_whole : Part → Bool
is_whole (Parts.Digits count size) = false
is_whole (Parts.Blank read size) = false
is_whole (Parts.Extension read size) = false
is_whole (Parts.Return size) = false
is_whole (Parts.Data left) = false
is_whole Parts.DataReturn = false
is_whole (Parts.Trailers left line) = false
is_whole Parts.Done = true
is_whole Parts.Bad = false

abbrev pub is_broken : Part → Bool
is_broken (Parts.Digits count size) = false
is_broken (Parts.Blank read size) = false
is_broken (Parts.Extension read size) = false
is_broken (Parts.Return size) = false
is_broken (Parts.Data left) = false
is_broken Parts.DataReturn = false
is_broken (Parts.Trailers left line) = false
is_broken Parts.Done = false
is_broken Parts.Bad = true

-- the body is whole
abbrev pub is_done : Coding → Bool
is_done (Length left) = left == 0
is_done ToEnd = false
is_done (Chunked framed part) = is_whole part

-- the bytes so far aren't the front of any body
abbrev pub is_bad : Coding → Bool
is_bad (Length left) = false
is_bad ToEnd = false
is_bad (Chunked framed part) = is_broken part

-- behind what waits there is no room for the text of the input's next byte
abbrev pub LacksRoom : Coding → List ℕ → List ℕ → Type 0
LacksRoom c waiting [] = ⊥
LacksRoom c waiting (b ∷ input) = OUTBOX_BYTES < length (waiting ++ (read c (b ∷ [])).text)

-- what a state says, where all input was taken or not
abbrev pub Tells : Coding → Bool → State → Type 0
Tells c all Hungry = (is_done c ≡ false) × (is_bad c ≡ false) × (all ≡ true)
Tells c all Full = (is_done c ≡ false) × (is_bad c ≡ false) × (all ≡ false)
Tells c all Done = is_done c ≡ true
Tells c all Bad = is_bad c ≡ true
