-- A text that is written piece by piece.
use Rattle.std.proofs.Common.{◌≡◌, ℕ, ◌+◌, ◌-◌, ◌≤◌, ◌<◌, List, ◌++◌, length, take, drop, Option, sym, ap, ◌∙◌, subst, take-append-drop, arith}
use Rattle.std.proofs.lemmas.List.{take-take, length-drop}
use Rattle.std.proofs.Math.Seq.{take-add}
use Rattle.std.proofs.KnownBytes.{Appends-trans}
use Rattle.std.specs.Io.KnownBytes.{Appends}
use Rattle.replay.specs.Transfers.{WritesFront}

-- this many more bytes of the rest
pub front_more : (text : List ℕ) (at count : ℕ) → count ≤ length text - at
    → take at text ++ take count (take (length text - at) (drop at text)) ≡ take (at + count) text
front_more text at count within = ap (λ (l : List ℕ). take at text ++ l) (take-take count (length text - at) (drop at text) within)
    ∙ sym (take-add at count text)

pub written_more : (a b c : Option (List ℕ)) (text : List ℕ) (at count : ℕ) → count ≤ length text - at → Appends a b (take at text)
    → Appends b c (take count (take (length text - at) (drop at text))) → Appends a c (take (at + count) text)
written_more a b c text at count within before more = subst (Appends a c) (front_more text at count within) (Appends-trans a b c (take at text) _ before more)

pub front_written : (a b : Option (List ℕ)) (text : List ℕ) (at : ℕ) → at < length text → Appends a b (take at text) → WritesFront a b text
front_written a b text at below written = (take at text, drop at text, written, sym (take-append-drop at text), omega (arith, below, length-drop at text))
