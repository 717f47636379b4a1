-- Where there is no room for the text of the input's next byte.
use Rattle.std.proofs.Common.{◌≡◌, ◌⊎◌, ◌-◌, ◌<◌, ◌≤◌, ◌==◌, ℕ, false, zero, suc, List, [], ◌∷◌, length, drop, take}
use Rattle.std.proofs.Common.{refl, sym, ap, arith, length-append, length-drop, inl, inr}
use Rattle.std.proofs.lemmas.Bool.{false≢true}
use Rattle.http_bodies.specs.Readings.{read}
use Rattle.http_bodies.specs.Stops.{LacksRoom}
use Rattle.http_bodies.specs.declared.coding.Coding.{Coding}
use Rattle.http_bodies.specs.declared.outbox.TheConstants.{OUTBOX_BYTES}

-- where a byte is its own text, one byte more has no room behind what fills it
pub no_room : (c : Coding) (input waiting : List ℕ) (count : ℕ) → ((b : ℕ) → (read c (b ∷ [])).text ≡ b ∷ []) → count ≤ length input
    → (count < length input → OUTBOX_BYTES ≤ length waiting) → (count ≡ length input) ⊎ LacksRoom c waiting (drop count input)
no_room c input waiting count one within full = by_rest (drop count input) (length-drop count input)
  where
    by_rest : (rest : List ℕ) → length rest ≡ length input - count → (count ≡ length input) ⊎ LacksRoom c waiting rest
    by_rest [] e = inl (omega (arith, e, within))
    by_rest (b ∷ rest) e =
        inr (omega (arith, full (omega (arith, e)), ap (length {A = ℕ}) (one b), length-append waiting (read c (b ∷ [])).text))

none_of_none : (count : ℕ) → take {A = ℕ} count [] ≡ []
none_of_none zero = refl
none_of_none (suc count) = refl

-- a byte of a length that isn't used up is its own text
pub one_byte : (left b : ℕ) → (left == 0) ≡ false → take left (b ∷ []) ≡ b ∷ []
one_byte zero b some = absurd (false≢true (sym some))
one_byte (suc left) b some = ap (λ l. b ∷ l) (none_of_none left)

pub some_left : (left : ℕ) → (left == 0) ≡ false → 0 < left
some_left zero some = absurd (false≢true (sym some))
some_left (suc left) some = omega arith
