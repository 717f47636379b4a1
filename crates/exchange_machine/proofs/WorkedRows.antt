-- What a call changes of an exchange with both sides active, at worked examples: what must hold, and
-- what must not.
use Rattle.std.proofs.Common.{◌≡◌, true, false, [], ◌∷◌, refl}
use Rattle.exchange_machine.specs.Changes.{begun_after, left_after, looks_again, Uses}
use Rattle.exchange_machine.specs.declared.forwarding.Forwarding.{Forwarding}

-- the client took the last byte of a `100` of 25 bytes, or one byte more
leave_alone : begun_after false 25 25 ≡ false
leave_alone = refl

one_byte_more : begun_after false 25 26 ≡ true
one_byte_more = refl

none_left : left_after 25 26 ≡ 0
none_left = refl

-- a line ended; none did; none did, and no more bytes are held than these
line_ended : looks_again false (72 ∷ 10 ∷ []) 2 ≡ true
line_ended = refl

no_line_ended : looks_again false (72 ∷ []) 1 ≡ false
no_line_ended = refl

held_is_full : looks_again false (72 ∷ []) 16384 ≡ true
held_is_full = refl

-- who used bytes has the same pass as before, and took the client no further
uses_none : (p : Forwarding) → Uses p p
uses_none p = refl

begins_nothing : (p : Forwarding) → p.begun ≡ false → ¬ (Uses p (record p { begun = true }))
begins_nothing p none uses = differ none (begun_is uses)
  where
    begun_is : Uses p (record p { begun = true }) → true ≡ p.begun
    begun_is is = cc

    differ : p.begun ≡ false → true ≡ p.begun → ⊥
    differ is other = cc
