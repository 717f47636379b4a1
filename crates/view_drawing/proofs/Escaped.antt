-- A sign's bytes, escaped.
use Rattle.std.proofs.Common.{codes, ◌≢◌, ◌≡◌, ℕ, suc, ◌<◌, ◌≤◌, List, [], ◌∷◌, ◌++◌, length, get_or}
use Rattle.std.proofs.Common.{refl, sym, ap, ap₂, ◌∙◌, arith, append-nil, append_assoc, inl, inr}
use Rattle.std.proofs.lemmas.Bool.{cases_lt}
use Rattle.std.proofs.lemmas.Str.{encode_ascii, inside_one, encodes-append}
use Rattle.std.proofs.lemmas.Grind.{flat_map-append}
use lib.Utf8.{encode, encodes}
use Rattle.view_drawing.specs.Escapes.{escaped_byte, escaped}

-- a byte without a meaning stays
plain : (byte : ℕ) → byte ≢ 34 → byte ≢ 38 → byte ≢ 39 → byte ≢ 60 → byte ≢ 62 → escaped_byte byte ≡ byte ∷ []
plain byte a b c d e = grind (arith, escaped_byte)

stays : (bytes : List ℕ) → ((k : ℕ) → k < length bytes → 128 ≤ get_or bytes k 0) → escaped bytes ≡ bytes
stays [] high = refl
stays (byte ∷ bytes) high =
    let first : 128 ≤ byte = high 0 (omega arith) in
    ap₂ (λ (a b : List ℕ). a ++ b) (plain byte (λ e. omega arith) (λ e. omega arith) (λ e. omega arith) (λ e. omega arith) (λ e. omega arith))
    (stays bytes (λ k below. high (suc k) (omega arith)))

-- a sign without a meaning stays
pub sign_stays : (sign : ℕ) → sign ≢ 34 → sign ≢ 38 → sign ≢ 39 → sign ≢ 60 → sign ≢ 62 → escaped (encode sign) ≡ encode sign
sign_stays sign a b c d e = elim (cases_lt sign 128) [
  | inl small ↦ ap escaped (encode_ascii sign small) ∙ (ap (λ l. l ++ []) (plain sign a b c d e) ∙ sym (encode_ascii sign small))
  | inr big ↦ stays (encode sign) (λ k below. elim (cases_lt (get_or (encode sign) k 0) 128) [
    | inl low ↦ absurd (omega (arith, inside_one sign [] (encode sign) k (sym (append-nil _)) below low))
    | inr high ↦ high
  ])
]

-- one sign more behind those that were escaped
pub one_more : (front signs : List ℕ) (sign : ℕ) → (front ++ escaped (encodes signs)) ++ escaped (encode sign) ≡ front ++ escaped (encodes (signs ++ sign ∷ []))
one_more front signs sign =
    append_assoc front (escaped (encodes signs)) (escaped (encode sign)) ∙ ap (λ l. front ++ l) (
    sym (flat_map-append escaped_byte (encodes signs) (encode sign)) ∙
    ap escaped (ap (λ l. encodes signs ++ l) (sym (append-nil (encode sign))) ∙ sym (encodes-append signs (sign ∷ [])))
    )

pub quote : escaped (encode 34) ≡ codes "&quot;"
unfolding encode
quote = refl

pub ampersand : escaped (encode 38) ≡ codes "&amp;"
unfolding encode
ampersand = refl

pub apostrophe : escaped (encode 39) ≡ codes "&#39;"
unfolding encode
apostrophe = refl

pub less : escaped (encode 60) ≡ codes "&lt;"
unfolding encode
less = refl

pub greater : escaped (encode 62) ≡ codes "&gt;"
unfolding encode
greater = refl
