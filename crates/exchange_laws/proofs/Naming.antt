-- The text of a client's address is a field's value, and values that were trimmed once stay as they are.
use Rattle.std.proofs.Common.{◌≡◌, ◌∙◌, ℕ, zero, suc, ◌^◌, ◌<◌, Bool, true, false, IsTrue, List, [], ◌∷◌, ◌++◌, get_or, take, drop, reverse, codes, refl, sym, ap, arith, subst}
use Rattle.std.specs.List.{AllByRecursion}
use Rattle.std.specs.Str.{bytes_eq}
use Rattle.std.specs.Net.Addr.{octets_of}
use Rattle.std.specs.Net.Text.{ip_text, ipv4_text, ipv6_text, hex_groups_text}
use Rattle.std.specs.declared.net.ip_addr.IpAddr.{IpAddr}
use Rattle.std.specs.declared.net.ip_addr.IpAddr.TheVariants as Ip
use Rattle.std.proofs.NetLemmas.Alphabet.{IsDigitOrDot, IsHexOrColon, All-ipv4_text, All-hex_groups_text}
use Rattle.std.proofs.NetLemmas.Texts.{AllSegments, AllSegments-drop}
use Rattle.std.proofs.lemmas.Bool.{cond_both}
use Rattle.std.proofs.lemmas.Bool.Decides.{nat_tests}
use Rattle.std.proofs.lemmas.List.{reverse-append, reverse-reverse}
use Rattle.std.proofs.lemmas.List.Elements.{recursion_from_All}
use Rattle.httparse.specs.Grammar.{is_ows, is_value_byte, skip_ows, trim_ows}
use Rattle.httparse.proofs.TrimLemmas.{trim_ows_space}
use Rattle.base_lists.proofs.Members.{all_append, all_weaker}
use Rattle.exchange_laws.specs.Alike.{IsAddress}

-- part of a value, and no blank at its ends
abbrev pub IsPlain : ℕ → Type 0
IsPlain b = IsTrue (is_value_byte b) × (is_ows b ≡ false)

of_dotted : (b : ℕ) → IsDigitOrDot b → IsPlain b
of_dotted b is = (grind (arith, nat_tests), grind (arith, nat_tests))

of_hex : (b : ℕ) → IsHexOrColon b → IsPlain b
of_hex b is = (grind (arith, nat_tests), grind (arith, nat_tests))

octets_fit : (xs : List ℕ) → AllSegments xs → (k : ℕ) → get_or (octets_of xs) k 0 < 2 ^ 8
octets_fit [] h k = omega arith
octets_fit (x ∷ xs) h zero = omega (arith, h 0)
octets_fit (x ∷ xs) h (suc zero) = omega arith
octets_fit (x ∷ xs) h (suc (suc k)) = octets_fit xs (λ j. h (suc j)) k

plain_v4 : (o : List ℕ) → ((k : ℕ) → get_or o k 0 < 2 ^ 8) → AllByRecursion IsPlain (ipv4_text o)
plain_v4 o fits = all_weaker IsDigitOrDot IsPlain of_dotted (ipv4_text o) (recursion_from_All IsDigitOrDot (ipv4_text o) (All-ipv4_text o fits))

plain_v6 : (xs : List ℕ) → AllSegments xs → AllByRecursion IsPlain (ipv6_text xs)
unfolding ipv6_text
plain_v6 xs fits =
    let octets = octets_of (drop 6 xs) in
    let groups = all_weaker IsHexOrColon IsPlain of_hex (hex_groups_text xs) (recursion_from_All IsHexOrColon (hex_groups_text xs) (All-hex_groups_text xs fits)) in
    let mapped = all_append IsPlain (codes "::ffff:") (ipv4_text octets)
    ((refl, refl), ((refl, refl), ((refl, refl), ((refl, refl), ((refl, refl), ((refl, refl), ((refl, refl), tt)))))))
    (plain_v4 octets (octets_fit (drop 6 xs) (AllSegments-drop 6 xs fits))) in
    cond_both (bytes_eq (take 6 xs) (0 ∷ 0 ∷ 0 ∷ 0 ∷ 0 ∷ 0xffff ∷ [])) (codes "::ffff:" ++ ipv4_text octets) (hex_groups_text xs) (AllByRecursion IsPlain)
    (λ _. mapped) (λ _. groups)

pub plain_address : (a : IpAddr) → IsAddress a → AllByRecursion IsPlain (ip_text a)
plain_address (Ip.V4 a) is = plain_v4 a.octets is.1
plain_address (Ip.V6 a) is = plain_v6 a.segments is.1

-- blanks
skip_plain : (l : List ℕ) → AllByRecursion IsPlain l → skip_ows l ≡ l
skip_plain [] all = refl
skip_plain (b ∷ l) all = let e = all.0.1 in rw e refl

reverse_plain : (l : List ℕ) → AllByRecursion IsPlain l → AllByRecursion IsPlain (reverse l)
reverse_plain [] all = all
reverse_plain (b ∷ l) all =
    subst (AllByRecursion IsPlain) (sym (reverse-append (b ∷ []) l)) (all_append IsPlain (reverse l) (b ∷ []) (reverse_plain l all.1) (all.0, tt))

pub plain_trims : (l : List ℕ) → AllByRecursion IsPlain l → trim_ows (32 ∷ l) ≡ l
plain_trims l all = trim_ows_space l (skip_plain l all) (skip_plain (reverse l) (reverse_plain l all))

-- what is left begins with no blank
data Begins : List ℕ → Type 0 where
  nothing : Begins []
  plainly : (b : ℕ) (l : List ℕ) → is_ows b ≡ false → Begins (b ∷ l)

skipped_begins : (l : List ℕ) → Begins (skip_ows l)
skipped_begins [] = nothing
skipped_begins (b ∷ l) = go (is_ows b) refl (skipped_begins l)
  where
    go : (c : Bool) → is_ows b ≡ c → Begins (skip_ows l) → Begins (skip_ows (b ∷ l))
    go true e later = rw e later
    go false e later = rw e (plainly b l e)

begins_skips : (l : List ℕ) → Begins l → skip_ows l ≡ l
begins_skips [] nothing = refl
begins_skips (c ∷ m) (plainly b l e) = rw e refl

-- a front of it does so too
front_begins : (l rest : List ℕ) → Begins (l ++ rest) → Begins l
front_begins [] rest is = nothing
front_begins (c ∷ m) rest (plainly b l e) = plainly c m e

skip_splits : (l : List ℕ) → (blanks : List ℕ) × (l ≡ blanks ++ skip_ows l)
skip_splits [] = ([], refl)
skip_splits (b ∷ l) = go (is_ows b) refl (skip_splits l)
  where
    go : (c : Bool) → is_ows b ≡ c → (blanks : List ℕ) × (l ≡ blanks ++ skip_ows l) → (blanks : List ℕ) × (b ∷ l ≡ blanks ++ skip_ows (b ∷ l))
    go true e later = (b ∷ later.0, rw e (ap (λ m. b ∷ m) later.1))
    go false e later = ([], rw e refl)

trimmed_begins : (l : List ℕ) → Begins (trim_ows l)
unfolding trim_ows
trimmed_begins l =
    let m = skip_ows l in
    let split = skip_splits (reverse m) in
    let whole : m ≡ reverse (skip_ows (reverse m)) ++ reverse split.0 =
    sym (reverse-reverse m) ∙ ap reverse split.1 ∙ reverse-append split.0 (skip_ows (reverse m)) in
    front_begins (reverse (skip_ows (reverse m))) (reverse split.0) (subst Begins whole (skipped_begins l))

pub trims_once : (l : List ℕ) → trim_ows (32 ∷ trim_ows l) ≡ trim_ows l
unfolding trim_ows
trims_once l =
    let m = reverse (skip_ows l) in
    let behind : skip_ows (reverse (reverse (skip_ows m))) ≡ reverse (reverse (skip_ows m)) =
    ap skip_ows (reverse-reverse (skip_ows m)) ∙ begins_skips (skip_ows m) (skipped_begins m) ∙ sym (reverse-reverse (skip_ows m)) in
    trim_ows_space (trim_ows l) (begins_skips (trim_ows l) (trimmed_begins l)) behind
