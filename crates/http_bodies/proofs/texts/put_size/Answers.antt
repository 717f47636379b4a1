use Rattle.std.proofs.Common.{◌∙◌, ◌^◌, ◌<◌, ◌≤◌, ◌==◌, ◌++◌, ◌∷◌, [], ℕ, Bool, true, false, if◌then◌else◌, map, length, ap, arith, length-append}
use Rattle.std.proofs.lemmas.List.{length-map}
use Rattle.std.proofs.lemmas.Int.Digits.{length-digits_of-le}
use Rattle.std.specs.Char.{digit_char}
use Rattle.std.specs.Int.Digits.{digits_of}
use Rattle.httparse.specs.Ascii.{crlf_bytes}
use Rattle.http1.specs.Text.{numeral}
use Rattle.http1.specs.Encoder.{prefix_for}
use Rattle.http1.specs.declared.encode.Encoder.TheVariants.{Chunked}
use Rattle.http_bodies.proofs.texts.put_size.Goals as goal

numeral_len : (size : ℕ) → size < 2 ^ 64 → length (numeral 16 size) ≤ 16
unfolding numeral
numeral_len size small = by_test (size == 0)
  where
    by_test : (t : Bool) → length (if t then 48 ∷ [] else map digit_char (digits_of 16 size)) ≤ 16
    by_test true = omega arith
    by_test false = omega (arith, length-map (digits_of 16 size) digit_char, length-digits_of-le 16 16 size (omega arith) (omega (arith, small)))

prefix_len : (size : ℕ) → size < 2 ^ 64 → length (prefix_for Chunked size) ≤ 18
prefix_len size small = by_test (size == 0)
  where
    by_test : (t : Bool) → length (if t then [] else numeral 16 size ++ crlf_bytes) ≤ 18
    by_test true = omega arith
    by_test false = omega (arith, numeral_len size small, length-append (numeral 16 size) crlf_bytes)

pub returns-clause-short : goal.returns-clause-short
returns-clause-short c full =
    omega (arith, c.put.ensures.room full, length-append c.args.out.now c.prefix.result.now, prefix_len c.args.size (omega arith), ap (length {A = ℕ}) (c.prefix.ensures ∙ c.in-Ok.ensures.prefix))
