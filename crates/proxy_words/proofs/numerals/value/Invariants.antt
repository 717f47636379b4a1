use Rattle.std.proofs.Common.{◌≡◌, ◌<◌, ◌+◌, ◌*◌, ◌^◌, length, drop}
use Rattle.proxy_words.specs.Numerals.{value_of}
use Rattle.proxy_words.proofs.numerals.value.Given as goal

-- what was read counts as many times more as digits are left
abbrev pub invariant-loop-digit : goal.invariant-loop-digit
invariant-loop-digit l =
    let left = drop l.digit-index l.digits in
    record {
      value : l.n * 10 ^ length left + value_of left ≡ value_of l.digits;
      small : l.n < 10 ^ l.digit-index;
    }
