use Rattle.std.proofs.Common.{◌<◌, ◌-◌, length, get_or, arith}
use Rattle.proxy_words.proofs.Values.{value_of-drop, digit_below, room_for_digit, pow-digit}
use Rattle.proxy_words.proofs.numerals.value.Goals as goal

pub overflow_mul-n : goal.overflow_mul-n
overflow_mul-n c =
    omega (
      arith,
      room_for_digit c.loop-digit.n c.loop-digit.digit-index
          (length c.args.digits.now) c.loop-digit.invariant.small c.loop-digit-test.true c.requires.short,
    )

pub overflow_add-n : goal.overflow_add-n
overflow_add-n c =
    let digit : get_or c.args.digits.now c.loop-digit.digit-index 0 - 48 < 10 =
    digit_below c.args.digits.now c.loop-digit.digit-index c.requires.digits c.loop-digit-test.true in
    omega (
      arith,
      c.from.ensures,
      room_for_digit c.loop-digit.n c.loop-digit.digit-index
          (length c.args.digits.now) c.loop-digit.invariant.small c.loop-digit-test.true c.requires.short,
    )

pub loop-digit-preserved : goal.loop-digit-preserved
loop-digit-preserved c =
    let digit : get_or c.args.digits.now c.loop-digit.digit-index 0 - 48 < 10 =
    digit_below c.args.digits.now c.loop-digit.digit-index c.requires.digits c.loop-digit-test.true in
    rw c.from.ensures record {
      value = value_of-drop c.args.digits.now c.loop-digit.digit-index c.loop-digit.n c.loop-digit-test.true c.loop-digit.invariant.value;
      small = pow-digit c.loop-digit.n _ c.loop-digit.digit-index c.loop-digit.invariant.small digit;
    }
