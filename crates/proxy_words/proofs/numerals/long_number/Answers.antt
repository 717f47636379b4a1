use Rattle.std.proofs.Common.{length}
use Rattle.proxy_words.proofs.Values.{more_digits}
use Rattle.proxy_words.proofs.numerals.long_number.Goals as goal

pub returns-then-is_number-clause-small : goal.returns-then-is_number-clause-small
returns-then-is_number-clause-small c =
    more_digits c.value.result (length c.args.word.now) 18 c.value.ensures.small (c.is_number.ensures.short c.if-is_number.true)
