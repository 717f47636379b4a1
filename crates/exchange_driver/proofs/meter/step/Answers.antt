use Rattle.std.proofs.Common.{◌≡◌, ◌≤◌, ◌<◌, suc, arith}
use Rattle.std.proofs.lemmas.Grind.{common_steps}
use Rattle.exchange_driver.specs.Meters.{appended, digit_of}
use Rattle.exchange_driver.proofs.Statuses.{line_in_digits}
use Rattle.exchange_driver.proofs.meter.step.Goals as goal

pub returns-then-next-lt-STATUS_END : goal.returns-then-next-lt-STATUS_END
returns-then-next-lt-STATUS_END c more =
    let next : c.saturating_add-next.result ≡ suc c.in-Line-2.at = omega arith in
    let same : c.in-Line-2.at ≡ c.in-Line.at = cc in
    let begun : 9 ≤ c.in-Line-2.at = omega arith in
    let ends : suc c.in-Line-2.at < 12 = omega arith in
    let digit : c.min-digit.result ≡ digit_of c.args.byte = grind (arith, common_steps) in
    let status : c.saturating_add-status.result ≡ appended c.in-Line-2.status c.args.byte = omega arith in
    rw (next, status, c.in-Line-2.is) (line_in_digits c.in-Line-2.at c.in-Line-2.status c.args.byte more begun ends)
