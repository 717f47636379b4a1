use Rattle.std.proofs.Common.{arith}
use Rattle.proxy_config.proofs.Dots.{ip-five}
use Rattle.std.proofs.lemmas.Grind.{common_steps}
use Rattle.proxy_config.proofs.addresses.ip.Goals as goal

pub returns-in-Some : goal.returns-in-Some
returns-in-Some c = ip-five c.args.word.now c.in_ok-first.first.now c.in_ok-first.rest.now c.in_ok-second.second.now c.in_ok-second.rest.now
    c.in_ok-third.third.now c.in_ok-third.fourth.now c.in-Some.field-0-0.now c.in-Some.field-0-1.now
    c.in_ok-first.ensures.some c.in_ok-second.ensures.some c.in_ok-third.ensures.some c.in-Some.ensures.some

pub returns-in_err-third : goal.returns-in_err-third
returns-in_err-third c = grind (arith, common_steps)
