use Rattle.std.proofs.Common.{◌++◌, codes, ap}
use Rattle.log_texts.specs.Traces.{pin_text}
use Rattle.log_texts.proofs.Growing.{failed_first, failed_last, told_as}
use Rattle.log_texts.proofs.trace.push_arrival.Goals as goal

pub returns-in_err-push_arrived-clause-err : goal.returns-in_err-push_arrived-clause-err
returns-in_err-push_arrived-clause-err c = failed_first _ _ _ _ c.in_err-push_arrived.ensures.err

pub returns-clause-err : goal.returns-clause-err
returns-clause-err c = failed_last _ _ _ _ _ c.in_ok-push_arrived.ensures.ok (told_as _ _ _ _ _ (ap (λ p. pin_text c.args.names.now p ++ codes "\n") c.pin-pin.ensures) c.push_pin.ensures.err)
