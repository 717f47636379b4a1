use Rattle.exchange_machine.proofs.SideLemmas.{fresh_sound, asking_sound, waiting_sound, dialing_sound, forwarding_sound, leaving_sound}
use Rattle.exchange_machine.proofs.SettlingLemmas.{settling_sound}
use Rattle.exchange_machine.proofs.EventLemmas.{telling_over, over_sound}
use Rattle.exchange_machine.proofs.laws.what_holds.Goals as goal

pub returns-clause-telling : goal.returns-clause-telling
returns-clause-telling c t h is = over_sound h (telling_over t h is)

pub returns-clause-over : goal.returns-clause-over
returns-clause-over c = over_sound

pub returns-clause-asking : goal.returns-clause-asking
returns-clause-asking c = asking_sound

pub returns-clause-waiting : goal.returns-clause-waiting
returns-clause-waiting c = waiting_sound

pub returns-clause-dialing : goal.returns-clause-dialing
returns-clause-dialing c = dialing_sound

pub returns-clause-forwarding : goal.returns-clause-forwarding
returns-clause-forwarding c = forwarding_sound

pub returns-clause-leaving : goal.returns-clause-leaving
returns-clause-leaving c = leaving_sound

pub returns-clause-settling : goal.returns-clause-settling
returns-clause-settling c = settling_sound

pub returns-clause-unread : goal.returns-clause-unread
returns-clause-unread c fault h is = fresh_sound h is.fresh
