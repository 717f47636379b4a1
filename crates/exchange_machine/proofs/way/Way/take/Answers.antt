use Rattle.exchange_machine.proofs.WayLemmas.{hears_more}
use Rattle.exchange_machine.proofs.way.Way.take.Goals as goal

pub returns-clause-hears : goal.returns-clause-hears
returns-clause-hears c start text came went h = hears_more h c.feed.ensures.hands

pub returns-clause-grows : goal.returns-clause-grows
returns-clause-grows c = record { rest = c.feed.ensures.hands.given; is = c.feed.ensures.hands.waits }
