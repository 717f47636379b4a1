use Rattle.std.proofs.Common.{refl, arith}
use Rattle.exchange_driver.proofs.Moving.{drives_none}
use Rattle.exchange_driver.proofs.Telling.{driven_none}
use Rattle.exchange_driver.proofs.Standing.{answered_none}
use Rattle.exchange_driver.proofs.driving.move_up.Goals as goal

pub returns-then-not-is_full-clause-rests : goal.returns-then-not-is_full-clause-rests
returns-then-not-is_full-clause-rests g c e = absurd (c.write_server.ensures.moves e)

pub returns-then-not-is_full-clause-quiet : goal.returns-then-not-is_full-clause-quiet
returns-then-not-is_full-clause-quiet g c e = absurd (c.write_server.ensures.moves e)

pub returns-then-not-wants-clause-at : goal.returns-then-not-wants-clause-at
returns-then-not-wants-clause-at g c h is = rw (c.rests.ensures.exchange, c.rests.ensures.outcome, c.rests.ensures.did)
    (drives_none _ _ h c.args.exchange is)

pub returns-then-not-is_empty-clause-rests : goal.returns-then-not-is_empty-clause-rests
returns-then-not-is_empty-clause-rests g c e = absurd (c.use_client.ensures.moves e)

pub returns-then-not-is_empty-clause-quiet : goal.returns-then-not-is_empty-clause-quiet
returns-then-not-is_empty-clause-quiet g c e = absurd (c.use_client.ensures.moves e)

pub returns-then-is_dry-clause-at : goal.returns-then-is_dry-clause-at
returns-then-is_dry-clause-at g c h is = rw (c.rests-then-is_dry.ensures.exchange, c.rests-then-is_dry.ensures.outcome, c.rests-then-is_dry.ensures.did)
    (drives_none _ _ h c.args.exchange is)

pub returns-clause-rests : goal.returns-clause-rests
returns-clause-rests g c e = absurd (c.read_client.ensures.moves e)

pub returns-clause-quiet : goal.returns-clause-quiet
returns-clause-quiet g c e = absurd (c.read_client.ensures.moves e)

pub returns-then-not-wants-clause-driven : goal.returns-then-not-wants-clause-driven
returns-then-not-wants-clause-driven g c =
    (0, rw (c.rests.ensures.exchange, c.rests.ensures.outcome) (driven_none _ _ _ c.args.exchange), omega arith, λ moves. absurd (moves c.rests.ensures.did))

pub returns-then-is_dry-clause-driven : goal.returns-then-is_dry-clause-driven
returns-then-is_dry-clause-driven g c =
    (0, rw (c.rests-then-is_dry.ensures.exchange, c.rests-then-is_dry.ensures.outcome) (driven_none _ _ _ c.args.exchange), omega arith, λ moves. absurd (moves c.rests-then-is_dry.ensures.did))

pub returns-then-not-is_full-clause-client : goal.returns-then-not-is_full-clause-client
returns-then-not-is_full-clause-client g c = answered_none _

pub returns-then-not-wants-clause-client : goal.returns-then-not-wants-clause-client
returns-then-not-wants-clause-client g c = answered_none _

pub returns-then-not-wants-clause-server : goal.returns-then-not-wants-clause-server
returns-then-not-wants-clause-server g c = answered_none _

pub returns-then-not-is_empty-clause-server : goal.returns-then-not-is_empty-clause-server
returns-then-not-is_empty-clause-server g c = answered_none _

pub returns-then-is_dry-clause-client : goal.returns-then-is_dry-clause-client
returns-then-is_dry-clause-client g c = answered_none _

pub returns-then-is_dry-clause-server : goal.returns-then-is_dry-clause-server
returns-then-is_dry-clause-server g c = answered_none _

pub returns-clause-server : goal.returns-clause-server
returns-clause-server g c = answered_none _

pub returns-then-not-is_full-clause-driven : goal.returns-then-not-is_full-clause-driven
returns-then-not-is_full-clause-driven g c = (1, c.write_server.ensures.driven, omega arith, λ moves. refl)

pub returns-then-not-is_empty-clause-driven : goal.returns-then-not-is_empty-clause-driven
returns-then-not-is_empty-clause-driven g c = (1, c.use_client.ensures.driven, omega arith, λ moves. refl)

pub returns-clause-driven : goal.returns-clause-driven
returns-clause-driven g c = (1, c.read_client.ensures.driven, omega arith, λ moves. refl)
