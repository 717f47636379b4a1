use Rattle.std.proofs.Common.{◌≡◌, subst}
use Rattle.loop_shared.specs.Outsides.{HasGone}
use Rattle.loop_shared.specs.declared.outside.Outside.{Outside}
use Rattle.loop_shared.proofs.outside.Outside.take_first.Goals as goal

pub returns-clause-some : goal.returns-clause-some
returns-clause-some c = (
  c.in_ok-token.field-0-0,
  c.in_ok-token.token,
  c.in_ok-token.ensures.some,
  subst (λ (it : Outside). HasGone it c.take.new.self c.in_ok-token.token c.in_ok-outsider.outsider) c.in_ok-token.ensures.same c.in_ok-outsider.ensures.some,
)
