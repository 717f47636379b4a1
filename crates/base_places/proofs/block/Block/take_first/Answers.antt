use Rattle.std.proofs.Common.{rules, ◌≢◌, ◌↔◌, ◌+◌, ◌-◌, bit_and, w64, subst, arith}
use Rattle.std.specs.Int.{trailing_zeros}
use Rattle.base_places.specs.Sets.{Ahead, HasAhead, IsFirstAhead}
use Rattle.base_places.proofs.Aheads.{first_ahead, later_ahead}
use Rattle.base_places.proofs.block.Block.take_first.Goals as goal

pub returns-clause-some : goal.returns-clause-some
returns-clause-some c =
    subst (λ (ahead : Ahead). IsFirstAhead ahead (c.self.inside.first + trailing_zeros w64 c.self.inside.bits)) c.self.view_is
    (first_ahead (record { first = c.self.inside.first; bits = c.self.inside.bits }) (omega (arith, c.if-self-eq0.false)) (search rules) c.self.invariant)

pub returns-clause-later : goal.returns-clause-later
returns-clause-later c place =
    subst (λ (ahead : Ahead). HasAhead (record { first = c.self.inside.first; bits = bit_and c.self.inside.bits (c.self.inside.bits - 1) }) place
    ↔ ((place ≢ c.self.inside.first + trailing_zeros w64 c.self.inside.bits) × HasAhead ahead place)) c.self.view_is
    (later_ahead (record { first = c.self.inside.first; bits = c.self.inside.bits }) (omega (arith, c.if-self-eq0.false)) (search rules) place)
