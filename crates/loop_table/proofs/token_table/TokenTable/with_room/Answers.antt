use Rattle.std.proofs.Common.{◌≡◌, ◌<◌, Contains, ℕ, List, replicate, ap, ◌∙◌, subst, arith}
use Rattle.loop_table.specs.TokenTables.{below}
use Rattle.loop_table.proofs.Tabled.{below_low, table_fresh}
use Rattle.loop_table.proofs.token_table.TokenTable.with_room.Goals as goal

pub append-requires-clause-absent : goal.append-requires-clause-absent
append-requires-clause-absent g c =
    λ among.
    let low : c.loop-index.index < c.loop-index.index =
    below_low c.loop-index.index c.loop-index.index (subst (λ (l : List ℕ). Contains l c.loop-index.index) c.loop-index.invariant.places among) in
    absurd (omega (arith, low))

pub invariant_of-result : goal.invariant_of-result
invariant_of-result g c =
    let all : c.loop-index.index ≡ c.args.room = omega arith in
    table_fresh c.loop-index.free _ _ c.args.room c.requires c.in_ok-empty.ensures
    (c.loop-index.invariant.generations ∙ ap (λ n. replicate n 0) all) (c.loop-index.invariant.places ∙ ap below all) c.loop-index.invariant.room
