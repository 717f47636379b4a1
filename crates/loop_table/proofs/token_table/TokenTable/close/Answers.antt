use Rattle.std.proofs.lemmas.Option.{slice_get_within}
use Rattle.loop_table.proofs.Tabled.{cells_freed, cells_spent, closed_free, closed_spent, gone_on, gone_now, out_taken, out_empty}
use Rattle.loop_table.proofs.token_table.TokenTable.close.Goals as goal

pub invariant_of-self : goal.invariant_of-self
invariant_of-self g c =
    let out = c.is_out.ensures.0 c.if-is_out.true in
    let empty = out_empty c.self.inside.values.items c.self.inside.generations.items c.self.inside.free _ c.self.view_is _ out in
    let taken = out_taken c.self.inside.values.items c.self.inside.generations.items c.self.inside.free _ c.self.view_is _ out in
    rw c.append.ensures (cells_freed _ _ _ c.self.invariant _ _ (slice_get_within _ _ _ empty) c.if-times-lt-GENERATIONS.true taken empty)

pub invariant_of-self-else-times-lt-GENERATIONS : goal.invariant_of-self-else-times-lt-GENERATIONS
invariant_of-self-else-times-lt-GENERATIONS g c =
    cells_spent _ _ _ c.self.invariant _ _ (out_taken c.self.inside.values.items c.self.inside.generations.items c.self.inside.free _ c.self.view_is _ (c.is_out.ensures.0 c.if-is_out.true))

pub returns-then-times-lt-GENERATIONS-clause-closed : goal.returns-then-times-lt-GENERATIONS-clause-closed
returns-then-times-lt-GENERATIONS-clause-closed g c =
    λ out.
    rw c.append.ensures (
      closed_free c.self.inside.values.items c.self.inside.generations.items c.self.inside.free _ c.self.view_is c.args.hole.token c.if-times-lt-GENERATIONS.true,
      gone_now c.self.inside.values.items c.self.inside.generations.items c.self.inside.free _ c.self.view_is c.args.hole.token _ out.now,
    )

pub returns-then-times-lt-GENERATIONS-clause-gone : goal.returns-then-times-lt-GENERATIONS-clause-gone
returns-then-times-lt-GENERATIONS-clause-gone g c =
    λ other gone. gone_on c.self.inside.values.items c.self.inside.generations.items c.self.inside.free _ c.self.view_is c.args.hole.token other _ (c.is_out.ensures.0 c.if-is_out.true).now gone

pub returns-else-times-lt-GENERATIONS-clause-closed : goal.returns-else-times-lt-GENERATIONS-clause-closed
returns-else-times-lt-GENERATIONS-clause-closed g c =
    λ out. (
      closed_spent c.self.inside.values.items c.self.inside.generations.items c.self.inside.free _ c.self.view_is c.args.hole.token c.if-times-lt-GENERATIONS.false,
      gone_now c.self.inside.values.items c.self.inside.generations.items c.self.inside.free _ c.self.view_is c.args.hole.token _ out.now,
    )

pub returns-else-times-lt-GENERATIONS-clause-gone : goal.returns-else-times-lt-GENERATIONS-clause-gone
returns-else-times-lt-GENERATIONS-clause-gone g c =
    λ other gone. gone_on c.self.inside.values.items c.self.inside.generations.items c.self.inside.free _ c.self.view_is c.args.hole.token other _ (c.is_out.ensures.0 c.if-is_out.true).now gone
