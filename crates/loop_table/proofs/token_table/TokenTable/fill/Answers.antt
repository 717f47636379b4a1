use Rattle.loop_table.proofs.Tabled.{cells_written, out_taken}
use Rattle.loop_table.proofs.token_table.TokenTable.fill.Goals as goal

pub invariant_of-self : goal.invariant_of-self
invariant_of-self g c =
    let out = c.is_out.ensures.0 c.if-not-is_out.false in
    rw c.fill.ensures (cells_written _ _ _ c.self.invariant _ _ (out_taken c.self.inside.values.items c.self.inside.generations.items c.self.inside.free _ c.self.view_is _ out))
