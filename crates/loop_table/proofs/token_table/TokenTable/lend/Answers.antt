use Rattle.std.proofs.Common.{◌∙◌, ap, Some}
use Rattle.loop_table.proofs.Tabled.{cells_taken, unchanged, lent_now, held_taken}
use Rattle.loop_table.proofs.token_table.TokenTable.lend.Goals.{in-None, in-Some}
use Rattle.loop_table.proofs.token_table.TokenTable.lend.Goals as goal

pub invariant_of-self : goal.invariant_of-self
invariant_of-self g c = cells_taken _ _ _ c.self.invariant _ _ _ c.take.ensures.taken c.take.ensures.emptied

pub returns-clause-left : goal.returns-clause-left
returns-clause-left g c =
    elim c.match-take.branch [
      | in-None w ↦ rw w.result-is (unchanged c.self.inside.values.items c.self.inside.generations.items c.self.inside.free _ c.self.view_is _ _ (c.take.ensures.taken ∙ ap Some w.in-None.is) c.take.ensures.emptied)
      | in-Some w ↦
          let at = c.take.ensures.taken ∙ ap Some w.in-Some.is in
          let now = c.is_now.ensures.now.0 c.if-not-is_now.false in
          rw w.result-is
          (lent_now c.self.inside.values.items c.self.inside.generations.items c.self.inside.free _ c.self.view_is _ _ _ now at (held_taken _ _ _ c.self.invariant _ _ at) c.take.ensures.emptied)
    ]
