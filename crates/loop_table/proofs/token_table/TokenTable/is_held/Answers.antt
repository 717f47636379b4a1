use Rattle.std.proofs.Common.{refl}
use Rattle.std.proofs.lemmas.Option.{slice_get_read}
use Rattle.loop_table.proofs.Tabled.{held_yes, held_others, within_now}
use Rattle.loop_table.proofs.token_table.TokenTable.is_held.Goals as goal

pub returns-then-is_now-clause-yes : goal.returns-then-is_now-clause-yes
returns-then-is_now-clause-yes g c =
    let now = c.is_now.ensures.now.0 c.if-is_now.true in
    let at = slice_get_read _ _ _ _ refl (within_now c.self.inside.values.items c.self.inside.generations.items c.self.inside.free _ c.self.view_is c.self.invariant c.args.token now) c.index.ensures in
    held_yes c.self.inside.values.items c.self.inside.generations.items c.self.inside.free _ c.self.view_is c.args.token c.index.result.now _ now at c.is_some.ensures

pub returns-then-is_now-clause-others : goal.returns-then-is_now-clause-others
returns-then-is_now-clause-others g c =
    let now = c.is_now.ensures.now.0 c.if-is_now.true in
    let at = slice_get_read _ _ _ _ refl (within_now c.self.inside.values.items c.self.inside.generations.items c.self.inside.free _ c.self.view_is c.self.invariant c.args.token now) c.index.ensures in
    held_others c.self.inside.values.items c.self.inside.generations.items c.self.inside.free _ c.self.view_is c.args.token c.index.result.now _ at c.is_some.ensures
