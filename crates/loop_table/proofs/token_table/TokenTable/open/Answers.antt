use Rattle.std.proofs.Common.{sym, arith}
use Rattle.std.proofs.lemmas.Option.{slice_get_read}
use Rattle.loop_table.proofs.Tabled.{first_among, low_generation, cells_opened, vacant, out_opened}
use Rattle.loop_table.proofs.token_table.TokenTable.open.Goals as goal

pub index-generation-requires : goal.index-generation-requires
index-generation-requires g c = let low = low_generation _ _ _ c.self.invariant _ (first_among _ _ c.in-Some.ensures.first) in omega arith

pub remove-requires : goal.remove-requires
remove-requires g c = first_among _ _ c.in-Some.ensures.first

pub invariant_of-result : goal.invariant_of-result
invariant_of-result g c =
    let among = first_among _ _ c.in-Some.ensures.first in
    let few = c.self.invariant.few in
    let low = c.self.invariant.free_below _ among in
    let at = slice_get_read _ _ _ _ (sym c.self.invariant.generations_room) low c.index-generation.ensures in
    record { index_fits = omega arith; generation_fits = c.self.invariant.free_young _ _ among at }

pub invariant_of-self : goal.invariant_of-self
invariant_of-self g c =
    rw c.remove.ensures (cells_opened _ _ _ c.self.invariant c.in-Some.cell (first_among _ _ c.in-Some.ensures.first))

pub returns-clause-token : goal.returns-clause-token
returns-clause-token g c =
    let among = first_among _ _ c.in-Some.ensures.first in
    vacant c.self.inside.values.items c.self.inside.generations.items c.self.inside.free _ c.self.view_is _
    (slice_get_read _ _ _ _ (sym c.self.invariant.generations_room) (c.self.invariant.free_below _ among) c.index-generation.ensures)
    among

pub returns-clause-out : goal.returns-clause-out
returns-clause-out g c =
    let among = first_among _ _ c.in-Some.ensures.first in
    rw c.remove.ensures (out_opened _ _ _ c.self.invariant _ among
    (slice_get_read _ _ _ _ (sym c.self.invariant.generations_room) (c.self.invariant.free_below _ among) c.index-generation.ensures))
