use Rattle.std.proofs.Common.{◌≡◌, slice_get, Some, None, subst, sym, arith}
use Rattle.std.proofs.lemmas.Option.{slice_get_read}
use Rattle.loop_table.proofs.Tabled.{first_among, low_generation, cells_given, vacant}
use Rattle.loop_table.specs.TokenTables.{Table}
use Rattle.loop_table.proofs.token_table.TokenTable.put.Goals as goal

pub index-generation-requires : goal.index-generation-requires
index-generation-requires g c = let low = low_generation _ _ _ c.self.invariant _ (first_among _ _ c.in-Some.ensures.first) in omega arith

pub remove-requires : goal.remove-requires
remove-requires g c = first_among _ _ c.in-Some.ensures.first

pub fill-requires : goal.fill-requires
fill-requires g c = c.self.invariant.free_empty _ (first_among _ _ c.in-Some.ensures.first)

pub invariant_of-result : goal.invariant_of-result
invariant_of-result g c =
    let among = first_among _ _ c.in-Some.ensures.first in
    let few = c.self.invariant.few in
    let low = c.self.invariant.free_below _ among in
    let at = slice_get_read _ _ _ _ (sym c.self.invariant.generations_room) low c.index-generation.ensures in
    record { index_fits = omega arith; generation_fits = c.self.invariant.free_young _ _ among at }

pub invariant_of-self : goal.invariant_of-self
invariant_of-self g c =
    let among = first_among _ _ c.in-Some.ensures.first in
    let it = cells_given _ _ _ c.self.invariant c.in-Some.index c.args.value among in
    rw (c.remove.ensures, c.fill.ensures) it

pub returns-clause-token : goal.returns-clause-token
returns-clause-token g c =
    let among = first_among _ _ c.in-Some.ensures.first in
    vacant c.self.inside.values.items c.self.inside.generations.items c.self.inside.free _ c.self.view_is _
    (slice_get_read _ _ _ _ (sym c.self.invariant.generations_room) (c.self.invariant.free_below _ among) c.index-generation.ensures)
    among

pub returns-clause-empty : goal.returns-clause-empty
returns-clause-empty g c =
    let among = first_among _ _ c.in-Some.ensures.first in
    subst (λ (t : Table g.row.T.Denot). slice_get t.values c.in-Some.index ≡ Some None) c.self.view_is (c.self.invariant.free_empty _ among)
