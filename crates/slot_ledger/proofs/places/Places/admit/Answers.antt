use Rattle.std.proofs.Common.{◌<◌, length, ap, sym, ◌∙◌, slice_get, arith}
use Rattle.std.proofs.lemmas.Option.{slice_get_within}
use Rattle.slot_ledger.proofs.Finding.{above_index}
use Rattle.slot_ledger.proofs.Indexing.{last_free, kept_push}
use Rattle.slot_ledger.proofs.places.Places.admit.Goals as goal

pub push-requires-clause-highest : goal.push-requires-clause-highest
push-requires-clause-highest g c = above_index _ _ _ _ _ c.args.row.key.ticket c.self.view_is c.self.invariant c.requires.highest

pub index_mut-requires : goal.index_mut-requires
index_mut-requires g c = let within : c.in-Some.place < length c.self.inside.cells.items =
    slice_get_within _ _ _ (last_free _ _ _ _ _ _ c.self.invariant c.in-Some.ensures.items) in omega arith

pub invariant_of-self : goal.invariant_of-self
invariant_of-self g c = kept_push _ _ _ _ _ _ _ _ _ _ c.self.view_is c.self.invariant c.in-Some.ensures.items c.pop.ensures.capacity c.requires.highest
    c.push.ensures.pairs c.push.ensures.room

pub returns-clause-vacant : goal.returns-clause-vacant
returns-clause-vacant g c = ap (λ l. slice_get l c.in-Some.place) (sym c.self.view_is) ∙ last_free _ _ _ _ _ _ c.self.invariant c.in-Some.ensures.items
