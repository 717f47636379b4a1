use Rattle.std.proofs.Common.{◌/◌, replicate}
use Rattle.base_lists.proofs.Replicated.{index-replicate}
use Rattle.base_places.proofs.Bits.{none_in}
use Rattle.base_places.proofs.set.PlaceSet.new.Goals as goal

pub returns : goal.returns
returns c place has = none_in (replicate 64 0) place (index-replicate 64 (place / 64) 0) has
