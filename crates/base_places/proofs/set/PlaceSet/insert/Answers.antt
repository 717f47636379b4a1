use Rattle.std.proofs.Common.{ℕ, ◌≡◌, ◌⊎◌, ◌↔◌, ◌/◌, ◌%◌, ◌*◌, ◌^◌, List, slice_index, slice_set, bit_or, subst, arith}
use Rattle.base_places.specs.Sets.{Has}
use Rattle.base_places.proofs.Bits.{inserted}
use Rattle.base_places.proofs.set.PlaceSet.insert.Goals as goal

pub returns : goal.returns
returns c other =
    subst (λ (old : List ℕ). Has (slice_set c.self.inside.words (c.args.place / 64)
    (bit_or (slice_index c.self.inside.words (c.args.place / 64)) (1 * 2 ^ (c.args.place % 64) % 2 ^ 64))) other ↔ ((other ≡ c.args.place) ⊎ Has old other))
    c.self.view_is (inserted c.self.inside.words c.args.place (omega (arith, c.self.told, c.requires)) other)
