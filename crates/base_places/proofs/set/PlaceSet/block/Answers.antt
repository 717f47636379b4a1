use Rattle.std.proofs.Common.{rules, ℕ, ◌≡◌, ◌↔◌, ◌*◌, ◌/◌, List, slice_index, subst}
use Rattle.base_places.specs.Sets.{Has, HasAhead}
use Rattle.base_places.proofs.Aheads.{block_ahead}
use Rattle.base_places.proofs.set.PlaceSet.block.Goals as goal

pub returns : goal.returns
returns c place =
    subst (λ (words : List ℕ). HasAhead (record { first = c.args.number * 64; bits = slice_index c.self.inside.words c.args.number }) place
    ↔ ((place / 64 ≡ c.args.number) × Has words place)) c.self.view_is
    (block_ahead c.self.inside.words c.args.number (search rules) place)
