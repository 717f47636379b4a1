use Rattle.std.proofs.Common.{rules, ◌≡◌, ◌<◌, ℕ, List, length, slice_index_or, subst, sym, refl, ◌∙◌, ap}
use Rattle.grant_board.specs.Views.{Grant}
use Rattle.relay_workers.specs.Gates.{noted}
use Rattle.relay_workers.specs.Gates.Notice.{Posted}
use Rattle.relay_workers.proofs.Steps.{turned_from}
use Rattle.relay_workers.proofs.finishing.finish.Goals as goal

-- the pass is the only one of the seat
pub post-requires-clause-held : goal.post-requires-clause-held
post-requires-clause-held g c =
    subst (λ (passes : List Grant). (at : ℕ) × (at < length passes) × (slice_index_or passes at c.args.granted.pass ≡ c.args.granted.pass))
    (sym c.requires.holds) (0, search rules, refl)

-- without a connection nothing was done but the turn
pub returns-in-None-carried-clause-again : goal.returns-in-None-carried-clause-again
returns-in-None-carried-clause-again g c =
    let none = c.in-None-carried.ensures.none in (
      none.2,
      c.carry-carried.ensures.kept.0,
      c.carry-carried.ensures.kept.1,
      none.1,
      turned_from g.N.BoardName.terms g.N.DeskName.setup c.turn.result _ (c.posted.ensures.told ∙ ap (noted (Posted c.post.new.self.view)) none.3) c.turn.ensures,
    )

-- it was served, the pass was posted, a turn was made, and the client was released
pub returns-in-Some-carried-clause-relayed : goal.returns-in-Some-carried-clause-relayed
returns-in-Some-carried-clause-relayed g c = (
  c.carry-carried.new.admitted.client,
  g.G.Gate.notes c.carry-carried.new.runner.gate,
  g.G.Gate.notes c.turn.new.gate,
  c.in-Some-carried.ensures.relayed,
  turned_from g.N.BoardName.terms g.N.DeskName.setup c.turn.result _ c.posted.ensures.told c.turn.ensures,
  c.release.ensures,
)
