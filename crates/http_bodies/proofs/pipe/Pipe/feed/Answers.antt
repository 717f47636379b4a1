-- What was taken stands at the front of what was held.
use Rattle.std.proofs.Common.{refl}
use Rattle.http_bodies.proofs.PipeFeeding.{feed_moves}
use Rattle.http_bodies.proofs.pipe.Pipe.feed.Goals as goal

pub returns-in-Done-clause-moves : goal.returns-in-Done-clause-moves
returns-in-Done-clause-moves c =
    λ s w. feed_moves c.args.self.now _ c.as_slice.result.now c.feed-fed.result.used s w c.as_slice.ensures.value c.feed-fed.ensures.hands c.consume.ensures refl

pub returns-in-Bad-clause-moves : goal.returns-in-Bad-clause-moves
returns-in-Bad-clause-moves c =
    λ s w. feed_moves c.args.self.now _ c.as_slice.result.now c.feed-fed.result.used s w c.as_slice.ensures.value c.feed-fed.ensures.hands c.consume.ensures refl

pub returns-in-Full-clause-moves : goal.returns-in-Full-clause-moves
returns-in-Full-clause-moves c =
    λ s w. feed_moves c.args.self.now _ c.as_slice.result.now c.feed-fed.result.used s w c.as_slice.ensures.value c.feed-fed.ensures.hands c.consume.ensures refl

pub returns-in-Hungry-clause-moves : goal.returns-in-Hungry-clause-moves
returns-in-Hungry-clause-moves c =
    λ s w. feed_moves c.args.self.now _ c.as_slice.result.now c.feed-fed.result.used s w c.as_slice.ensures.value c.feed-fed.ensures.hands c.consume.ensures refl
