use Rattle.std.proofs.Common.{◌≡◌, ◌++◌, ◌∷◌, [], None, length, replicate, ap, ◌∙◌, arith}
use Rattle.std.proofs.Math.ListN.{length-replicate}
use Rattle.std.proofs.lemmas.List.{replicate_more}
use Rattle.log_reading.proofs.base.nothing.Goals as goal

pub push_reserved-requires : goal.push_reserved-requires
push_reserved-requires g c =
    let long : length c.loop.list.items ≡ c.loop.counter = ap length c.loop.invariant.so_far ∙ length-replicate c.loop.counter None in
    let room = c.loop.invariant.room in
    let below = c.loop-test.true in
    omega arith

pub loop-preserved : goal.loop-preserved
loop-preserved g c = record {
  so_far = c.push_reserved.ensures.items ∙ ap (λ l. l ++ None ∷ []) c.loop.invariant.so_far ∙ replicate_more c.loop.counter None;
  room = c.push_reserved.ensures.capacity ∙ c.loop.invariant.room;
}

pub returns : goal.returns
returns g c =
    let all : c.loop.counter ≡ c.args.count = omega arith in
    c.loop.invariant.so_far ∙ ap (λ n. replicate n None) all
