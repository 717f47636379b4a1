use Rattle.std.proofs.Common.{arith}
use Rattle.run_gate.proofs.Adding.{none_yet, one_more, all_added}
use Rattle.run_gate.proofs.gate.add_all.Goals as goal

pub loop-place-init : goal.loop-place-init
loop-place-init c = (omega arith, none_yet c.args.places.now c.args.set.now)

pub loop-place-smaller : goal.loop-place-smaller
loop-place-smaller c =
    let low = c.in-Some.ensures.no_lower in
    let high = c.in-Some.ensures.in_range in
    omega (arith, low, high)

pub loop-place-preserved : goal.loop-place-preserved
loop-place-preserved c = (
  let high = c.in-Some.ensures.in_range in omega (arith, high),
  one_more c.args.places.now c.args.set.now c.loop-place.set c.loop-place.from c.loop-place.invariant.1 c.insert.new.self c.in-Some.place c.in-Some.ensures
      c.insert.ensures,
)

pub returns : goal.returns
returns c = all_added c.args.places.now c.args.set.now c.loop-place.set c.loop-place.from c.loop-place.invariant.1 c.in_default.ensures
