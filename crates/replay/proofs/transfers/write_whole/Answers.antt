use Rattle.std.proofs.Common.{◌-◌, ◌≤◌, length, drop, refl, ◌∙◌, arith, length-take}
use Rattle.std.proofs.KnownBytes.{Appends-kept}
use Rattle.replay.proofs.Fronts.{written_more, front_written}
use Rattle.replay.proofs.transfers.write_whole.Goals as goal

-- a write that failed took nothing
pub returns-in_default-clause-err : goal.returns-in_default-clause-err
returns-in_default-clause-err g c = (
  refl,
  front_written _ _ c.args.text.now c.writing.at (omega arith) (Appends-kept _ _ _ _ c.writing.invariant.written c.in_default.ensures.bytes),
)

pub writing-preserved : goal.writing-preserved
writing-preserved g c =
    let long = length-take (length c.args.text.now - c.writing.at) (drop c.writing.at c.args.text.now) in
    let within : c.in-Ok.count ≤ length c.args.text.now - c.writing.at = omega (arith, c.in-Ok.ensures.bound) in
    record {
      counted = omega (arith, c.in-Ok.ensures.moves);
      within = omega arith;
      written = written_more _ _ _ c.args.text.now c.writing.at c.in-Ok.count within c.writing.invariant.written c.in-Ok.ensures.bytes;
      same = c.in-Ok.ensures.counted.same ∙ c.writing.invariant.same;
      calls = omega (arith, c.in-Ok.ensures.counted.calls);
      failures = c.in-Ok.ensures.counted.failures ∙ c.writing.invariant.failures;
    }
