use Rattle.std.proofs.Common.{arith, length, length-drop, drop, take, ap}
use Rattle.std.proofs.lemmas.List.{take_rest}
use Rattle.http_bodies.specs.Readings.{Hands}
use Rattle.http_bodies.specs.declared.coding.Coding.TheVariants.{Chunked}
use Rattle.http_bodies.proofs.Derivatives.{hands_on}
use Rattle.http_bodies.proofs.chunked.feed_chunked.Goals as goal

pub taking-preserved : goal.taking-preserved
taking-preserved c =
    let input = c.args.input.now in
    let used = c.taking.used in
    let count = c.step-count.result in
    let rest = take_rest input used in
    let hands : Hands (Chunked c.args.framed c.taking.part) (Chunked c.args.framed c.step-count.new.part) (take count
    (drop used input)) c.taking.out c.step-count.new.out =
    rw rest at c.step-count.ensures.hands in
    (omega (arith, c.step-count.ensures.within, length-drop used input, ap length rest), hands_on input used count c.taking.invariant.1 hands)
