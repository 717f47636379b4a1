use Rattle.std.proofs.Common.{◌≡◌, ◌-◌, ℕ, length, take, arith, length-take, subst}
use Rattle.http_bodies.specs.Readings.{Feeds}
use Rattle.http_bodies.specs.declared.coding.Coding.TheVariants.{Chunked}
use Rattle.http_bodies.specs.declared.coding.Part.TheVariants.{Data}
use Rattle.http_bodies.proofs.Derivatives.{feeds_data}
use Rattle.http_bodies.proofs.chunked.step_data.Goals as goal

pub returns-clause-hands : goal.returns-clause-hands
returns-clause-hands c =
    let count = c.min-count.result in
    let left = c.args.left.now in
    let framed = c.args.framed in
    let taken = take count c.args.input.now in
    let len : length taken ≡ count = omega (arith, length-take count c.args.input.now) in
    let fed : Feeds (Chunked framed (Data left)) (Chunked framed (Data (left - count))) taken taken =
    subst (λ (n : ℕ). Feeds (Chunked framed (Data left)) (Chunked framed (Data (left - n))) taken taken) len (feeds_data framed left taken (omega
    (arith, len))) in
    record { given = taken; waits = c.push.ensures; feeds = fed }
