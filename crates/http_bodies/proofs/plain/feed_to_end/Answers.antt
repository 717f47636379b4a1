use Rattle.std.proofs.Common.{ℕ, length, take, refl, arith, length-take, length-append, ap}
use Rattle.http_bodies.specs.declared.coding.Coding.TheVariants.{ToEnd}
use Rattle.http_bodies.proofs.Rooms.{no_room}
use Rattle.http_bodies.proofs.plain.feed_to_end.Goals as goal

pub returns-clause-room : goal.returns-clause-room
returns-clause-room c =
    let count = c.min-count.result in
    let input = c.args.input.now in
    no_room ToEnd input c.push.new.self count (λ b. refl) (omega arith)
    (λ few. omega (arith, few, ap (length {A = ℕ}) c.push.ensures, length-append c.args.out.now (take count input), length-take count input))
