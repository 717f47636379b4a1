use Rattle.std.proofs.Common.{◌≡◌, ◌-◌, ℕ, length, take, arith, length-take, length-append, ap, subst}
use Rattle.http_bodies.specs.Readings.{Feeds}
use Rattle.http_bodies.specs.declared.coding.Coding.TheVariants.{Length}
use Rattle.http_bodies.proofs.Derivatives.{feeds_length}
use Rattle.http_bodies.proofs.Rooms.{no_room, one_byte, some_left}
use Rattle.http_bodies.proofs.plain.feed_length.Goals as goal

pub returns-clause-feeds : goal.returns-clause-feeds
returns-clause-feeds c =
    let count = c.min-count.result in
    let left = c.args.left.now in
    let taken = take count c.args.input.now in
    let len : length taken ≡ count = omega (arith, length-take count c.args.input.now) in
    subst (λ (n : ℕ). Feeds (Length left) (Length (left - n)) taken taken) len (feeds_length left taken (omega (arith, len)))

pub returns-clause-room : goal.returns-clause-room
returns-clause-room c = λ going.
    let count = c.min-count.result in
    let input = c.args.input.now in
    let left = c.args.left.now - count in
    no_room (Length left) input c.push.new.self count (λ b. one_byte left b going) (omega arith)
    (λ few. omega (arith, few, some_left left going, ap (length {A = ℕ}) c.push.ensures, length-append c.args.out.now (take count input), length-take count input))
