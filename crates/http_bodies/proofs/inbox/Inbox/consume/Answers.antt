-- What is left is the window behind the bytes that were used.
use Rattle.std.proofs.Common.{◌∙◌, ◌+◌, ◌-◌, ◌≤◌, ℕ, length, drop, ap, arith, length-take}
use Rattle.base_lists.proofs.Windows.{window_drop}
use Rattle.http_bodies.proofs.inbox.Inbox.consume.Goals as goal

pub returns : goal.returns
returns c =
    let i = c.self.inside in
    let same = ap (length {A = ℕ}) c.self.view_is in
    let here : i.start + c.args.count ≤ i.end = omega (arith, c.requires, same, c.self.invariant.0, length-take (i.end - i.start) (drop i.start i.buf.items)) in
    window_drop i.buf.items i.start i.end c.args.count here ∙ ap (drop c.args.count) c.self.view_is
