-- What was read stands behind what was held.
use Rattle.std.proofs.Common.{◌∙◌, ◌+◌, ◌-◌, ◌≤◌, length, take, drop, arith}
use Rattle.base_lists.proofs.Windows.{window_more, window_length}
use Rattle.http_bodies.proofs.inbox.Inbox.fill.Goals as goal

pub returns-clause-ok : goal.returns-clause-ok
returns-clause-ok g c =
    let i = c.self.inside in
    let held = i.end - i.start in
    let bytes = c.read_at.new.buf.items in
    let here : held + c.in_ok-count.count ≤ length bytes = omega (arith, c.in_ok-count.ensures.ok.0, c.read_at.new.buf.ok.0) in
    let old = c.read_at.ensures.front ∙ c.move_to_front.ensures.front ∙ c.self.view_is in (
      take c.in_ok-count.count (drop held bytes),
      c.in_ok-count.ensures.ok.1,
      window_length bytes held c.in_ok-count.count here,
      window_more bytes held c.in_ok-count.count c.args.self.now old,
    )
