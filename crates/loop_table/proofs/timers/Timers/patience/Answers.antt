use Rattle.std.proofs.Common.{◌≡◌, ◌<◌, ◌+◌, length, take, get_or, List, sym, subst}
use Rattle.loop_table.specs.declared.timers.Timer.{Timer}
use Rattle.loop_table.specs.Timers.{ArePatient, Timeouts, sooner_of}
use Rattle.loop_table.proofs.Patience.{patient_more, taken_more}
use Rattle.loop_table.proofs.timers.Timers.patience.Goals as goal

pub loop-timed-preserved : goal.loop-timed-preserved
loop-timed-preserved c =
    let all = c.self.inside.timed.items in
    let at = c.loop-timed.timed-index in
    let v = c.deref-timed-items.ensures.value in
    let low : at < length all = subst (λ (l : List Timer). at < length l) v c.loop-timed-test.true in
    let read : c.timed-item.result ≡ get_or all at c.timed-item.result =
    subst (λ (l : List Timer). c.timed-item.result ≡ get_or l at c.timed-item.result) v c.timed-item.is in
    let before = subst (λ (it : Timeouts). ArePatient it.clock (take at it.timed) c.loop-timed.least) (sym c.self.view_is) c.loop-timed.invariant in
    let more = patient_more c.self.inside.clock (take at all) c.timed-item.result c.loop-timed.least c.patience.result before c.patience.ensures in
    let now = subst (λ (l : List Timer). ArePatient c.self.inside.clock l (sooner_of c.loop-timed.least c.patience.result)) (sym (taken_more all at _ low read)) more in
    rw c.sooner-least.ensures
    (subst (λ (it : Timeouts). ArePatient it.clock (take (at + 1) it.timed) (sooner_of c.loop-timed.least c.patience.result)) c.self.view_is now)
