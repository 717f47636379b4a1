use Rattle.std.proofs.Common.{◌≡◌, ◌≢◌, ◌⊎◌, ◌<◌, [], length, ap, sym, ◌∙◌, subst, inl, inr, IsPermutation}
use Rattle.log_entries.specs.declared.queue.Queue.TheVariants.{Server}
use Rattle.queue_waits.specs.InQueues.{AreLinedUp, pairs_in}
use Rattle.queue_waits.specs.Lines.{Lined, lines_of, line_at}
use Rattle.queue_waits.proofs.Sorted.{begun}
use Rattle.queue_waits.proofs.Falling.{fallen_elsewhere, fallen_servers}
use Rattle.queue_waits.proofs.falls.look_at.Goals.{then-fall-eq0-via-then-fall-eq0, then-fall-eq0-via-else-fall-eq0+then-fall-server}
use Rattle.queue_waits.proofs.falls.look_at.Goals as goal

pub returns-then-fall-eq0-clause-falling : goal.returns-then-fall-eq0-clause-falling
returns-then-fall-eq0-clause-falling g c =
    let old = lines_of c.args.queues.now in
    let elsewhere : (c.args.fall.now.told ≡ 0) ⊎ (c.args.fall.now.server ≢ c.args.server) = elim c.then-fall-eq0.branch [
      | then-fall-eq0-via-then-fall-eq0 w ↦ inl w.if-fall-eq0.true
      | then-fall-eq0-via-else-fall-eq0+then-fall-server w ↦ inr w.if-fall-server.true
    ] in
    let servers : length c.settle.new.queues.own ≡ length c.args.queues.now.own =
    ap (λ (l : Lined). length l.own) c.settle.ensures.moved ∙ fallen_servers old c.args.fall.now.server c.args.fall.now.told in
    let line : line_at (lines_of c.settle.new.queues) (Server c.args.server) ≡ line_at old (Server c.args.server) =
    ap (λ (l : Lined). line_at l (Server c.args.server)) c.settle.ensures.moved
    ∙ fallen_elsewhere old c.args.fall.now.server c.args.fall.now.told c.args.server elsewhere in
    begun (lines_of c.settle.new.queues) c.args.waiters.now c.begin.new.self
    (subst (λ (l : Lined). AreLinedUp l c.args.waiters.now) (sym c.settle.ensures.moved) c.requires.lined_up)
    (subst (λ n. n < length c.settle.new.queues.own) (sym c.begin.ensures.server) (subst (λ n. c.args.server < n) (sym servers) c.requires.within))
    (subst (λ n. line_at (lines_of c.settle.new.queues) (Server n) ≢ []) (sym c.begin.ensures.server) (λ none. c.requires.somebody (sym line ∙ none)))
    c.begin.ensures.told
    (subst (λ n. IsPermutation (pairs_in (Server n) 0 c.args.waiters.now) c.begin.new.self.sorted.items) (sym c.begin.ensures.server) c.begin.ensures.pairs)
    c.begin.ensures.sorted
