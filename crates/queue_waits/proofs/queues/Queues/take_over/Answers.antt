use Rattle.std.proofs.Common.{◌≡◌, ◌+◌, ◌∙◌, length, refl, ap, subst}
use Rattle.std.specs.List.{sum_by}
use Rattle.std.proofs.Math.ListN.{set}
use Rattle.log_entries.specs.declared.queue.Queue.TheVariants.{Server}
use Rattle.queue_waits.specs.Lines.{Queued, lines_of, line_at}
use Rattle.queue_waits.proofs.Queueing.{rooms_kept, own_within, took_over, links_taken}
use Rattle.queue_waits.proofs.queues.Queues.take_over.Goals as goal

pub invariant_of-self : goal.invariant_of-self
invariant_of-self g c =
    let within = own_within g.Q.PendQueue.pairs c.self.inside.own.items _ _ _ (lines_of c.args.self.now) (Server c.args.server) c.args.server (ap lines_of c.self.view_is) refl c.requires.within in
    let kept = rooms_kept g.Q.PendQueue.pairs g.Q.PendQueue.room c.self.inside.own.items c.self.inside.backend c.self.inside.moved _ c.args.server c.index_mut.result.now _
    c.self.invariant within c.index_mut.ensures.value c.merge.ensures.other_room in
    record { servers = kept.servers; backends = kept.backends; moveds = c.merge.ensures.room ∙ c.self.invariant.moveds }

pub returns-clause-merged : goal.returns-clause-merged
returns-clause-merged g c =
    let within = own_within g.Q.PendQueue.pairs c.self.inside.own.items _ _ _ (lines_of c.args.self.now) (Server c.args.server) c.args.server (ap lines_of c.self.view_is) refl c.requires.within in
    took_over g.Q.PendQueue.pairs c.self.inside.own.items c.self.inside.backend c.self.inside.moved _ _ (lines_of c.args.self.now) c.args.server c.index_mut.result.now _
    (ap lines_of c.self.view_is) within c.index_mut.ensures.value c.merge.ensures.emptied c.merge.ensures.pairs

pub returns-clause-all_links : goal.returns-clause-all_links
returns-clause-all_links g c =
    let within = own_within g.Q.PendQueue.pairs c.self.inside.own.items _ _ _ (lines_of c.args.self.now) (Server c.args.server) c.args.server (ap lines_of c.self.view_is) refl c.requires.within in
    subst (λ (q : Queued). sum_by g.Q.PendQueue.links (set c.self.inside.own.items c.args.server c.merge.new.other) + g.Q.PendQueue.links c.self.inside.backend
    + g.Q.PendQueue.links c.merge.new.self ≡ q.all_links + g.Q.PendQueue.links_of_merge (length q.moved) (length (line_at (lines_of q) (Server c.args.server))))
    c.self.view_is
    (links_taken g.Q.PendQueue.pairs g.Q.PendQueue.links g.Q.PendQueue.links_of_merge c.self.inside.own.items c.self.inside.backend c.self.inside.moved c.merge.new.self
    c.args.server c.index_mut.result.now c.merge.new.other within c.index_mut.ensures.value c.merge.ensures.other_links c.merge.ensures.links)
