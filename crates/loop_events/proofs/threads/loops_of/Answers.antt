use Rattle.std.proofs.Common.{ap, ◌∙◌, map, sym, subst}
use Rattle.std.specs.List.{enumerate_from}
use Rattle.std.specs.Vec.Iter.{into_iter_steps}
use Rattle.std.specs.Iterator.Adapters.{enumerate_steps}
use Rattle.std.proofs.lemmas.List.{map-id}
use Rattle.loop_events.specs.Starts.{start_at}
use Rattle.std.proofs.lemmas.Iterator.{YieldsList}
use Rattle.std.proofs.lemmas.Iterator.Adapters.{YieldsList-from_vec}
use Rattle.std.proofs.lemmas.Iterator.Consumers.{YieldsList-end, YieldsList-from_enumerate}
use Rattle.loop_events.proofs.threads.loops_of.Goals as goal

pub returns : goal.returns
returns c =
    let items = c.args.polls.items in
    let polls = YieldsList-from_vec items c.into_iter.ensures.rest (c.into_iter.ensures.len ∙ c.args.polls.ok.0) in
    let source = subst (λ s. YieldsList (into_iter_steps {X = _} {Z = _}) (λ y. y) s items) (sym c.enumerate-home-items.ensures.source) polls in
    let numbered = YieldsList-from_enumerate source c.enumerate-home-items.ensures.count in
    let begun = subst (λ s. YieldsList (enumerate_steps (into_iter_steps {X = _} {Z = _})) (λ p. (p.0, p.1)) s (enumerate_from 0 items)) (sym c.into_iter-home-iterator.ensures.into_iter_gives) numbered in
    let all = YieldsList-end begun c.making.yielded c.making.home-iterator c.making.yielded_by c.next.result c.next.new.self c.in-None.is c.next.ensures.steps in
    c.making.invariant ∙ ap (map start_at) (sym (map-id c.making.yielded) ∙ all.0)
