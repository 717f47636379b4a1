use Rattle.std.proofs.Common.{◌∙◌, refl, ap, sym, arith}
use Rattle.queue_waits.specs.Lines.{Queued, lines_of}
use Rattle.queue_waits.proofs.Falling.{settles, none_settles}
use Rattle.queue_waits.proofs.falls.settle.Goals.{in-Some, in_default}
use Rattle.queue_waits.proofs.falls.settle.Goals as goal

pub set_aside-requires-clause-room : goal.set_aside-requires-clause-room
set_aside-requires-clause-room g c =
    let is = c.requires (λ none. let before = c.loop-at-test.true in absurd (omega (arith, none, before))) in
    (settles (lines_of c.args.queues.now) _ _ c.args.fall.now c.loop-at.at _ is c.loop-at-test.true c.loop-at.invariant.moved c.in-Some.ensures.first c.pop.ensures.rest).room

pub set_aside-requires-clause-absent : goal.set_aside-requires-clause-absent
set_aside-requires-clause-absent g c =
    let is = c.requires (λ none. let before = c.loop-at-test.true in absurd (omega (arith, none, before))) in
    (settles (lines_of c.args.queues.now) _ _ c.args.fall.now c.loop-at.at _ is c.loop-at-test.true c.loop-at.invariant.moved c.in-Some.ensures.first c.pop.ensures.rest).absent

pub loop-at-preserved : goal.loop-at-preserved
loop-at-preserved g c =
    let is = c.requires (λ none. let before = c.loop-at-test.true in absurd (omega (arith, none, before))) in
    elim c.match-pop.branch [
      | in-Some w ↦
          let it = settles (lines_of c.args.queues.now) _ _ c.args.fall.now c.loop-at.at _ is c.loop-at-test.true c.loop-at.invariant.moved w.in-Some.ensures.first
          c.pop.ensures.rest in record {
            moved = ap lines_of w.queues-is ∙ w.set_aside.ensures.aside ∙ sym it.done;
            fall = refl;
            links = ap (λ (q : Queued). q.links) w.queues-is ∙ w.set_aside.ensures.links ∙ c.pop.ensures.links (λ e. cc) ∙ c.loop-at.invariant.links;
            all_links = λ none. let before = c.loop-at-test.true in absurd (omega (arith, none, before));
          }
      | in_default w ↦ absurd (none_settles (lines_of c.args.queues.now) _ c.args.fall.now c.loop-at.at is c.loop-at-test.true c.loop-at.invariant.moved w.in_default.ensures.first)
    ]
