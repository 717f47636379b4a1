-- A word that is nearer than those before becomes the nearest; else the bound stands for it too.
use Rattle.std.proofs.Common.{rules, arith, ◌≡◌, Any, length}
use Rattle.base_advice.specs.Slips.{edits_between}
use Rattle.base_advice.proofs.Fewest.{nearer_kept, further_kept, fewest_found, none_found}
use Rattle.base_advice.proofs.slips.nearest.Goals as goal
use Rattle.base_advice.proofs.slips.nearest.Goals.{then-is_nearer, else-is_nearer}

pub loop-name-preserved : goal.loop-name-preserved
loop-name-preserved c =
    elim c.if-is_nearer.branch [
      | then-is_nearer w ↦
          let near = (w.if-is_nearer.ensures).0 (search rules) in
          rw (w.found-is, w.fewest-is)
          (nearer_kept (λ o. edits_between c.args.word.now o.now) (λ o. length o.now) (λ name. Any (λ other. other.now ≡ name.now) c.args.known.now)
          c.args.known.now c.loop-name.name-index c.in_ok-edits.edits c.loop-name.fewest c.loop-name.found _ c.loop-name-test.true
          c.in_ok-edits.ensures.value near.0 near.1 (search rules) c.loop-name.invariant)
      | else-is_nearer w ↦
          rw (w.found-is, w.fewest-is)
          (further_kept (λ o. edits_between c.args.word.now o.now) (λ o. length o.now) (λ name. Any (λ other. other.now ≡ name.now) c.args.known.now)
          c.args.known.now c.loop-name.name-index c.in_ok-edits.edits c.loop-name.fewest c.loop-name.found _ c.loop-name-test.true
          c.in_ok-edits.ensures.value (λ both. let so = (w.if-is_nearer.ensures).1 both in search rules) c.loop-name.invariant)
    ]

pub returns-clause-fewest : goal.returns-clause-fewest
returns-clause-fewest c =
    fewest_found (λ o. edits_between c.args.word.now o.now) (λ o. length o.now) (λ name. Any (λ other. other.now ≡ name.now) c.args.known.now)
    c.args.known.now c.loop-name.name-index c.loop-name.fewest c.loop-name.found (omega arith) c.loop-name.invariant

pub returns-clause-none : goal.returns-clause-none
returns-clause-none c =
    none_found (λ o. edits_between c.args.word.now o.now) (λ o. length o.now) (λ name. Any (λ other. other.now ≡ name.now) c.args.known.now)
    c.args.known.now c.loop-name.name-index c.loop-name.fewest c.loop-name.found (omega arith) c.loop-name.invariant
