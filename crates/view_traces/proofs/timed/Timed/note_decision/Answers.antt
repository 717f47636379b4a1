use Rattle.std.proofs.Common.{◌≡◌, ◌∷◌, ◌++◌, [], length, rules, ap, subst, sym, ◌∙◌}
use Rattle.log_reading.specs.Grants.{moment_of}
use Rattle.view_traces.specs.Timed.{IsTimed}
use Rattle.view_traces.proofs.OneMore.{decision_more, decision_moment}
use Rattle.view_traces.proofs.timed.Timed.note_decision.Goals as goal

pub invariant_of-self-2 : goal.invariant_of-self-2
invariant_of-self-2 c =
    let before = c.self.inside.list.items in
    let longer : c.push.new.self.items ≡ before ++ c.args.entry ∷ [] = search rules in
    let some : length before ≡ 0 → ⊥ = search rules in (
      subst IsTimed (sym longer) (decision_more before c.args.entry c.self.invariant.0 c.requires some),
      c.self.invariant.1 ∙ sym (ap moment_of longer ∙ decision_moment before c.args.entry c.requires),
    )
