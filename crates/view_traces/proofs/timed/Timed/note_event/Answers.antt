use Rattle.std.proofs.Common.{◌≡◌, ◌≤◌, ◌∷◌, ◌++◌, [], rules, ap, subst, sym, ◌∙◌, arith}
use Rattle.log_reading.specs.Grants.{moment_of}
use Rattle.view_traces.specs.Timed.{IsTimed}
use Rattle.std.proofs.lemmas.Grind.{common_steps}
use Rattle.view_traces.proofs.OneMore.{event_more, event_moment}
use Rattle.view_traces.proofs.timed.Timed.note_event.Goals as goal

pub invariant_of-self-2 : goal.invariant_of-self-2
invariant_of-self-2 c =
    let before = c.self.inside.list.items in
    let longer : c.push.new.self.items ≡ before ++ c.args.entry ∷ [] = search rules in
    let later : moment_of before ≤ c.args.moment = search rules in (
      subst IsTimed (sym longer) (event_more before c.args.entry c.args.moment c.self.invariant.0 c.requires later),
      sym (ap moment_of longer ∙ event_moment before c.args.entry c.args.moment c.requires),
    )

pub returns-clause-later : goal.returns-clause-later
returns-clause-later c = grind (arith, common_steps)
