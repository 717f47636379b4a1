use Rattle.std.proofs.Common.{sym, subst, refl, ◌∙◌, arith, Contains, [], ◌∷◌}
use Rattle.std.proofs.lemmas.List.Elements.{Contains-append_right}
use Rattle.test_board.proofs.boards.meetings.meet_twice.Goals as goal
use Rattle.test_board.proofs.boards.meetings.meet_twice.Goals.{in-Taken, in-NotYet+else-assert-2}

-- the pass that was taken is among the passes, and the meetings leave them
pub post-requires-clause-held : goal.post-requires-clause-held
post-requires-clause-held g c =
    subst (λ x. Contains x.view.passes c.in-Taken.pass) (sym c.meet-back.ensures.looked)
    (subst (λ v. Contains v.passes c.in-Taken.pass) (sym c.in-Taken.ensures.answer.after)
    (Contains-append_right c.args.first.now.view.passes (c.in-Taken.pass ∷ []) c.in-Taken.pass (0, omega arith, refl)))

pub post-requires-in-Taken-taking-clause-held : goal.post-requires-in-Taken-taking-clause-held
post-requires-in-Taken-taking-clause-held g c =
    let pass = c.in-Taken-taking.pass in
    let has : Contains c.try_take-taking.new.self.view.passes pass =
    subst (λ v. Contains v.passes pass) (sym c.in-Taken-taking.ensures.answer.after)
    (Contains-append_right c.args.second.view.passes (pass ∷ []) pass (0, omega arith, refl)) in
    elim c.match-try_take.branch [
      | in-Taken w ↦ subst (λ x. Contains x.view.passes pass)
          (sym (w.second-is ∙ (w.meet-back-in-Taken.ensures.back ∙ w.meet-back.ensures.back))) has
      | in-NotYet+else-assert-2 w ↦ subst (λ x. Contains x.view.passes pass) (sym w.second-is) has
    ]
