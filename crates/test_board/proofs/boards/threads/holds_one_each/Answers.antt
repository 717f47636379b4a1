use Rattle.std.proofs.Common.{sym, subst, refl, arith, Contains, [], ◌∷◌}
use Rattle.std.proofs.lemmas.List.Elements.{Contains-append_right}
use Rattle.test_board.proofs.boards.threads.holds_one_each.Goals as goal

-- the pass that was taken is among the passes, and the meeting leaves them
pub post-requires-clause-held : goal.post-requires-clause-held
post-requires-clause-held g c =
    subst (λ x. Contains x.view.passes c.in-Taken.pass) (sym c.meet-back.ensures.looked)
    (subst (λ v. Contains v.passes c.in-Taken.pass) (sym c.in-Taken.ensures.answer.after)
    (Contains-append_right c.args.first.now.view.passes (c.in-Taken.pass ∷ []) c.in-Taken.pass (0, omega arith, refl)))
