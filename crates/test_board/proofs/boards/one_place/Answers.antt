use Rattle.std.proofs.Common.{sym, subst, refl, arith, Contains, [], ◌∷◌}
use Rattle.std.proofs.lemmas.List.Elements.{Contains-append_right}
use Rattle.test_board.proofs.boards.one_place.Goals as goal

-- the pass that was taken is among the passes
pub post-requires-clause-held : goal.post-requires-clause-held
post-requires-clause-held g c =
    subst (λ v. Contains v.passes c.in-Taken.pass) (sym c.in-Taken.ensures.answer.after)
    (Contains-append_right c.serve_named.new.seat.view.passes (c.in-Taken.pass ∷ []) c.in-Taken.pass (0, omega arith, refl))
