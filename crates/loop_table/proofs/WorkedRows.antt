-- The numbers of subjects, at worked examples: what must hold, and what must not.
use Rattle.std.proofs.Common.{arith, inl, inr}
use Rattle.loop_table.specs.Subjects.{IsTooLarge, NamesNone}
use Rattle.loop_table.specs.declared.subject.Subject.TheVariants.{Listener, Waiting}

-- the listener has a number, and so has the first ticket at the last place
listener : ¬ (IsTooLarge Listener)
listener wrong = wrong

last_place : ¬ (IsTooLarge (Waiting 4095 0))
last_place wrong = elim wrong [
  | inl place ↦ omega (arith, place)
  | inr ticket ↦ omega (arith, ticket)
]

no_such_place : IsTooLarge (Waiting 4096 0)
no_such_place = inl (omega arith)

-- number 0 is the listener's, and number 8 nobody's
zero_is_named : ¬ (NamesNone 0 0)
zero_is_named none = omega (arith, none.0 (omega arith))

eight_isnt : NamesNone 0 1
eight_isnt = (λ kind. omega arith, λ kind. absurd (omega (arith, kind)), λ kind. absurd (omega (arith, kind)), λ kind. absurd (omega (arith, kind)), λ kind. absurd (omega (arith, kind)))
