use Rattle.std.proofs.Common.{◌≡◌, ℕ, ◌<◌, ◌≤◌, nat_lt, Bool, true, false, None, is_some, refl, ap, arith}
use Rattle.std.specs.Option.{option_and_then}
use Rattle.std.proofs.lemmas.Bool.Decides.{nat_tests}
use Rattle.std.proofs.lemmas.Grind.{common_steps}
use Rattle.late_cert.specs.Table.{row_at, worst_of}
use Rattle.late_cert.proofs.ClassRows.{each_class, each_says, none_behind}
use Rattle.late_cert.proofs.table.Running.clear.Goals as goal

pub invariant_of-self-in_default : goal.invariant_of-self-in_default
invariant_of-self-in_default c = grind (arith, common_steps)

pub returns-clause-worst : goal.returns-clause-worst
returns-clause-worst c queue class =
    each_says (option_and_then (λ row. worst_of row queue)) c.loop-at.self.table.items None refl (λ place. says place (nat_lt place 4095) refl) class
  where
    says : (place : ℕ) (b : Bool) → nat_lt place 4095 ≡ b → option_and_then (λ row. worst_of row queue) (row_at c.loop-at.self.table.items place) ≡ None
    says place true e = c.loop-at.invariant.cleared place queue (let end = c.loop-at-test.false in let low : place < 4095 = grind (arith, nat_tests) in omega arith)
    says place false e =
        let long = c.loop-at.self.whole.long in
        let far : 4095 ≤ place = grind (arith, nat_tests) in
        ap (option_and_then (λ row. worst_of row queue)) (none_behind c.loop-at.self.table.items place (omega arith))

pub returns-clause-room : goal.returns-clause-room
returns-clause-room c class = each_class is_some c.args.self.now.table.items c.loop-at.self.table.items c.loop-at.invariant.room class
