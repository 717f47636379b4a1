use Rattle.std.proofs.Common.{◌++◌, ◌∷◌, [], None, refl, ap, ◌∙◌}
use Rattle.std.specs.Option.{option_and_then}
use Rattle.std.proofs.lemmas.List.{replicate_more}
use Rattle.late_cert.specs.Table.{worst_of}
use Rattle.late_cert.proofs.ClassRows.{each_says}
use Rattle.late_cert.proofs.Rooms.{empty_table, empty_worst}
use Rattle.late_cert.proofs.table.Running.new.Goals as goal

pub loop-preserved : goal.loop-preserved
loop-preserved c = c.in_ok-push.ensures.items ∙ ap (λ l. l ++ None ∷ []) c.loop.invariant ∙ replicate_more c.loop.counter None

pub invariant_of-result : goal.invariant_of-result
invariant_of-result c = record { whole = empty_table _ c.loop.counter c.loop.invariant c.args.servers c.loop.auto.counter-end c.loop-test.false }

pub returns-clause-worst : goal.returns-clause-worst
returns-clause-worst c = λ queue class.
    each_says (option_and_then (λ row. worst_of row queue)) c.loop.table.items None refl (λ place. empty_worst _ c.loop.counter c.loop.invariant place queue) class
