use Rattle.std.proofs.Common.{string_bytes, ap, sym, ◌∙◌, length}
use Rattle.replay.proofs.Runs.{arrival_told, event_told}
use Rattle.replay.proofs.run.take_step.Goals as goal

pub returns-in-Arrive-clause-ok : goal.returns-in-Arrive-clause-ok
returns-in-Arrive-clause-ok g c =
    arrival_told c.args.names.now c.args.core.now c.arrive-answer.new.self c.args.step c.in-Arrive.moment c.in-Arrive.class c.in-Arrive.offset
    c.in-Arrive.pin c.tell.result c.arrive-answer.result c.len-before.result (string_bytes c.args.text.now) (string_bytes c.tell.new.text)
    (sym c.by_numbers.ensures ∙ c.in-Arrive.is) (c.len-before.ensures ∙ ap length c.log.ensures.entries) (c.tell.ensures.accepted, c.tell.ensures.refused)
    c.arrive-answer.ensures.ok c.arrive-answer.ensures.err c.arrive-answer.ensures.unchanged

pub returns-in-Event-clause-ok : goal.returns-in-Event-clause-ok
returns-in-Event-clause-ok g c =
    event_told c.args.names.now c.args.core.now c.apply-answer.new.self c.args.step c.in-Event.event c.tell-in-Event.result c.apply-answer.result
    c.len-before.result (string_bytes c.args.text.now) (string_bytes c.tell-in-Event.new.text) (sym c.by_numbers.ensures ∙ c.in-Event.is)
    (c.len-before.ensures ∙ ap length c.log.ensures.entries) (c.tell-in-Event.ensures.accepted, c.tell-in-Event.ensures.refused)
    c.apply-answer.ensures.ok c.apply-answer.ensures.err c.apply-answer.ensures.unchanged
