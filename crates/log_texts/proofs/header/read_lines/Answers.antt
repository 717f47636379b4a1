use Rattle.std.proofs.Common.{◌≡◌, false, is_some, sym, ap, ◌∙◌, arith}
use Rattle.std.specs.Str.Lines.{lines}
use Rattle.log_texts.specs.Faults.{is_step}
use Rattle.log_texts.specs.Lines.{is_step_line, is_fault}
use Rattle.log_texts.specs.Reading.{with_kind}
use Rattle.log_texts.proofs.Headers.{one_more}
use Rattle.log_texts.proofs.KindsOfLines.{step_is, kind_line}
use Rattle.std.proofs.lemmas.Grind.{common_steps}
use Rattle.log_texts.proofs.header.read_lines.Goals as goal

-- a line more is read
pub lines-preserved : goal.lines-preserved
lines-preserved c =
    let line = c.in-Some.line.now in
    let header = c.lines.header in
    let kind = c.of-kind.ensures.value in
    let other : is_step line ≡ false = ap is_some (sym (step_is line)) ∙ ap is_step_line (sym kind) ∙ sym c.is_step.ensures ∙ c.if-is_step.false in (
      c.lines.invariant.0,
      one_more (lines c.args.script.now) c.lines.lines c.next.new.self line header c.take.new.self c.lines.number c.lines.invariant.1
          c.in-Some.ensures.steps
          other (ap (is_fault header false) (sym kind) ∙ c.in-Ok.ensures.ok.0) (c.in-Ok.ensures.ok.1 ∙ ap (with_kind header) kind
          ∙ kind_line header line other),
    )

pub returns-then-is_step-clause-header : goal.returns-then-is_step-clause-header
returns-then-is_step-clause-header c = grind (arith, common_steps)

pub returns-then-is_step-clause-settings : goal.returns-then-is_step-clause-settings
returns-then-is_step-clause-settings c = grind (arith, common_steps)

pub overflow_add-number : goal.overflow_add-number
overflow_add-number c = grind (arith, common_steps)

pub returns-clause-header : goal.returns-clause-header
returns-clause-header c = grind (arith, common_steps)

pub returns-clause-settings : goal.returns-clause-settings
returns-clause-settings c = grind (arith, common_steps)
