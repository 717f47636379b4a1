use Rattle.std.proofs.Common.{◌≡◌, ◌++◌, ◌+◌, List, [], ℕ, Option, Some, true, filter_map}
use Rattle.std.proofs.Common.{is_some, string_bytes, refl, ap, sym, subst, ◌∙◌, append_assoc, append-nil, arith}
use Rattle.std.specs.Str.Lines.{lines}
use Rattle.log_texts.specs.declared.step.Step.{Step}
use Rattle.log_texts.specs.declared.line.Line.{Line}
use Rattle.log_texts.specs.Faults.{fault_behind}
use Rattle.log_texts.specs.Lines.{is_fault, kind_of_line, step_in}
use Rattle.log_texts.proofs.KindsOfLines.{step_is}
use Rattle.log_texts.specs.Steps.{step_of, steps_of}
use Rattle.log_texts.specs.ScriptTexts.{IsScriptText}
use Rattle.log_texts.proofs.Bodies.{through_step, through_other, fault_found}
use Rattle.replay.proofs.Runs.{steps_from_line, steps_past_line, text_from_step}
use Rattle.replay.proofs.run.run.Goals as goal
use Rattle.replay.proofs.run.run.Goals.{else-header-number-via-then-header-number+else-faulty, else-header-number-via-else-header-number}

-- the step that a line asks for, by what it is
asked : (line : List ℕ) (step : Option Step) (kind : Option Line) → step ≡ step_in kind → kind ≡ kind_of_line line → step ≡ step_of line
asked line step kind is of = is ∙ ap step_in of ∙ step_is line

-- the event of the line is answered, and what is left follows
pub lines-preserved-in-Continue-1 : goal.lines-preserved-in-Continue-1
lines-preserved-in-Continue-1 g c = (
  c.lines.invariant.0,
  through_step (lines c.args.script.now) c.lines.lines c.next.new.self c.in-Some.line.now c.args.header c.lines.number c.requires c.lines.invariant.1
      c.in-Some.ensures.steps (ap is_some (sym (asked c.in-Some.line.now c.step_in.result c.of-kind.result c.step_in.ensures c.of-kind.ensures.value)
      ∙ c.in-Some-step_in.is)),
  (λ last rest more.
      let answered = c.in_ok-take_step-in-Some-step_in.ensures.ok in
      let all = λ (text : List ℕ). IsScriptText c.args.names.now c.args.core.now (steps_of c.args.script.now) last text in
      let steps = steps_from_line c.in-Some.line.now c.lines.lines c.next.new.self c.step_in.result c.in-Some-step_in.step c.in-Some.ensures.steps
      (asked c.in-Some.line.now c.step_in.result c.of-kind.result c.step_in.ensures c.of-kind.ensures.value) c.in-Some-step_in.is in
      subst (λ (text : List ℕ). all (text ++ rest)) (sym answered.2)
      (subst all (sym (append_assoc (string_bytes c.lines.text) answered.0 rest))
      (c.lines.invariant.2 last (answered.0 ++ rest)
      (text_from_step c.args.names.now c.lines.core c.take_step.new.core last c.in-Some-step_in.step (filter_map step_of c.lines.lines)
      (filter_map step_of c.next.new.self) answered.0 rest steps answered.1 more)))),
)

-- the line asks for no step, and isn't faulty
pub lines-preserved : goal.lines-preserved
lines-preserved g c = (
  c.lines.invariant.0,
  through_other (lines c.args.script.now) c.lines.lines c.next.new.self c.in-Some.line.now c.args.header c.lines.number c.requires c.lines.invariant.1
      c.in-Some.ensures.steps (ap is_some (sym (asked c.in-Some.line.now c.step_in.result c.of-kind.result c.step_in.ensures c.of-kind.ensures.value)
      ∙ c.in-None.is))
      (λ low settings. elim c.else-header-number.branch [
        | else-header-number-via-then-header-number+else-faulty w ↦ ap (is_fault settings true) (sym c.of-kind.ensures.value)
            ∙ sym (c.is_faulty-faulty.ensures settings) ∙ w.if-faulty.false
        | else-header-number-via-else-header-number w ↦ let high = w.if-header-number.false in absurd (omega (arith, low, high))
      ]),
  (λ last rest more.
      let steps = steps_past_line c.in-Some.line.now c.lines.lines c.next.new.self c.step_in.result c.in-Some.ensures.steps
      (asked c.in-Some.line.now c.step_in.result c.of-kind.result c.step_in.ensures c.of-kind.ensures.value) c.in-None.is in
      c.lines.invariant.2 last rest (subst (λ (left : List Step). IsScriptText c.args.names.now c.lines.core left last rest) (sym steps) more)),
)

-- the line is the first fault
pub returns-then-faulty-clause-fault : goal.returns-then-faulty-clause-fault
returns-then-faulty-clause-fault g c = λ line is.
    let same : c.lines.number + 1 ≡ line = cc in
    subst (λ n. fault_behind [] (lines c.args.script.now) ≡ Some n) same
    (fault_found (lines c.args.script.now) c.lines.lines c.next.new.self c.in-Some.line.now c.args.header c.lines.number c.requires c.lines.invariant.1
    c.in-Some.ensures.steps (ap is_some (sym (asked c.in-Some.line.now c.step_in.result c.of-kind.result c.step_in.ensures c.of-kind.ensures.value)
    ∙ c.in-None.is)) c.if-header-number.true
    (λ settings. ap (is_fault settings true) (sym c.of-kind.ensures.value) ∙ sym (c.is_faulty-faulty.ensures settings) ∙ c.if-faulty.true))

-- no line is left
pub returns-clause-ok : goal.returns-clause-ok
returns-clause-ok g c =
    let all = λ (text : List ℕ). IsScriptText c.args.names.now c.args.core.now (steps_of c.args.script.now) c.lines.core text in
    subst all (append-nil (string_bytes c.lines.text))
    (c.lines.invariant.2 c.lines.core [] (subst (λ (left : List (List ℕ)). IsScriptText c.args.names.now c.lines.core (filter_map step_of left) c.lines.core [])
    (sym c.in_default.ensures.steps.0) (refl, refl)))
