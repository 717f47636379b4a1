use Rattle.std.proofs.Common.{◌∙◌, Ok, sym, ap, length, arith}
use Rattle.std.proofs.lemmas.Result.{err_from_is_err_and}
use Rattle.proxy_config.proofs.Alternatives.{continued-or, continued-early_or, continued-term, continued-fails, continued-end, continued-early_end}
use Rattle.proxy_config.proofs.Lengths.{term_at-shorter}
use Rattle.proxy_config.proofs.conditions.alternatives.Goals as goal

pub returns-then-is_empty : goal.returns-then-is_empty
returns-then-is_empty c = rw c.into.ensures (sym (rw c.in-Some.ensures.steps at c.terms.invariant)
    ∙ continued-early_or c.args.acls.now c.terms.alternatives c.terms.terms c.in-Some.word.now c.next.new.self (sym c.is_or.ensures
    ∙ c.if-is_or.true) (sym c.is_empty.ensures ∙ c.if-is_empty.true))

pub terms-preserved-then-is_or : goal.terms-preserved-then-is_or
terms-preserved-then-is_or c = rw (c.in_ok-push.ensures.ok, c.replace.ensures.value, c.replace.ensures.after, c.new.ensures)
    (sym (continued-or c.args.acls.now c.terms.alternatives c.terms.terms c.in-Some.word.now c.next.new.self (sym c.is_or.ensures
    ∙ c.if-is_or.true) (sym c.is_empty.ensures ∙ c.if-is_empty.false))
    ∙ (rw c.in-Some.ensures.steps at c.terms.invariant))

pub returns-in_err-term : goal.returns-in_err-term
returns-in_err-term c =
    let p = err_from_is_err_and c.from_residual-in_err-term.result c.from_residual-in_err-term.ensures.1 in
    rw (p.1, p.2) (continued-fails c.in_err-term.field-0.0 c.args.acls.now c.terms.alternatives c.terms.terms c.in-Some.word.now c.next.new.self _
    (sym c.is_or.ensures ∙ c.if-is_or.false) c.in_err-term.ensures
    (rw c.in-Some.ensures.steps at c.terms.invariant))

pub terms-smaller : goal.terms-smaller
terms-smaller c =
    let shorter = term_at-shorter c.args.acls.now c.in-Some.word.now c.next.new.self _ c.in_ok-term.ensures in
    omega (arith, ap length c.in-Some.ensures.steps, shorter)

pub terms-preserved : goal.terms-preserved
terms-preserved c = rw c.in_ok-push-2.ensures.ok
    (sym (continued-term c.args.acls.now c.terms.alternatives c.terms.terms c.in-Some.word.now c.next.new.self c.in_ok-term.term c.in_ok-term.rest
    (sym c.is_or.ensures ∙ c.if-is_or.false) c.in_ok-term.ensures)
    ∙ (rw c.in-Some.ensures.steps at c.terms.invariant))

pub returns-then-is_empty-2 : goal.returns-then-is_empty-2
returns-then-is_empty-2 c = rw c.into-then-is_empty-2.ensures (sym (rw c.in_default.ensures.steps.0 at c.terms.invariant)
    ∙ continued-early_end c.args.acls.now c.terms.alternatives c.terms.terms (sym c.is_empty-2.ensures ∙ c.if-is_empty-2.true))

pub returns : goal.returns
returns c = sym (rw c.in_default.ensures.steps.0 at c.terms.invariant)
    ∙ continued-end c.args.acls.now c.terms.alternatives c.terms.terms (sym c.is_empty-2.ensures ∙ c.if-is_empty-2.false)
    ∙ ap Ok (sym c.in_ok-push-3.ensures.ok)
