-- Each write takes a front of what is left.
use Rattle.std.proofs.Common.{◌∙◌, ◌++◌, take, drop, sym, ap, append_assoc}
use Rattle.std.proofs.lemmas.List.{take-append-drop, take_rest}
use Rattle.http_bodies.proofs.Emitting.{emits_trans, emits_stops, stops_as}
use Rattle.http_bodies.proofs.Exits.{at_exit}
use Rattle.http_bodies.proofs.text.write_text.Goals as goal

pub returns-in_err-count-clause-err : goal.returns-in_err-count-clause-err
returns-in_err-count-clause-err g c =
    let so_far = c.writing.invariant in
    at_exit c.from_residual.result _ _ c.from_residual.ensures.1
    (stops_as (sym so_far.1) (emits_stops c.writing.rest.now so_far.2 c.in_err-count.ensures.err))

pub writing-preserved : goal.writing-preserved
writing-preserved g c =
    let so_far = c.writing.invariant in
    let rest = c.writing.rest.now in
    let count = c.in_ok-count.count in (
      so_far.0 ++ take count rest,
      so_far.1
          ∙ ap (λ l. so_far.0 ++ l) (sym (take-append-drop count rest))
          ∙ sym (append_assoc so_far.0 (take count rest) (drop count rest))
          ∙ ap (λ l. (so_far.0 ++ take count rest) ++ l) (sym (take_rest rest count)),
      emits_trans so_far.2 c.in_ok-count.ensures.ok,
    )
