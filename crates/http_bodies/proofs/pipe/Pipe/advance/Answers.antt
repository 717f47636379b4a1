-- What waits is written first.
use Rattle.std.proofs.Common.{◌≡◌, ◌∙◌, [], sym, arith}
use Rattle.std.proofs.lemmas.Bool.Decides.{nat_tests}
use Rattle.std.proofs.lemmas.List.{nil_from_length}
use Rattle.http_bodies.specs.Steps.{LacksNothing, IsAll}
use Rattle.http_bodies.proofs.Exits.{at_exit}
use Rattle.http_bodies.proofs.Stepping.{moves_emit, moves_trans, moves_breaks, breaks_flush}
use Rattle.http_bodies.proofs.pipe.Pipe.advance.Goals as goal

pub returns-in_err-flush-clause-err : goal.returns-in_err-flush-clause-err
returns-in_err-flush-clause-err g c =
    at_exit _ _ _ c.from_residual.ensures.1
    (breaks_flush (g.S.Source.stream c.args.source.now) (IsAll []) c.in_err-flush.ensures.err c.in_err-flush.ensures.inbox c.in_err-flush.ensures.waiting)

pub returns-then-not-is_hungry-clause-ok : goal.returns-then-not-is_hungry-clause-ok
returns-then-not-is_hungry-clause-ok g c =
    moves_emit (g.S.Source.stream c.args.source.now) [] c.in_ok-flush.ensures.ok (sym c.in_ok-flush.ensures.inbox)

pub returns-in_err-count-clause-err : goal.returns-in_err-count-clause-err
returns-in_err-count-clause-err g c =
    let flushed = moves_emit (g.S.Source.stream c.args.source.now) [] c.in_ok-flush.ensures.ok (sym c.in_ok-flush.ensures.inbox) in
    let none : c.flush.new.self.inbox ≡ [] = c.in_ok-flush.ensures.inbox ∙ sym c.held.ensures.value ∙ nil_from_length _ (grind (arith, nat_tests, c.is_empty-is_hungry.ensures, c.if-not-is_hungry.false)) in
    at_exit _ _ _ c.from_residual-in_err-count.ensures.1
    (moves_breaks LacksNothing LacksNothing (IsAll c.flush.new.self.inbox) (IsAll []) (λ l none. none) (λ l same. same ∙ none) flushed
    (c.in_err-count.ensures.err (g.K.Sink.stream c.flush.new.sink)))

pub returns-clause-ok : goal.returns-clause-ok
returns-clause-ok g c =
    let flushed = moves_emit (g.S.Source.stream c.args.source.now) [] c.in_ok-flush.ensures.ok (sym c.in_ok-flush.ensures.inbox) in
    moves_trans flushed (c.in_ok-count.ensures.ok (g.K.Sink.stream c.flush.new.sink))

pub returns-clause-read : goal.returns-clause-read
returns-clause-read g c = λ none.
    let filled = c.in_ok-count.ensures.ok (g.K.Sink.stream c.flush.new.sink) in
    omega (arith, filled.reads.spent, c.in_ok-count.ensures.spent)
