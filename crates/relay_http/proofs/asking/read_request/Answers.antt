-- Bytes are read until a head stands there, or can't.
use Rattle.std.proofs.Common.{◌∙◌, List, ℕ, [], ◌++◌, sym, ap, arith, refl, subst, inl, inr}
use Rattle.httparse.specs.Grammar.{print_request}
use Rattle.base_streams.specs.Streams.{Stream}
use Rattle.http_bodies.proofs.Exits.{at_exit}
use Rattle.http_bodies.proofs.Stepping.{moves_none, moves_trans, moves_use}
use Rattle.http_bodies.specs.Steps.{ends, Moves, IsAll}
use Rattle.http_bodies.specs.declared.pipe.Pipe.{Pipe}
use Rattle.exchange_machine.specs.Requests.{MayCome}
use Rattle.exchange_machine.specs.Wholes.{begun}
use Rattle.http_texts.specs.Heads.{LacksRequest}
use Rattle.relay_http.specs.Failures.{Conveys, Fails}
use Rattle.relay_http.proofs.Failing.{moves_fails, fails_plainly}
use Rattle.relay_http.proofs.Keeping.{kept_by, kept_before}
use Rattle.relay_http.proofs.Telling.{asking_of, fails_lacking, fails_ended}
use Rattle.req_view.specs.Heads.{HasNoHead, Waits}
use Rattle.relay_http.proofs.asking.read_request.Goals as goal

pub reading-init : goal.reading-init
reading-init g c =
    let inbox = c.args.pipe.now.inbox in
    let fresh = c.new-asking.ensures in (
      (λ w. moves_none _),
      refl,
      record { rest = inbox; all = ap (λ l. l ++ inbox) fresh.held; none = subst (λ (l : List ℕ). HasNoHead l) fresh.held fresh.none; may = subst (λ (l : List ℕ). MayCome Waits l) fresh.held fresh.may },
      inr (refl, refl),
    )

pub returns-in-Whole-clause-ok : goal.returns-in-Whole-clause-ok
returns-in-Whole-clause-ok g c =
    let told = c.in-Whole.ensures in (
      told.0,
      told.1,
      told.2,
      told.3,
      λ w. moves_trans (c.reading.invariant.0 w)
          (moves_use c.reading.pipe c.ask.new.pipe (g.S.Source.stream c.reading.source) w (print_request told.0) told.4 told.5 told.6),
    )

pub returns-in-Refused-clause-err : goal.returns-in-Refused-clause-err
returns-in-Refused-clause-err g c = λ w.
    let told = c.in-Refused.ensures in
    let a = ends c.args.pipe.now (g.S.Source.stream c.args.source.now) w in
    subst (λ (p : Pipe). Fails a (ends p (g.S.Source.stream c.reading.source) w) [] [] LacksRequest HasNoHead c.in-Refused.fault) (sym told.0)
    (fails_lacking c.in-Refused.fault (c.reading.invariant.0 w) told.1)

pub fill-requires-clause-countable : goal.fill-requires-clause-countable
fill-requires-clause-countable g c =
    let so_far = c.reading.invariant.0 (g.S.Source.stream c.args.source.now) in
    omega (arith, so_far.reads.spent, c.requires, ap (λ (p : Pipe). p.turns) c.in-More.ensures.0)

pub returns-in_err-count-clause-err : goal.returns-in_err-count-clause-err
returns-in_err-count-clause-err g c = λ w.
    let a = ends c.args.pipe.now (g.S.Source.stream c.args.source.now) w in
    let so_far =
    subst (λ (p : Pipe). Moves a (ends p (g.S.Source.stream c.reading.source) w) [] []) (sym c.in-More.ensures.0) (c.reading.invariant.0 w) in
    let none = subst (λ (p : Pipe). HasNoHead p.inbox) (sym c.in-More.ensures.0) c.in-More.ensures.2 in
    let failed = fails_plainly LacksRequest (IsAll c.ask.new.pipe.inbox) (c.in_err-count.ensures.err w) c.in_err-count.ensures.waiting in
    at_exit _ _ _ c.from_residual.ensures.1
    (moves_fails LacksRequest LacksRequest (IsAll c.ask.new.pipe.inbox) HasNoHead (λ l why. why) (λ l all. subst HasNoHead (sym all) none) so_far
    failed (λ is empty. failed.told is (ap (λ (p : Pipe). p.outbox) c.in-More.ensures.0 ∙ c.reading.invariant.1 ∙ empty)))

pub returns-then-count-eq0-clause-err : goal.returns-then-count-eq0-clause-err
returns-then-count-eq0-clause-err g c = λ w.
    let a = ends c.args.pipe.now (g.S.Source.stream c.args.source.now) w in
    let told = c.in-More.ensures in
    let more = c.in-More.more in
    let so_far = subst (λ (p : Pipe). Moves a (ends p (g.S.Source.stream c.reading.source) w) [] []) (sym told.0) (c.reading.invariant.0 w) in
    let none = subst (λ (l : List ℕ). HasNoHead l) (sym told.1) told.2 in
    let may = subst (λ (l : List ℕ). MayCome Waits l) (sym told.1) told.4 in
    let same = told.1 ∙ sym (ap (λ (p : Pipe). p.inbox) told.0) ∙ sym (c.in_ok-count.ensures.none c.if-count-eq0.true) in
    fails_ended c.fault.result (moves_trans so_far (c.in_ok-count.ensures.ok w)) (c.in_ok-count.ensures.end c.if-count-eq0.true)
    (subst (λ (l : List ℕ). LacksRequest c.fault.result l) same (c.fault.ensures.lacks (begun more.held.items) (asking_of more none may)))
    (c.in_ok-count.ensures.waiting ∙ ap (λ (p : Pipe). p.outbox) told.0 ∙ c.reading.invariant.1)

pub reading-preserved : goal.reading-preserved
reading-preserved g c =
    let told = c.in-More.ensures in
    let so_far = λ (w : Stream).
    subst (λ (p : Pipe). Moves (ends c.args.pipe.now (g.S.Source.stream c.args.source.now) w) (ends p (g.S.Source.stream c.reading.source) w) [] [])
    (sym told.0) (c.reading.invariant.0 w) in
    let read = c.in_ok-count.ensures.ok (g.S.Source.stream c.args.source.now) in (
      (λ w. moves_trans (so_far w) (c.in_ok-count.ensures.ok w)),
      c.in_ok-count.ensures.waiting ∙ ap (λ (p : Pipe). p.outbox) told.0 ∙ c.reading.invariant.1,
      record {
        rest = read.taken;
        all = sym read.held ∙ ap (λ l. l ++ read.taken) (ap (λ (p : Pipe). p.inbox) told.0 ∙ sym told.1);
        none = subst (λ (l : List ℕ). HasNoHead l) (sym told.1) told.2;
        may = subst (λ (l : List ℕ). MayCome Waits l) (sym told.1) told.4;
      },
      inl (elim c.reading.invariant.3 [
        | inl none ↦ none
        | inr same ↦ (subst (λ (l : List ℕ). HasNoHead l) same.1 told.2, subst (λ (l : List ℕ). MayCome Waits l) same.1 told.4)
      ]),
    )

pub returns-in-Whole-clause-unread : goal.returns-in-Whole-clause-unread
returns-in-Whole-clause-unread g c = λ h rest has. elim c.reading.invariant.3 [ inl none ↦ absurd (none.0 h rest has) | inr same ↦ same.0 ]

pub returns-in-Refused-clause-kept : goal.returns-in-Refused-clause-kept
returns-in-Refused-clause-kept g c = λ w.
    let before = g.S.Source.stream c.args.source.now in
    subst (λ (p : Pipe). Conveys c.args.pipe.now.inbox p.inbox before.bytes (g.S.Source.stream c.reading.source).bytes w w [] []) (sym c.in-Refused.ensures.0)
    (kept_by w (c.reading.invariant.0 before))

pub returns-in_err-count-clause-kept : goal.returns-in_err-count-clause-kept
returns-in_err-count-clause-kept g c = λ w.
    let before = g.S.Source.stream c.args.source.now in
    let so_far =
    subst (λ (p : Pipe). Moves (ends c.args.pipe.now before before) (ends p (g.S.Source.stream c.reading.source) before) [] []) (sym c.in-More.ensures.0)
    (c.reading.invariant.0 before) in
    at_exit _ _ _ c.from_residual.ensures.1 (kept_before _ _ w so_far c.in_err-count.ensures.kept.0 c.in_err-count.ensures.kept.1)

pub returns-then-count-eq0-clause-kept : goal.returns-then-count-eq0-clause-kept
returns-then-count-eq0-clause-kept g c = λ w.
    let before = g.S.Source.stream c.args.source.now in
    let so_far =
    subst (λ (p : Pipe). Moves (ends c.args.pipe.now before before) (ends p (g.S.Source.stream c.reading.source) before) [] []) (sym c.in-More.ensures.0)
    (c.reading.invariant.0 before) in
    kept_by w (moves_trans so_far (c.in_ok-count.ensures.ok before))

-- what was held at first may become a head, or nothing was read
pub returns-in-Whole-clause-needed : goal.returns-in-Whole-clause-needed
returns-in-Whole-clause-needed g c = elim c.reading.invariant.3 [ inl none ↦ inr none.1 | inr same ↦ inl same.0 ]

pub returns-in-Refused-clause-needed : goal.returns-in-Refused-clause-needed
returns-in-Refused-clause-needed g c = elim c.reading.invariant.3 [ inl none ↦ inr none.1 | inr same ↦ inl same.0 ]

pub returns-in_err-count-clause-needed : goal.returns-in_err-count-clause-needed
returns-in_err-count-clause-needed g c = inr (elim c.reading.invariant.3 [
  | inl none ↦ none.1
  | inr same ↦ subst (λ (l : List ℕ). MayCome Waits l) same.1 c.in-More.ensures.4
])

pub returns-then-count-eq0-clause-needed : goal.returns-then-count-eq0-clause-needed
returns-then-count-eq0-clause-needed g c = inr (elim c.reading.invariant.3 [
  | inl none ↦ none.1
  | inr same ↦ subst (λ (l : List ℕ). MayCome Waits l) same.1 c.in-More.ensures.4
])
