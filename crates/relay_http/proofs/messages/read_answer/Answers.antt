-- Head after head, up to the answer's own.
use Rattle.std.proofs.Common.{◌≡◌, ◌∙◌, ◌<◌, [], ◌∷◌, ◌++◌, length, List, ℕ, Option}
use Rattle.std.proofs.Common.{refl, sym, ap, arith, append-nil, length-append, subst}
use Rattle.std.specs.Prelude.{IsSome}
use Rattle.httparse.specs.Grammar.{print_response}
use Rattle.http_bodies.proofs.Exits.{at_exit}
use Rattle.base_lists.proofs.Filtered.{flat_last}
use Rattle.http_bodies.proofs.Stepping.{moves_none, moves_trans, moves_use, moves_as, Countable-later}
use Rattle.http_texts.specs.Framings.{answer_plan, is_interim}
use Rattle.http_texts.specs.Heads.{NoAnswer}
use Rattle.http_texts.specs.Messages.{IsInterim, AreInterims, print_heads, interims_text, LacksAnswer}
use Rattle.http_texts.specs.Texts.{framed_for}
use Rattle.http_texts.specs.declared.fault.Fault.TheVariants.{Framing, Read}
use Rattle.http_texts.specs.declared.plans.Plan.{Plan}
use Rattle.http_texts.proofs.Alone.{answer_alone}
use Rattle.http_texts.proofs.Forwarding.{heads_then, interims_more, interims_text_more}
use Rattle.http_bodies.specs.Steps.{IsAll}
use Rattle.relay_http.specs.Wants.{WantsAnswer}
use Rattle.relay_http.proofs.Wanting.{head_wanted}
use Rattle.relay_http.proofs.Failing.{moves_fails, moves_put, moves_halts, fails_as, fails_of, fails_plainly, fails_end, wrote_of, halts_unframed, halts_unread, breaks_unframed}
use Rattle.relay_http.proofs.Seeing.{used_front, fails_unseen, none_unread}
use Rattle.req_view.specs.Answer.{Answer, answer_of}
use Rattle.req_view.specs.AnswerHeads.{HasNoAnswer}
use Rattle.relay_http.proofs.messages.read_answer.Goals as goal

read_not_framing : Read ≡ Framing → ⊥
read_not_framing is = cc

pub heads-init : goal.heads-init
heads-init g c = ([], tt, refl, omega arith, moves_none _, λ none. none)

pub returns-in-Final-clause-ok : goal.returns-in-Final-clause-ok
returns-in-Final-clause-ok g c =
    let method = c.args.view.now.method in
    let framed = framed_for c.args.view.now.version in
    let so_far = c.heads.invariant in
    let hs = so_far.0 in
    let are : AreInterims method hs = record { each = so_far.1; few = omega (arith, so_far.2, so_far.3) } in
    let says = c.in-Final.ensures.0 in
    let role = c.in-Final.ensures.1 in
    let h = says.head in
    let left =
    used_front c.heads.pipe c.consume.new.self c.held.result.now (print_response h) says.rest c.in-Final.len c.held.ensures.value says.stands.reads.1 says.len
    c.consume.ensures.inbox in
    let read =
    moves_trans so_far.4 (moves_use c.heads.pipe c.consume.new.self (g.S.Source.stream c.heads.source) (g.K.Sink.stream c.heads.sink) (print_response h) left
    c.consume.ensures.outbox c.consume.ensures.turns) in
    let same : answer_plan c.method.result.now c.in-Final.head ≡ answer_plan method (answer_of h) = λ i. answer_plan (c.method.ensures i) (says.answer i) in
    let status : is_interim c.in-Final.head.status ≡ is_interim (answer_of h).status = ap (λ (a : Answer). is_interim a.status) says.answer in (
      hs,
      h,
      are,
      record { head = answer_alone h says.stands; planned = sym same ∙ role.0; final = sym status ∙ role.1 },
      says.answer,
      moves_as refl (append-nil (interims_text framed hs)) read,
    )

pub returns-in-Refused-clause-err : goal.returns-in-Refused-clause-err
returns-in-Refused-clause-err g c =
    let method = c.args.view.now.method in
    let so_far = c.heads.invariant in
    let hs = so_far.0 in
    let are : AreInterims method hs = record { each = so_far.1; few = omega (arith, so_far.2, so_far.3) } in (
      hs,
      are,
      fails_unseen method c.method.result.now hs c.heads.count c.held.result.now c.in-Refused.fault are so_far.2 c.method.ensures c.held.ensures.value
          c.in-Refused.ensures so_far.4,
      λ at none. wrote_of none (so_far.5 none) so_far.4,
      λ at. absurd (none_unread c.method.result.now c.heads.count c.held.result.now c.in-Refused.fault at c.in-Refused.ensures),
    )

pub forward_before-requires : goal.forward_before-requires
forward_before-requires g c =
    let so_far = c.heads.invariant in
    let later = Countable-later so_far.4.reads c.requires in
    omega (arith, later.writes, c.consume-in-Interim.ensures.turns)

pub returns-in_err-forward_before-in-Interim-clause-err : goal.returns-in_err-forward_before-in-Interim-clause-err
returns-in_err-forward_before-in-Interim-clause-err g c =
    let method = c.args.view.now.method in
    let framed = framed_for c.args.view.now.version in
    let so_far = c.heads.invariant in
    let hs = so_far.0 in
    let says = c.in-Interim.ensures.0 in
    let role = c.in-Interim.ensures.1 in
    let h = says.head in
    let left =
    used_front c.heads.pipe c.consume-in-Interim.new.self c.held.result.now (print_response h) says.rest c.in-Interim.len c.held.ensures.value
    says.stands.reads.1 says.len c.consume-in-Interim.ensures.inbox in
    let read =
    moves_trans so_far.4 (moves_use c.heads.pipe c.consume-in-Interim.new.self (g.S.Source.stream c.heads.source) (g.K.Sink.stream c.heads.sink)
    (print_response h) left c.consume-in-Interim.ensures.outbox c.consume-in-Interim.ensures.turns) in
    let same : answer_plan c.method.result.now c.in-Interim.head ≡ answer_plan method (answer_of h) = λ i. answer_plan (c.method.ensures i) (says.answer i) in
    let status : is_interim c.in-Interim.head.status ≡ is_interim (answer_of h).status = ap (λ (a : Answer). is_interim a.status) says.answer in
    let is : IsInterim method h = record {
      head = answer_alone h says.stands;
      planned = subst (λ (o : Option Plan). IsSome o) same role.0;
      interim = sym status ∙ role.1;
    } in
    let told = c.is_framed-framed.ensures ∙ ap framed_for c.version.ensures in
    let text = interims_text_more framed c.is_framed-framed.result hs h c.in-Interim.head told says.answer in
    let below : length hs < 8 = omega (arith, so_far.2, role.2) in
    at_exit _ _ _ c.from_residual.ensures.1 (
      hs ++ h ∷ [],
      interims_more method hs h so_far.1 below is,
      fails_as (LacksAnswer method) (WantsAnswer method) (flat_last print_response hs h) text
          (moves_halts (LacksAnswer method) (WantsAnswer method) read c.in_err-forward_before-in-Interim.ensures.err),
      λ at. absurd (halts_unframed _ c.in_err-forward_before-in-Interim.ensures.err at),
      λ at. absurd (halts_unread _ c.in_err-forward_before-in-Interim.ensures.err at),
    )

pub heads-preserved-in-Interim : goal.heads-preserved-in-Interim
heads-preserved-in-Interim g c =
    let method = c.args.view.now.method in
    let framed = framed_for c.args.view.now.version in
    let so_far = c.heads.invariant in
    let hs = so_far.0 in
    let says = c.in-Interim.ensures.0 in
    let role = c.in-Interim.ensures.1 in
    let h = says.head in
    let left =
    used_front c.heads.pipe c.consume-in-Interim.new.self c.held.result.now (print_response h) says.rest c.in-Interim.len c.held.ensures.value
    says.stands.reads.1 says.len c.consume-in-Interim.ensures.inbox in
    let read =
    moves_trans so_far.4 (moves_use c.heads.pipe c.consume-in-Interim.new.self (g.S.Source.stream c.heads.source) (g.K.Sink.stream c.heads.sink)
    (print_response h) left c.consume-in-Interim.ensures.outbox c.consume-in-Interim.ensures.turns) in
    let same : answer_plan c.method.result.now c.in-Interim.head ≡ answer_plan method (answer_of h) = λ i. answer_plan (c.method.ensures i) (says.answer i) in
    let status : is_interim c.in-Interim.head.status ≡ is_interim (answer_of h).status = ap (λ (a : Answer). is_interim a.status) says.answer in
    let is : IsInterim method h = record {
      head = answer_alone h says.stands;
      planned = subst (λ (o : Option Plan). IsSome o) same role.0;
      interim = sym status ∙ role.1;
    } in
    let told = c.is_framed-framed.ensures ∙ ap framed_for c.version.ensures in
    let text = interims_text_more framed c.is_framed-framed.result hs h c.in-Interim.head told says.answer in
    let below : length hs < 8 = omega (arith, so_far.2, role.2) in
    let sent_on = moves_put (g.S.Source.stream c.heads.source) c.in_ok-forward_before-in-Interim.ensures.ok in
    let are = interims_more method hs h so_far.1 below is in (
      hs ++ h ∷ [],
      are.each,
      omega (arith, so_far.2, length-append hs (h ∷ [])),
      omega (arith, so_far.2, below),
      moves_as (append-nil (print_heads hs ++ print_response h) ∙ flat_last print_response hs h) text (moves_trans read sent_on),
      λ none. c.in_ok-forward_before-in-Interim.ensures.empty,
    )

pub returns-in_err-came-in-More-clause-err : goal.returns-in_err-came-in-More-clause-err
unfolding moves_fails fails_as fails_plainly fails_of
returns-in_err-came-in-More-clause-err g c =
    let method = c.args.view.now.method in
    let framed = framed_for c.args.view.now.version in
    let so_far = c.heads.invariant in
    let hs = so_far.0 in
    let are : AreInterims method hs = record { each = so_far.1; few = omega (arith, so_far.2, so_far.3) } in
    let none = subst (λ (l : List ℕ). HasNoAnswer l) c.held.ensures.value c.in-More.ensures.none in
    let failed =
    fails_plainly NoAnswer (IsAll c.heads.pipe.inbox) (c.in_err-came-in-More.ensures.err (g.K.Sink.stream c.heads.sink)) c.in_err-came-in-More.ensures.waiting in
    at_exit _ _ _ c.from_residual-in_err-came-in-More.ensures.1 (
      hs,
      are,
      fails_as (LacksAnswer method) (WantsAnswer method) (append-nil (print_heads hs)) (append-nil (interims_text framed hs))
          (moves_fails NoAnswer (LacksAnswer method) (IsAll c.heads.pipe.inbox) (WantsAnswer method) (λ l why. heads_then method hs _ l are why)
          (λ l all. head_wanted method hs c.heads.pipe.inbox l are none all) so_far.4
          failed (λ at empty. failed.told at (so_far.5 empty))),
      λ at. absurd (breaks_unframed (IsAll c.heads.pipe.inbox) _ (c.in_err-came-in-More.ensures.err (g.K.Sink.stream c.heads.sink)) at),
      λ at. subst HasNoAnswer (sym c.in_err-came-in-More.ensures.kept.0) none,
    )

pub returns-then-came-eq0-clause-err : goal.returns-then-came-eq0-clause-err
unfolding fails_end
returns-then-came-eq0-clause-err g c =
    let method = c.args.view.now.method in
    let framed = framed_for c.args.view.now.version in
    let so_far = c.heads.invariant in
    let hs = so_far.0 in
    let are : AreInterims method hs = record { each = so_far.1; few = omega (arith, so_far.2, so_far.3) } in
    let came = c.in_ok-came-in-More.ensures in
    let same = c.held.ensures.value ∙ sym (came.none c.if-came-eq0.true) in
    let none = subst (λ (l : List ℕ). HasNoAnswer l) same c.in-More.ensures.none in
    let read =
    moves_as (append-nil (print_heads hs)) (append-nil (interims_text framed hs)) (moves_trans so_far.4 (came.ok (g.K.Sink.stream c.heads.sink))) in (
      hs,
      are,
      fails_end (LacksAnswer method) (WantsAnswer method) read (came.end c.if-came-eq0.true)
          (heads_then method hs Read c.fill.new.self.inbox are none) (head_wanted method hs c.fill.new.self.inbox c.fill.new.self.inbox are none refl)
          (λ empty. came.waiting ∙ so_far.5 empty),
      λ at. absurd (read_not_framing at),
      λ at. none,
    )

pub heads-preserved : goal.heads-preserved
heads-preserved g c =
    let framed = framed_for c.args.view.now.version in
    let so_far = c.heads.invariant in
    let hs = so_far.0 in
    let read = c.in_ok-came-in-More.ensures.ok (g.K.Sink.stream c.heads.sink) in (
      hs,
      so_far.1,
      so_far.2,
      so_far.3,
      moves_as (append-nil (print_heads hs)) (append-nil (interims_text framed hs)) (moves_trans so_far.4 read),
      λ none. c.in_ok-came-in-More.ensures.waiting ∙ so_far.5 none,
    )

pub returns-in-Final-clause-empty : goal.returns-in-Final-clause-empty
returns-in-Final-clause-empty g c = λ none. c.consume.ensures.outbox ∙ c.heads.invariant.5 none
