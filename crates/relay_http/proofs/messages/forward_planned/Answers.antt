-- The head, the body and what waits, one after the other.
use Rattle.std.proofs.Common.{◌∙◌, [], ◌++◌, refl, sym, append-nil, subst}
use Rattle.http_bodies.specs.Framings.{IsUnfinished}
use Rattle.http_bodies.specs.Steps.{ends}
use Rattle.http_bodies.proofs.Exits.{at_exit}
use Rattle.http_bodies.proofs.Stepping.{moves_trans, moves_as}
use Rattle.http_texts.specs.Messages.{NoBody}
use Rattle.http_texts.specs.Texts.{answer_text}
use Rattle.relay_http.proofs.Failing.{moves_fails, moves_put, moves_halts, fails_put, fails_of, fails_less, fails_body, fails_as, relayed_framing, relayed_read, told_all, sent_all, halts_unframed, halts_unread, puts_hold}
use Rattle.http_texts.proofs.Forwarding.{part_none, body_part}
use Rattle.http_texts.specs.declared.persistence.Persistence.TheVariants.{Close}
use Rattle.relay_http.proofs.messages.forward_planned.Goals as goal

pub returns-in_err-put_answer-clause-err : goal.returns-in_err-put_answer-clause-err
returns-in_err-put_answer-clause-err g c =
    let plan = c.args.planned.now.plan in
    let text = answer_text Close c.args.framed c.args.planned.now.head plan in
    at_exit _ _ _ c.from_residual.ensures.1 (
      [],
      [],
      part_none plan.body c.args.framed,
      fails_as (NoBody plan.body) (IsUnfinished plan.body) refl (sym (append-nil text))
          (fails_put (g.S.Source.stream c.args.source.now) (NoBody plan.body) (IsUnfinished plan.body) c.in_err-put_answer.ensures.err),
      λ at. absurd (halts_unframed _ c.in_err-put_answer.ensures.err at),
      λ at. absurd (halts_unread _ c.in_err-put_answer.ensures.err at),
    )

pub returns-in_err-forward_body-clause-err : goal.returns-in_err-forward_body-clause-err
unfolding moves_fails fails_body fails_less fails_as fails_of
returns-in_err-forward_body-clause-err g c =
    let plan = c.args.planned.now.plan in
    let put = moves_put (g.S.Source.stream c.args.source.now) c.in_ok-put_answer.ensures.ok.sends in
    let part = c.in_err-forward_body.ensures.err in
    let failed = fails_body plan.body c.args.framed part.2 part.3 c.in_err-forward_body.ensures.told in
    at_exit _ _ _ c.from_residual-in_err-forward_body.ensures.1 (
      part.2.sent.used,
      part.1,
      part.2.sent.part,
      moves_fails (NoBody plan.body) (NoBody plan.body) (IsUnfinished plan.body) (IsUnfinished plan.body) (λ l why. why) (λ l wants. wants) put
          failed (λ at none. told_all part.3 (c.in_err-forward_body.ensures.told (relayed_read _ at)).1),
      λ at. puts_hold (g.S.Source.stream c.args.source.now) (ends c.forward_body.new.self (g.S.Source.stream c.forward_body.new.source) (g.K.Sink.stream c.forward_body.new.sink))
          part.1 c.in_ok-put_answer.ensures.ok (part.4 (relayed_framing _ at)),
      λ at. sent_all c.forward_body.new.self.inbox part.2 (c.in_err-forward_body.ensures.told (relayed_read _ at)).0,
    )

pub returns-in_err-send-clause-err : goal.returns-in_err-send-clause-err
returns-in_err-send-clause-err g c =
    let plan = c.args.planned.now.plan in
    let text = answer_text Close c.args.framed c.args.planned.now.head plan in
    let put = moves_put (g.S.Source.stream c.args.source.now) c.in_ok-put_answer.ensures.ok.sends in
    let sent_on = c.in_ok-forward_body.ensures.ok in
    at_exit _ _ _ c.from_residual-in_err-send.ensures.1 (
      sent_on.0,
      sent_on.1,
      body_part plan.body c.args.framed sent_on.0 sent_on.1 sent_on.2,
      fails_as (NoBody plan.body) (IsUnfinished plan.body) refl (append-nil (text ++ sent_on.1))
          (moves_halts (NoBody plan.body) (IsUnfinished plan.body) (moves_trans put sent_on.3) c.in_err-send.ensures.err),
      λ at. absurd (halts_unframed _ c.in_err-send.ensures.err at),
      λ at. absurd (halts_unread _ c.in_err-send.ensures.err at),
    )

pub returns-clause-ok : goal.returns-clause-ok
returns-clause-ok g c =
    let plan = c.args.planned.now.plan in
    let text = answer_text Close c.args.framed c.args.planned.now.head plan in
    let put = moves_put (g.S.Source.stream c.args.source.now) c.in_ok-put_answer.ensures.ok.sends in
    let sent_on = c.in_ok-forward_body.ensures.ok in
    let sent = moves_put (g.S.Source.stream c.forward_body.new.source) c.in_ok-send.ensures.ok in (
      sent_on.0,
      sent_on.1,
      sent_on.2,
      moves_as (append-nil sent_on.0) (append-nil (text ++ sent_on.1)) (moves_trans (moves_trans put sent_on.3) sent),
      c.in_ok-forward_body.ensures.end,
      λ e. c.in_ok-send.ensures.ok.inbox ∙ c.in_ok-forward_body.ensures.all e,
    )

pub returns-in_err-forward_body-clause-unread : goal.returns-in_err-forward_body-clause-unread
returns-in_err-forward_body-clause-unread g c = λ whole.
    c.in_err-forward_body.ensures.unread (λ wants. whole (subst (IsUnfinished c.args.planned.now.plan.body) c.in_ok-put_answer.ensures.ok.sends.inbox wants))

pub returns-in_err-send-clause-unread : goal.returns-in_err-send-clause-unread
returns-in_err-send-clause-unread g c = λ whole.
    c.in_ok-forward_body.ensures.unread (λ wants. whole (subst (IsUnfinished c.args.planned.now.plan.body) c.in_ok-put_answer.ensures.ok.sends.inbox wants))

pub returns-clause-unread : goal.returns-clause-unread
returns-clause-unread g c = λ whole.
    c.in_ok-forward_body.ensures.unread (λ wants. whole (subst (IsUnfinished c.args.planned.now.plan.body) c.in_ok-put_answer.ensures.ok.sends.inbox wants))
