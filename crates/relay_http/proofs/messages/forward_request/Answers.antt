-- The head, the body and what waits, one after the other.
use Rattle.std.proofs.Common.{◌∙◌, true, [], ◌++◌, refl, sym, append-nil, inl, subst}
use Rattle.http_bodies.specs.Framings.{IsUnfinished}
use Rattle.http_bodies.specs.Steps.{ends}
use Rattle.http_bodies.proofs.Exits.{at_exit}
use Rattle.http_bodies.proofs.Stepping.{moves_none, moves_trans, moves_as, Countable-later}
use Rattle.http_texts.specs.Messages.{NoBody, LacksForwarded}
use Rattle.http_texts.specs.Messages.PartOfForwarded.{nothing, head_and_body}
use Rattle.http_texts.specs.Messages.LacksForwarded.{no_framing, no_body}
use Rattle.http_texts.specs.Texts.{request_text, unnamed}
use Rattle.relay_http.specs.Wants.{WantsBody}
use Rattle.relay_http.proofs.Failing.{moves_fails, moves_put, moves_halts, fails_put, fails_of, fails_less, fails_body, fails_as, fails_framing, relayed_framing, relayed_read, told_all, sent_all, halts_unframed, halts_unread, puts_hold}
use Rattle.http_texts.proofs.Forwarding.{part_none, body_part}
use Rattle.http_texts.specs.declared.persistence.Persistence.TheVariants.{Close}
use Rattle.relay_http.proofs.messages.forward_request.Goals as goal

pub returns-in_default-clause-err : goal.returns-in_default-clause-err
returns-in_default-clause-err g c =
    let none = sym c.request_framing.ensures ∙ c.in_default.is in
    ([], [], nothing, fails_framing (LacksForwarded c.args.view.now) (WantsBody c.args.view.now) (moves_none _) (no_framing refl none), λ is same. inl refl, λ is. cc)

pub returns-in_err-put_request-clause-err : goal.returns-in_err-put_request-clause-err
returns-in_err-put_request-clause-err g c =
    let r = c.args.view.now in
    let framing = c.in-Some.framing in
    let is = sym c.request_framing.ensures ∙ c.in-Some.is in
    at_exit _ _ _ c.from_residual.ensures.1 (
      [],
      request_text (unnamed Close) r framing ++ [],
      head_and_body framing [] [] is (part_none framing _),
      fails_as (LacksForwarded r) (WantsBody r) refl (sym (append-nil (request_text (unnamed Close) r framing)))
          (fails_put (g.S.Source.stream c.args.source.now) (LacksForwarded r) (WantsBody r) c.in_err-put_request.ensures.err),
      λ at. absurd (halts_unframed _ c.in_err-put_request.ensures.err at),
      λ at. absurd (halts_unread _ c.in_err-put_request.ensures.err at),
    )

pub returns-in_err-forward_body-clause-err : goal.returns-in_err-forward_body-clause-err
unfolding moves_fails fails_body fails_less fails_as fails_of
returns-in_err-forward_body-clause-err g c =
    let r = c.args.view.now in
    let framing = c.in-Some.framing in
    let is = sym c.request_framing.ensures ∙ c.in-Some.is in
    let put = moves_put (g.S.Source.stream c.args.source.now) c.in_ok-put_request.ensures.ok.sends in
    let part = c.in_err-forward_body.ensures.err in
    let failed = fails_body framing true part.2 part.3 c.in_err-forward_body.ensures.told in
    at_exit _ _ _ c.from_residual-in_err-forward_body.ensures.1 (
      part.2.sent.used,
      request_text (unnamed Close) r framing ++ part.1,
      head_and_body framing part.2.sent.used part.1 is part.2.sent.part,
      moves_fails (NoBody framing) (LacksForwarded r) (IsUnfinished framing) (WantsBody r) (λ l why. no_body framing is why)
          (λ l wants. (framing, is, wants)) put
          failed (λ at none. told_all part.3 (c.in_err-forward_body.ensures.told (relayed_read _ at)).1),
      λ at. puts_hold (g.S.Source.stream c.args.source.now) (ends c.forward_body.new.self (g.S.Source.stream c.forward_body.new.source) (g.K.Sink.stream c.forward_body.new.sink))
          part.1 c.in_ok-put_request.ensures.ok (part.4 (relayed_framing _ at)),
      λ at. sent_all c.forward_body.new.self.inbox part.2 (c.in_err-forward_body.ensures.told (relayed_read _ at)).0,
    )

pub returns-in_err-send-clause-err : goal.returns-in_err-send-clause-err
returns-in_err-send-clause-err g c =
    let r = c.args.view.now in
    let framing = c.in-Some.framing in
    let is = sym c.request_framing.ensures ∙ c.in-Some.is in
    let put = moves_put (g.S.Source.stream c.args.source.now) c.in_ok-put_request.ensures.ok.sends in
    let sent_on = c.in_ok-forward_body.ensures.ok in
    at_exit _ _ _ c.from_residual-in_err-send.ensures.1 (
      sent_on.0,
      request_text (unnamed Close) r framing ++ sent_on.1,
      head_and_body framing sent_on.0 sent_on.1 is (body_part framing _ sent_on.0 sent_on.1 sent_on.2),
      fails_as (LacksForwarded r) (WantsBody r) refl (append-nil (request_text (unnamed Close) r framing ++ sent_on.1))
          (moves_halts (LacksForwarded r) (WantsBody r) (moves_trans put sent_on.3) c.in_err-send.ensures.err),
      λ at. absurd (halts_unframed _ c.in_err-send.ensures.err at),
      λ at. absurd (halts_unread _ c.in_err-send.ensures.err at),
    )

pub returns-clause-ok : goal.returns-clause-ok
returns-clause-ok g c =
    let r = c.args.view.now in
    let framing = c.in-Some.framing in
    let is = sym c.request_framing.ensures ∙ c.in-Some.is in
    let put = moves_put (g.S.Source.stream c.args.source.now) c.in_ok-put_request.ensures.ok.sends in
    let sent_on = c.in_ok-forward_body.ensures.ok in
    let sent = moves_put (g.S.Source.stream c.forward_body.new.source) c.in_ok-send.ensures.ok in (
      sent_on.0,
      request_text (unnamed Close) r framing ++ sent_on.1,
      record { framing = framing; framed = is; body = sent_on.1; passes = sent_on.2; text_is = refl },
      moves_as (append-nil sent_on.0) (append-nil (request_text (unnamed Close) r framing ++ sent_on.1)) (moves_trans (moves_trans put sent_on.3) sent),
    )

pub forward_body-requires : goal.forward_body-requires
forward_body-requires g c =
    let put = moves_put (g.S.Source.stream c.args.source.now) c.in_ok-put_request.ensures.ok.sends in
    Countable-later put.reads c.requires

pub send-requires : goal.send-requires
send-requires g c =
    let put = moves_put (g.S.Source.stream c.args.source.now) c.in_ok-put_request.ensures.ok.sends in
    (Countable-later (moves_trans put c.in_ok-forward_body.ensures.ok.3).reads c.requires).writes

pub returns-in_err-forward_body-clause-unread : goal.returns-in_err-forward_body-clause-unread
returns-in_err-forward_body-clause-unread g c =
    let is = sym c.request_framing.ensures ∙ c.in-Some.is in
    λ whole. c.in_err-forward_body.ensures.unread (λ wants. whole (c.in-Some.framing, is, subst (IsUnfinished c.in-Some.framing) c.in_ok-put_request.ensures.ok.sends.inbox wants))

pub returns-in_err-send-clause-unread : goal.returns-in_err-send-clause-unread
returns-in_err-send-clause-unread g c =
    let is = sym c.request_framing.ensures ∙ c.in-Some.is in
    λ whole. c.in_ok-forward_body.ensures.unread (λ wants. whole (c.in-Some.framing, is, subst (IsUnfinished c.in-Some.framing) c.in_ok-put_request.ensures.ok.sends.inbox wants))

pub returns-clause-unread : goal.returns-clause-unread
returns-clause-unread g c =
    let is = sym c.request_framing.ensures ∙ c.in-Some.is in
    λ whole. c.in_ok-forward_body.ensures.unread (λ wants. whole (c.in-Some.framing, is, subst (IsUnfinished c.in-Some.framing) c.in_ok-put_request.ensures.ok.sends.inbox wants))
