-- The heads before the answer and its own, and then the rest of it.
use Rattle.std.proofs.Common.{◌≡◌, ◌∙◌, ℕ, List, ◌++◌, refl, ap, append_assoc, subst, inl}
use Rattle.std.proofs.lemmas.Result.{IfErr-weaker, on_ok_weaker}
use Rattle.httparse.specs.Grammar.{print_response}
use Rattle.http_bodies.proofs.Exits.{at_exit}
use Rattle.http_bodies.specs.Framings.{IsBody, PartOfBody, IsUnfinished}
use Rattle.http_bodies.specs.Runs.{IsSent}
use Rattle.http_bodies.specs.Steps.{ends, HoldsBack}
use Rattle.http_bodies.proofs.Stepping.{moves_trans, moves_as}
use Rattle.http_texts.specs.Messages.{NoBody, LacksAnswer, print_heads, interims_text}
use Rattle.http_texts.specs.Messages.PartOfAnswered.{some_heads, head_and_body}
use Rattle.http_texts.specs.Texts.{answer_text, framed_for}
use Rattle.relay_http.specs.Wants.{WantsAnswer}
use Rattle.relay_http.proofs.Wanting.{body_wanted}
use Rattle.relay_http.proofs.Failing.{moves_fails, fails_as}
use Rattle.relay_http.proofs.Holding.{head_held}
use Rattle.http_texts.proofs.Forwarding.{body_then}
use Rattle.req_view.specs.Answer.{answer_of}
use Rattle.http_texts.specs.declared.persistence.Persistence.TheVariants.{Close}
use Rattle.relay_http.proofs.messages.forward_answer.Goals as goal

pub returns-in_err-planned-clause-err : goal.returns-in_err-planned-clause-err
returns-in_err-planned-clause-err g c =
    let part = c.in_err-planned.ensures.err in
    at_exit _ _ _ c.from_residual.ensures.1 (_, _, some_heads part.0 part.1, part.2, λ at held waits few. inl (part.3 at waits), part.4)

pub returns-clause-ok : goal.returns-clause-ok
returns-clause-ok g c =
    let framed = framed_for c.args.view.now.version in
    let read = c.in_ok-planned.ensures.ok in
    let hs = read.0 in
    let h = read.1 in
    let plan = c.in_ok-planned.planned.plan in
    let heads = print_heads hs ++ print_response h in
    let before = interims_text framed hs in
    let text = answer_text Close framed (answer_of h) plan in
    let told = c.is_framed.ensures ∙ ap framed_for c.version.ensures in
    let same : answer_text Close c.is_framed.result c.in_ok-planned.planned.head plan ≡ text = λ i. answer_text Close (told i) (read.4 i) plan in
    on_ok_weaker c.forward_planned.result (λ rest. (
      print_heads hs ++ (print_response h ++ rest.0),
      before ++ (text ++ rest.1),
      record {
        interims = hs;
        are = read.2;
        head = h;
        plan = plan;
        final = read.3;
        body = rest.0;
        sent_on = rest.1;
        passes = subst (λ b. IsBody plan.body b rest.0 rest.1) told rest.2;
        used_is = refl;
        text_is = refl;
      },
      moves_as (append_assoc (print_heads hs) (print_response h) rest.0)
          (ap (λ (l : List ℕ). before ++ (l ++ rest.1)) same) (moves_trans read.5 rest.3),
      rest.4,
      rest.5,
    )) c.forward_planned.ensures.ok

pub returns-clause-err : goal.returns-clause-err
unfolding moves_fails fails_as
returns-clause-err g c =
    let method = c.args.view.now.method in
    let framed = framed_for c.args.view.now.version in
    let read = c.in_ok-planned.ensures.ok in
    let hs = read.0 in
    let h = read.1 in
    let plan = c.in_ok-planned.planned.plan in
    let before = interims_text framed hs in
    let text = answer_text Close framed (answer_of h) plan in
    let told = c.is_framed.ensures ∙ ap framed_for c.version.ensures in
    let same : answer_text Close c.is_framed.result c.in_ok-planned.planned.head plan ≡ text = λ i. answer_text Close (told i) (read.4 i) plan in
    let mid = ends c.read_answer.new.pipe (g.S.Source.stream c.read_answer.new.source) (g.K.Sink.stream c.read_answer.new.sink) in
    let end = ends c.forward_planned.new.pipe (g.S.Source.stream c.forward_planned.new.source) (g.K.Sink.stream c.forward_planned.new.sink) in
    IfErr-weaker c.forward_planned.result _ _ (λ fault part. (
      print_heads hs ++ (print_response h ++ part.0),
      before ++ (text ++ part.1),
      head_and_body hs h plan part.0 part.1 read.2 read.3 (subst (λ b. PartOfBody plan.body b part.0 part.1) told part.2),
      fails_as (LacksAnswer method) (WantsAnswer method) (append_assoc (print_heads hs) (print_response h) part.0)
          (ap (λ (l : List ℕ). before ++ (l ++ part.1)) same)
          (moves_fails (NoBody plan.body) (LacksAnswer method) (IsUnfinished plan.body) (WantsAnswer method)
          (λ l why. body_then method hs h plan _ l read.2 read.3 why) (λ l wants. body_wanted method hs h plan l read.2 read.3 wants) read.5 part.3
          (λ at waits. part.3.told at (c.in_ok-planned.ensures.empty waits))),
      λ at held waits few. head_held {b = mid} {c = end} (text ++ part.1) (framed_for c.args.view.now.version) hs h held waits (c.in_ok-planned.ensures.empty waits) read.5 part.3.reads few
          (subst (λ (l : List ℕ). HoldsBack mid end (l ++ part.1)) same (part.4 at)),
      λ at. subst (λ b. IsSent plan.body b (part.0 ++ part.3.rest) part.1) told (part.5 at),
    )) c.forward_planned.ensures.err
