use Rattle.exchange_machine.proofs.EventLemmas.{forwarding_marked, head_refused, none_follows}
use Rattle.std.proofs.Common.{◌∙◌, List, ℕ, ap, refl, subst, sym}
use Rattle.exchange_machine.specs.Stages.{AwaitsAnswerHead}
use Rattle.exchange_machine.proofs.HeadEnds.{may_come}
use Rattle.exchange_machine.specs.Reasons.{NoneFollows}
use Rattle.exchange_machine.specs.Findings.{IsSeen, LacksHeadRoom}
use Rattle.exchange_machine.specs.declared.forwarding.Forwarding.{Forwarding}
use Rattle.exchange_machine.specs.declared.heading.Seen.TheVariants.{Final}
use Rattle.http_texts.specs.declared.roles.Role.TheVariants as Roles
use Rattle.exchange_machine.proofs.forwarding.Forwarding.read_head.Goals as goal

pub returns-in-Refused-clause-refused : goal.returns-in-Refused-clause-refused
returns-in-Refused-clause-refused c refused h is =
    head_refused c.args.self.now h c.in-Heads.count c.as_slice.result.now c.method.result.now c.in-Refused.why c.method.ensures c.as_slice.ensures.value is
    c.in-Heads.is c.in-Refused.ensures (c.headed_for.ensures.memory refused)

pub returns-in-Refused-clause-none : goal.returns-in-Refused-clause-none
returns-in-Refused-clause-none c refused =
    let none = none_follows c.method.result.now c.in-Heads.count c.as_slice.result.now c.in-Refused.why c.in-Refused.ensures (c.headed_for.ensures.memory refused) in
    let held = subst (λ (l : List ℕ). NoneFollows c.method.result.now c.in-Heads.count l) c.as_slice.ensures.value none in
    (c.in-Heads.count, c.in-Heads.is, subst (λ (m : List ℕ). NoneFollows m c.in-Heads.count c.args.self.now.down_held.items) c.method.ensures held)

pub returns-in-Interim-clause-headed : goal.returns-in-Interim-clause-headed
returns-in-Interim-clause-headed c answered = absurd (c.forward_interim.ensures.answered.2 answered)

pub returns-in-More-clause-passes : goal.returns-in-More-clause-passes
returns-in-More-clause-passes c h is =
    forwarding_marked c.args.self.now _ h is (λ dry count at. subst AwaitsAnswerHead c.as_slice.ensures.value (record {
      none = c.in-More.ensures.none;
      may = may_come c.as_slice.result.now c.in-More.ensures;
    })) refl

pub returns-in-Final-clause-interim : goal.returns-in-Final-clause-interim
returns-in-Final-clause-interim c interim = absurd (c.forward_final.ensures.answered.2 interim)

pub returns-in-Refused-clause-interim : goal.returns-in-Refused-clause-interim
returns-in-Refused-clause-interim c interim = absurd (c.headed_for.ensures.unanswered.2 interim)

pub returns-in-Final-clause-full : goal.returns-in-Final-clause-full
returns-in-Final-clause-full c is =
    let same = c.forward_final.ensures.full is in
    let held = subst (λ (l : List ℕ). IsSeen c.method.result.now c.in-Heads.count l (Final c.in-Final.head c.in-Final.len c.in-Final.plan)) c.as_slice.ensures.value c.in-Final.ensures in
    let seen = subst (λ (m : List ℕ). IsSeen m c.in-Heads.count c.args.self.now.down_held.items (Final c.in-Final.head c.in-Final.len c.in-Final.plan)) c.method.ensures held in (
      c.in-Heads.count,
      ap (λ (p : Forwarding). p.phase) same ∙ c.in-Heads.is,
      subst (λ (p : Forwarding). LacksHeadRoom c.in-Heads.count p) (sym same) (record {
        answer = c.in-Final.head;
        len = c.in-Final.len;
        says = seen.0;
        role = Roles.Final c.in-Final.plan;
        handed = λ wrong. cc;
        its = seen.1;
        room = c.forward_final.ensures.room is;
      }),
    )
