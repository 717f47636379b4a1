-- What a look for the answer's head finds, and how the exchange is judged by it.
use Rattle.std.proofs.Common.{◌≡◌, ◌≢◌, ◌∙◌, ◌∷◌, ℕ, List, refl, inl, inr, [], sym, arith}
use Rattle.exchange_machine.specs.declared.forwarding.Forwarding.{Forwarding}
use Rattle.exchange_machine.specs.Findings.{LacksHeadRoom}
use Rattle.exchange_machine.specs.declared.sides.Down.TheVariants.{Heads}
use Rattle.exchange_machine.specs.declared.heading.Headed.TheVariants.{More, Interim, Full, Short, Refused, Answer}
use Rattle.exchange_events.specs.Answers.{AwaitsAnswer, RelaysOn, StarvesIn}
use Rattle.exchange_events.specs.declared.exchange.Exchange.{Exchange}
use Rattle.exchange_events.specs.declared.exchange.Outcome.{Outcome}
use Rattle.exchange_events.proofs.Judging.{holds_none, judged_at_body, judged_at_head}
use Rattle.exchange_events.proofs.relaying.go_on.Goals as goal

more_is_no_answer : More ≡ Answer → ⊥
more_is_no_answer is = cc

interim_is_no_answer : Interim ≡ Answer → ⊥
interim_is_no_answer is = cc

full_is_no_answer : Full ≡ Answer → ⊥
full_is_no_answer is = cc

short_is_no_answer : Short ≡ Answer → ⊥
short_is_no_answer is = cc

refused_is_no_answer : Refused ≡ Answer → ⊥
refused_is_no_answer is = cc

without_room : (p : Forwarding) (outcome : Outcome) (next : Exchange)
    → (count : ℕ) × (p.phase ≡ Heads count) × LacksHeadRoom count p
    → (p.down.out ≢ [] → RelaysOn p outcome next) → (p.down.out ≡ [] → StarvesIn p outcome next)
    → AwaitsAnswer p outcome next
without_room p outcome next head waits starves = by_out p.down.out refl
  where
    by_out : (out : List ℕ) → p.down.out ≡ out → AwaitsAnswer p outcome next
    by_out [] is = inr (inr (inr (starves is)))
    by_out (byte ∷ rest) is =
        let behind : p.down.out ≢ [] = λ none. cc in
        inr (inl (record { count = head.0; heads = head.1; room = head.2; behind = behind; relays = waits behind }))

pub returns-in-Answer-clause-judged : goal.returns-in-Answer-clause-judged
returns-in-Answer-clause-judged c =
    let (now, uses, at, up, up_held, down, same, awaits) = c.body_goes_on.ensures.does (c.read_heads.ensures.body c.in-Answer.is) in
    judged_at_body _ _ _ now _ _ c.use_held.ensures.uses c.read_heads.ensures.uses uses
    c.use_held.ensures.all c.read_heads.ensures.up (up, up_held) down
    (λ h is. same h (c.read_heads.ensures.passes h (c.use_held.ensures.passes h is))) at awaits

pub returns-in-More-clause-judged : goal.returns-in-More-clause-judged
returns-in-More-clause-judged c =
    judged_at_head _ _ _ _ _ c.use_held.ensures.uses c.read_heads.ensures.uses c.use_held.ensures.all c.read_heads.ensures.up
    (λ at. c.read_heads.ensures.stays (c.use_held.ensures.phase ∙ at)) (λ h is. c.read_heads.ensures.passes h (c.use_held.ensures.passes h is)) (c.read_heads.ensures.heads (λ answered. more_is_no_answer (sym c.in-More.is ∙ answered)))
    (inl (holds_none _ (c.read_heads.ensures.more c.in-More.is) (c.read_heads.ensures.heads (λ answered. more_is_no_answer (sym c.in-More.is ∙ answered))), c.head_goes_on.ensures.does))

pub returns-in-Interim-clause-judged : goal.returns-in-Interim-clause-judged
returns-in-Interim-clause-judged c =
    judged_at_head _ _ _ _ _ c.use_held.ensures.uses c.read_heads.ensures.uses c.use_held.ensures.all c.read_heads.ensures.up
    (λ at. c.read_heads.ensures.stays (c.use_held.ensures.phase ∙ at)) (λ h is. c.read_heads.ensures.passes h (c.use_held.ensures.passes h is)) (c.read_heads.ensures.heads (λ answered. interim_is_no_answer (sym c.in-Interim.is ∙ answered)))
    (let few = c.read_heads.ensures.few c.in-Interim.is in absurd (omega (arith, few.4, few.5)))

pub returns-in-Full-clause-judged : goal.returns-in-Full-clause-judged
returns-in-Full-clause-judged c =
    judged_at_head _ _ _ _ _ c.use_held.ensures.uses c.read_heads.ensures.uses c.use_held.ensures.all c.read_heads.ensures.up
    (λ at. c.read_heads.ensures.stays (c.use_held.ensures.phase ∙ at)) (λ h is. c.read_heads.ensures.passes h (c.use_held.ensures.passes h is)) (c.read_heads.ensures.heads (λ answered. full_is_no_answer (sym c.in-Full.is ∙ answered)))
    (without_room _ _ _ (c.read_heads.ensures.full c.in-Full.is) c.no_room-in-Full.ensures.waits c.no_room-in-Full.ensures.starves)

pub returns-in-Short-clause-judged : goal.returns-in-Short-clause-judged
returns-in-Short-clause-judged c =
    judged_at_head _ _ _ _ _ c.use_held.ensures.uses c.read_heads.ensures.uses c.use_held.ensures.all c.read_heads.ensures.up
    (λ at. c.read_heads.ensures.stays (c.use_held.ensures.phase ∙ at)) (λ h is. c.read_heads.ensures.passes h (c.use_held.ensures.passes h is)) (c.read_heads.ensures.heads (λ answered. short_is_no_answer (sym c.in-Short.is ∙ answered)))
    (inr (inr (inr c.refused_short.ensures.does)))

pub returns-in-Refused-clause-judged : goal.returns-in-Refused-clause-judged
returns-in-Refused-clause-judged c =
    judged_at_head _ _ _ _ _ c.use_held.ensures.uses c.read_heads.ensures.uses c.use_held.ensures.all c.read_heads.ensures.up
    (λ at. c.read_heads.ensures.stays (c.use_held.ensures.phase ∙ at)) (λ h is. c.read_heads.ensures.passes h (c.use_held.ensures.passes h is)) (c.read_heads.ensures.heads (λ answered. refused_is_no_answer (sym c.in-Refused.is ∙ answered)))
    (let none = c.read_heads.ensures.none c.in-Refused.is in inr (inr (inl (record { count = none.0; heads = none.1; none = none.2; stops = c.refused_badly.ensures.does }))))

pub returns-in-Full-clause-at : goal.returns-in-Full-clause-at
returns-in-Full-clause-at c h is = c.no_room-in-Full.ensures.at h (c.read_heads.ensures.passes h (c.use_held.ensures.passes h is))
