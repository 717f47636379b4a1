-- How an exchange with both sides active is judged, once what it held was used.
use Rattle.std.proofs.Common.{◌≡◌, ◌≢◌, ℕ, false, List, [], ◌∷◌, ◌++◌, inl, inr, refl, subst}
use Rattle.exchange_machine.specs.Changes.{Uses}
use Rattle.exchange_machine.specs.Ways.{IsUsedUp}
use Rattle.exchange_machine.specs.Histories.{ExchangeHistory}
use Rattle.exchange_machine.specs.Stages.{HoldsNoHead, IsForwarding}
use Rattle.exchange_machine.specs.declared.forwarding.Forwarding.{Forwarding}
use Rattle.exchange_machine.specs.declared.sides.Down.{Down}
use Rattle.exchange_machine.specs.declared.way.Way.{Way}
use Rattle.exchange_machine.specs.declared.sides.Down.TheVariants.{Body, Heads}
use Rattle.exchange_events.specs.Answers.{AwaitsAnswer, AwaitsBody, IsRelayJudged}
use Rattle.exchange_events.specs.declared.exchange.Exchange.{Exchange}
use Rattle.exchange_events.specs.declared.exchange.Outcome.{Outcome}

pub uses_both : (p q r : Forwarding) → Uses p q → Uses q r → Uses p r
uses_both p q r one two = subst (λ s. r ≡ record s {
  up = r.up;
  up_held = r.up_held;
  phase = r.phase;
  down = r.down;
  down_held = r.down_held;
  says = r.says;
  kept = r.kept;
  looks = r.looks;
}) one two

heads_of : (d : Down) → d ≢ Body → (count : ℕ) × (d ≡ Heads count)
heads_of (Heads count) other = (count, refl)
heads_of Body other = absurd (other refl)

-- where some bytes are left, more of them behind change nothing
pub used_up_more : (way : Way) (left more : List ℕ) → left ≢ [] → IsUsedUp way left → IsUsedUp way (left ++ more)
used_up_more way [] more some used = absurd (some refl)
used_up_more way (byte ∷ left) more some (inl none) = absurd (some none)
used_up_more way (byte ∷ left) more some (inr other) = inr other

-- where no line has ended since the last look, no whole head is held
pub holds_none : (p : Forwarding) → p.looks ≡ false → p.phase ≢ Body → HoldsNoHead p
holds_none p dry other h is =
    let at = heads_of p.phase other in
    is.looked dry at.0 at.1

pub judged_at_head : (p q r : Forwarding) (outcome : Outcome) (next : Exchange) → Uses p q → Uses q r
    → IsUsedUp q.up q.up_held.items → (r.up ≡ q.up) × (r.up_held ≡ q.up_held) → (p.phase ≡ Body → r.phase ≡ Body)
    → ((h : ExchangeHistory) → IsForwarding p h → IsForwarding r h) → r.phase ≢ Body → AwaitsAnswer r outcome next → IsRelayJudged p outcome next
judged_at_head p q r outcome next one two up kept stays same heads awaits = record {
  now = r;
  uses = uses_both p q r one two;
  stays = stays;
  same = same;
  up_all = rw (kept.0, kept.1) up;
  down_all = λ at. absurd (heads at);
  head = λ other. awaits;
  body = λ at. absurd (heads at);
}

pub judged_at_body : (p q r s : Forwarding) (outcome : Outcome) (next : Exchange) → Uses p q → Uses q r → Uses r s
    → IsUsedUp q.up q.up_held.items → (r.up ≡ q.up) × (r.up_held ≡ q.up_held) → (s.up ≡ r.up) × (s.up_held ≡ r.up_held)
    → IsUsedUp s.down s.down_held.items
    → ((h : ExchangeHistory) → IsForwarding p h → IsForwarding s h) → s.phase ≡ Body → AwaitsBody s outcome next → IsRelayJudged p outcome next
judged_at_body p q r s outcome next one two three up kept still down same body awaits = record {
  now = s;
  uses = uses_both p q s one (uses_both q r s two three);
  stays = λ at. body;
  same = same;
  up_all = rw (still.0, still.1, kept.0, kept.1) up;
  down_all = λ at. down;
  head = λ other. absurd (other body);
  body = λ at. awaits;
}
