-- What a call changes of an exchange with both sides active, and what it leaves as it was.
use Rattle.std.specs.Prelude.{◌≡◌, ◌≢◌, ℕ, ◌+◌, ◌-◌, ◌≤◌, ◌==◌, nat_lt, Bool, true, false, ◌||◌, not, List, [], ◌++◌, length, take, drop, Some}
use Rattle.std.specs.List.{list_any}
use Rattle.http_bodies.specs.declared.outbox.TheConstants.{OUTBOX_BYTES}
use Rattle.http_bodies.specs.Stops.{is_done}
use Rattle.http_texts.specs.Framings.{answer_plan, is_interim}
use Rattle.http_texts.specs.Persistences.{answer_says, is_kept_by_server}
use Rattle.http_texts.specs.Replies.{leave_text, refusal_text}
use Rattle.http_texts.specs.declared.plans.Plan.{Plan}
use Rattle.http_texts.specs.declared.persistence.Persistence.TheVariants.{Close}
use Rattle.http_texts.specs.declared.refusals.Code.{Code}
use Rattle.req_view.specs.Answer.{Answer}
use Rattle.req_view.specs.AnswerHeads.{SaysAnswer}
use Rattle.exchange_machine.specs.Answerings.{has_answered}
use Rattle.exchange_machine.specs.Settlings.{is_clean}
use Rattle.exchange_machine.specs.declared.dialing.Dialing.{Dialing}
use Rattle.exchange_machine.specs.declared.dialing.Terms.{Terms}
use Rattle.exchange_machine.specs.declared.ending.Ended.{Ended}
use Rattle.exchange_machine.specs.declared.ending.Rest.{Rest}
use Rattle.exchange_machine.specs.declared.ending.Rest.TheVariants.{Settling, Leaving}
use Rattle.exchange_machine.specs.declared.forwarding.Forwarding.{Forwarding}
use Rattle.exchange_machine.specs.declared.sides.Down.TheVariants.{Heads, Body}

-- whether the client took a byte behind the `100`, once it took this number of bytes more, where
-- `left` of the `100` were left; and how many of it are left then
abbrev pub begun_after : Bool → ℕ → ℕ → Bool
begun_after begun left count = begun || nat_lt left count

abbrev pub left_after : ℕ → ℕ → ℕ
left_after left count = left - count

-- whether a head is looked for in the held bytes, now that these came: one was to be looked for, or a
-- line has ended in them, or no more bytes are held than these
abbrev pub looks_again : Bool → List ℕ → ℕ → Bool
looks_again looks came held = looks || (list_any (λ byte. byte == 10) came || not (nat_lt held 16384))

-- The answer's own head stood at the front of what was held: from it follows what the client is told
-- of its connection, and whether the server keeps its own.
pub record HasHeaded (p q : Forwarding) : Type 0 where
  pub answer : Answer
  pub len : ℕ
  pub plan : Plan
  pub stands : SaysAnswer p.down_held.items answer len
  pub planned : answer_plan p.view.method answer ≡ Some plan
  pub final : is_interim answer.status ≡ false
  pub says : q.says ≡ answer_says p.willing p.view plan
  pub kept : q.kept ≡ is_kept_by_server answer plan
  pub behind : q.down_held.items ≡ drop len p.down_held.items

-- A request whose server was reached: the whole request is still to be sent, nothing came of an
-- answer, and the client took nothing.
pub record IsBegunOn (d : Dialing) (terms : Terms) (p : Forwarding) : Type 0 where
  pub view : p.view ≡ d.waiting.asked.view
  pub pass : p.pass ≡ d.pass
  pub framing : p.framing ≡ d.waiting.asked.framing
  pub held : p.up_held ≡ d.waiting.asked.held
  pub reached : p.reached ≡ d.reached
  pub terms_are : (p.adds ≡ terms.adds) × (p.willing ≡ terms.willing) × (p.fresh ≡ terms.fresh)
  pub server : (p.cut ≡ false) × (p.ended ≡ false) × (p.well ≡ false) × (p.dialing ≡ false)
  pub answer : (p.phase ≡ Heads 0) × (p.down_held.items ≡ []) × (p.looks ≡ false)
  pub leave : (p.down.out ≡ leave_text d.waiting.asked.view) × (p.leave_left ≡ length p.down.out)
  pub client : p.begun ≡ false

-- It ends with this refusal in place of an answer: behind what is left of the `100`, the client is
-- sent the refusal whole, where there is room for it.
pub record EndsRefused (p : Forwarding) (code : Code) (e : Ended) : Type 0 where
  pub pass : e.pass ≡ p.pass
  pub told : length (take p.leave_left p.down.out) + length (refusal_text code) ≤ OUTBOX_BYTES → e.rest.out.out ≡ take p.leave_left p.down.out ++ refusal_text code
  pub closed : (e.rest.whole ≡ false) × (e.rest.clean ≡ false)

-- the same exchange, which has taken or used bytes: nothing else changed
abbrev pub Uses : Forwarding → Forwarding → Type 0
Uses p q = q ≡ record p {
  up = q.up;
  up_held = q.up_held;
  phase = q.phase;
  down = q.down;
  down_held = q.down_held;
  says = q.says;
  kept = q.kept;
  looks = q.looks;
}

-- what is left of it once its pass is given away: what waits for its client, whether its answer was
-- read whole and its server's connection is clean, and where its client may ask again, which it may
-- where both messages were whole and it was told so, the bytes behind its request
abbrev pub IsLeftOf : Forwarding → Rest → Type 0
IsLeftOf p (Settling s) = (s.out ≡ p.down) × (s.behind ≡ p.up_held) × (s.clean ≡ is_clean p)
IsLeftOf p (Leaving l) = (l.out ≡ p.down) × (l.whole ≡ has_answered p) × (l.clean ≡ is_clean p)
    × (p.phase ≡ Body → is_done p.up.coding ≡ true → is_done p.down.coding ≡ true → p.says ≢ Close → ⊥)
