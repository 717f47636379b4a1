-- Answers that were read whole.
use Rattle.std.proofs.Common.{◌≡◌, ◌∙◌, ◌&&◌, ℕ, Bool, true, false, true≢false, cond, List, [], ◌∷◌, ◌++◌, refl, sym, ap, append_assoc, append-nil, subst}
use Rattle.httparse.specs.Grammar.{print_response}
use Rattle.http_bodies.specs.Framings.{IsBody}
use Rattle.http_bodies.specs.declared.framing.Framing as Framed
use Rattle.http_texts.specs.Messages.{print_heads}
use Rattle.http_texts.specs.Persistences.{is_delimited}
use Rattle.http_texts.specs.Replies.{leave_text}
use Rattle.http_texts.specs.Texts.{framed_for}
use Rattle.req_view.specs.Request.{request_of}
use Rattle.http_bodies.specs.Parts.{next, told as given_for, is_over}
use Rattle.http_bodies.specs.Readings.{Feeds, Reading, behind, reading, read_parts, start_of}
use Rattle.http_bodies.specs.Stops.{is_done}
use Rattle.http_bodies.specs.declared.coding.Coding.{Coding}
use Rattle.http_bodies.specs.declared.coding.Coding.TheVariants.{Length, ToEnd, Chunked}
use Rattle.http_bodies.specs.declared.coding.Part.{Part}
use Rattle.http_bodies.specs.declared.coding.Part.TheVariants.{Digits}
use Rattle.exchange_machine.specs.Answerings.{TellsAnswer, is_read_at}
use Rattle.exchange_machine.specs.Histories.{ExchangeHistory}
use Rattle.exchange_machine.specs.Reasons.{Shows}
use Rattle.exchange_machine.specs.Settlings.{IsSettling}
use Rattle.exchange_machine.specs.Sides.{AtBody}
use Rattle.exchange_machine.specs.Stages.{IsForwarding}
use Rattle.exchange_machine.specs.Wants.{is_none}
use Rattle.exchange_machine.specs.Wholes.{told}
use Rattle.exchange_machine.specs.declared.forwarding.Forwarding.{Forwarding}
use Rattle.exchange_machine.specs.declared.settling.Settling.{Settling}
use Rattle.exchange_machine.specs.declared.sides.Down.{Down}
use Rattle.exchange_machine.specs.declared.sides.Down.TheVariants.{Heads, Body}
use Rattle.exchange_machine.specs.declared.signs.Sign.TheVariants.{ServerEnded}
use Rattle.exchange_machine.proofs.SideLemmas.{down_as, feeds_body}

abbrev is_end : Coding → Bool
is_end (Length left) = false
is_end ToEnd = true
is_end (Chunked framed part) = false

-- of chunks comes no body to the end of the input
chunks_stay : (framed : Bool) (part : Part) (input : List ℕ) → is_end (read_parts framed part input).coding ≡ false
chunks_stay framed part [] = refl
chunks_stay framed part (b ∷ input) =
    elim (is_over part) as
    (λ v. is_end (cond v (reading [] (b ∷ input) (Chunked framed part)) (behind (given_for framed part b) (read_parts framed (next part b) input))).coding ≡ false)
    [ true ↦ refl | false ↦ chunks_stay framed (next part b) input ]

-- a body that goes to the end of the input goes on so
end_stays : (framing : Framed.Framing) (framed : Bool) (c : Coding) (taken given : List ℕ) → Feeds (start_of framing framed) c taken given
    → framing ≡ Framed.Framing.ToEnd → is_end c ≡ true
end_stays framing framed (Length left) taken given f e =
    let g = subst (λ (q : Framed.Framing). Feeds (start_of q framed) (Length left) taken given) e f in
    ap (λ (r : Reading). is_end r.coding) (sym (g.goes_on []))
end_stays framing framed ToEnd taken given f e = refl
end_stays framing framed (Chunked fr part) taken given f e =
    let g = subst (λ (q : Framed.Framing). Feeds (start_of q framed) (Chunked fr part) taken given) e f in
    ap (λ (r : Reading). is_end r.coding) (sym (g.goes_on []))

-- and is all that came of it
end_body : (framing : Framed.Framing) (framed : Bool) (taken given : List ℕ) → Feeds (start_of framing framed) ToEnd taken given
    → IsBody framing framed taken given
end_body Framed.Framing.Empty framed taken given f = absurd (true≢false (ap (λ (r : Reading). is_end r.coding) (sym (f.goes_on []))))
end_body (Framed.Framing.Length count) framed taken given f = absurd (true≢false (ap (λ (r : Reading). is_end r.coding) (sym (f.goes_on []))))
end_body Framed.Framing.Chunked framed taken given f =
    absurd (true≢false (ap (λ (r : Reading). is_end r.coding) (sym (f.goes_on [])) ∙ chunks_stay framed (Digits 0 0) (taken ++ [])))
end_body Framed.Framing.ToEnd framed taken given f =
    sym (append-nil given) ∙ ap (λ (r : Reading). r.text) (sym (f.goes_on [])) ∙ append-nil taken

both_first : (a b : Bool) → (a && b) ≡ true → a ≡ true
both_first true b is = refl
both_first false b is = is

tells : (p : Forwarding) (h : ExchangeHistory) → (is : IsForwarding p h)
    → (a : AtBody p.says p.kept p.view.method (framed_for p.view.version) p.down.coding p.down_held.items h.server_in is.answer)
    → IsBody a.plan.body (framed_for p.view.version) a.taken a.sent_on → (a.plan.body ≡ Framed.Framing.ToEnd → Shows h.signs ServerEnded)
    → TellsAnswer h.signs h.client_in h.server_in (leave_text p.view ++ is.answer)
tells p h is a body ends =
    let heads = print_heads a.interims in
    let head = print_response a.head in
    record {
      says = p.says;
      request = p.view;
      behind = is.behind;
      asked = is.asked;
      came = heads ++ (head ++ a.taken);
      extra = p.down_held.items;
      came_is =
          a.came_is ∙ ap (λ l. heads ++ l) (sym (append_assoc head a.taken p.down_held.items))
          ∙ sym (append_assoc heads (head ++ a.taken) p.down_held.items);
      given = is.answer;
      answered = record {
        interims = a.interims;
        are = a.are;
        head = a.head;
        plan = a.plan;
        final = a.final;
        body = a.taken;
        sent_on = a.sent_on;
        passes = body;
        used_is = refl;
        text_is = a.given_is;
      };
      text_is = refl;
      ends = ends;
    }

-- what a client is told where the answer was read whole
pub forwarding_tells : (p : Forwarding) (h : ExchangeHistory) (phase : Down) (c : Coding) → (is : IsForwarding p h) → p.phase ≡ phase → p.down.coding ≡ c
    → is_read_at phase c (p.well && is_none p.down_held.items) ≡ true
    → TellsAnswer h.signs h.client_in h.server_in (leave_text p.view ++ is.answer)
forwarding_tells p h (Heads count) c is at coding whole = absurd (true≢false (sym whole))
forwarding_tells p h Body (Length left) is at coding whole =
    let a = down_as {p = p} {h = h} Body at is in
    let framed = framed_for p.view.version in
    tells p h is a (feeds_body a.plan.body framed p.down.coding a.taken a.sent_on a.feeds (ap is_done coding ∙ whole))
    (λ e. absurd (true≢false (sym (end_stays a.plan.body framed p.down.coding a.taken a.sent_on a.feeds e) ∙ ap is_end coding)))
forwarding_tells p h Body ToEnd is at coding whole =
    let a = down_as {p = p} {h = h} Body at is in
    let framed = framed_for p.view.version in
    tells p h is a
    (end_body a.plan.body framed a.taken a.sent_on
    (subst (λ (c : Coding). Feeds (start_of a.plan.body framed) c a.taken a.sent_on) coding a.feeds))
    (λ e. is.well (both_first p.well (is_none p.down_held.items) whole))
forwarding_tells p h Body (Chunked fr part) is at coding whole =
    let a = down_as {p = p} {h = h} Body at is in
    let framed = framed_for p.view.version in
    tells p h is a (feeds_body a.plan.body framed p.down.coding a.taken a.sent_on a.feeds (ap is_done coding ∙ whole))
    (λ e. absurd (true≢false (sym (end_stays a.plan.body framed p.down.coding a.taken a.sent_on a.feeds e) ∙ ap is_end coding)))

-- whose messages were whole was told a whole answer
pub settling_tells : (s : Settling) (h : ExchangeHistory) → (is : IsSettling s h) → TellsAnswer h.signs h.client_in h.server_in (told is.whole)
settling_tells s h is =
    let w = is.whole in
    let framed = framed_for (request_of w.head).version in
    record {
      says = w.says;
      request = request_of w.head;
      behind = w.body ++ s.behind.items;
      asked = record {
        head = w.head;
        is = is.ends.is.head;
        request_is = refl;
        input_is = is.ends.came ∙ append_assoc _ w.body s.behind.items;
      };
      came = w.answer;
      extra = is.extra;
      came_is = is.ends.answers;
      given = w.text;
      answered = is.ends.is.answered;
      text_is = refl;
      ends = λ e. absurd (true≢false (sym (is.ends.is.delimits is.left_open) ∙ ap (is_delimited framed) e));
    }
