-- A request that is sent once more.
use Rattle.std.proofs.Common.{◌≡◌, ◌∙◌, ◌&&◌, ℕ, Bool, true, false, true≢false, inl, inr, cond, Some, List, [], ◌∷◌, ◌++◌, length, refl, sym, ap, arith, append-nil, subst}
use Rattle.std.proofs.lemmas.Bool.Decides.{nat_tests}
use Rattle.std.proofs.lemmas.Grind.{flat_map-append}
use Rattle.std.specs.List.{flat_map}
use Rattle.httparse.specs.Grammar.{ResponseHead}
use Rattle.base_lists.proofs.Members.{all_append}
use Rattle.http_bodies.specs.declared.framing.Framing.{Framing}
use Rattle.http_bodies.specs.declared.framing.Framing.TheVariants.{Empty, Length as Sized, Chunked as InChunks, ToEnd as UpToEnd}
use Rattle.http_texts.specs.Framings.{request_framing}
use Rattle.http_texts.specs.Messages.{print_heads}
use Rattle.http_texts.specs.Replies.{leave_text, has_body, expects}
use Rattle.http_texts.specs.Texts.{framed_for, request_text}
use Rattle.req_view.specs.Request.{Request, values_of}
use Rattle.std.specs.Prelude.{codes}
use Rattle.http_bodies.specs.Readings.{Reading, Feeds, start_of}
use Rattle.http_bodies.specs.declared.coding.Coding.{Coding}
use Rattle.http_bodies.specs.declared.coding.Coding.TheVariants.{Length}
use Rattle.http_bodies.proofs.Running.{read_nothing}
use Rattle.exchange_machine.specs.Requests.{IsAskedBy}
use Rattle.exchange_machine.specs.Histories.{ExchangeHistory, retried, reached_by}
use Rattle.exchange_machine.specs.Repeatables.{IsRepeatable, IsUntouched}
use Rattle.exchange_machine.specs.Repeats.{is_bare, IsTry}
use Rattle.exchange_machine.specs.Repeats.IsTry.{unsent, repeated}
use Rattle.exchange_machine.specs.Sides.{IsDown}
use Rattle.exchange_machine.specs.Stages.{IsForwarding, IsDialing}
use Rattle.exchange_machine.specs.declared.sides.Down.TheVariants.{Heads}
use Rattle.exchange_machine.specs.declared.forwarding.Forwarding.{Forwarding}
use Rattle.exchange_machine.proofs.SideLemmas.{down_as, no_interims}

shut : (a b c : Bool) → b ≡ false → (a && b && c) ≡ false
shut true true true is = is
shut true true false is = refl
shut true false true is = refl
shut true false false is = refl
shut false true true is = refl
shut false true false is = refl
shut false false true is = refl
shut false false false is = refl

no_body : (f : Framing) → is_bare f ≡ true → has_body (Some f) ≡ false
no_body Empty is = refl
no_body (Sized count) is = grind (arith, nat_tests)
no_body InChunks is = absurd cc
no_body UpToEnd is = absurd cc

-- without a body nobody waits for leave
no_leave : (r : Request) (f : Framing) → request_framing r ≡ Some f → is_bare f ≡ true → leave_text r ≡ []
no_leave r f framed bare =
    let none : has_body (request_framing r) ≡ false = ap has_body framed ∙ no_body f bare in
    ap (λ b. cond b (codes "HTTP/1.1 100 Continue\r\n\r\n") [])
    (shut (framed_for r.version) (has_body (request_framing r)) (expects (values_of (codes "Expect") r.fields)) none)

start_bare : (f : Framing) → is_bare f ≡ true → start_of f true ≡ Length 0
start_bare Empty is = refl
start_bare (Sized count) is =
    let none : count ≡ 0 = grind (arith, nat_tests) in
    ap Length none
start_bare InChunks is = absurd cc
start_bare UpToEnd is = absurd cc

nil_left : {A : Type 0} (xs ys : List A) → [] ≡ xs ++ ys → xs ≡ []
nil_left [] ys e = refl
nil_left (x ∷ xs) ys e = absurd cc

-- of no body nothing is taken, and nothing is given for it
feeds_none : (c : Coding) (taken sent_on : List ℕ) → Feeds (Length 0) c taken sent_on → (taken ≡ []) × (sent_on ≡ [])
feeds_none c taken sent_on f =
    let e = f.goes_on [] ∙ ap (λ (r : Reading). record { text = sent_on ++ r.text; rest = r.rest; coding = r.coding }) (read_nothing c) in
    let rests : taken ++ [] ≡ [] = ap (λ (r : Reading). r.rest) e in
    let texts : [] ≡ sent_on ++ [] = ap (λ (r : Reading). r.text) e in
    (sym (append-nil taken) ∙ rests, nil_left sent_on [] texts)

no_heads : (hs : List ResponseHead) → 0 ≡ length hs → print_heads hs ≡ []
no_heads [] is = refl
no_heads (h ∷ hs) is = absurd (omega (arith, is))

right_nil : {A : Type 0} (xs ys : List A) → xs ++ ys ≡ [] → ys ≡ []
right_nil [] ys e = e
right_nil (x ∷ xs) ys e = absurd cc

-- nothing came of the server of which no head was read and nothing is held
none_came : (p : Forwarding) (h : ExchangeHistory) → IsForwarding p h → p.phase ≡ Heads 0 → p.down_held.items ≡ [] → h.server_in ≡ []
none_came p h is heads none =
    let at = down_as {p = p} {h = h} (Heads 0) heads is in
    at.came_is ∙ ap (λ l. print_heads at.interims ++ l) none ∙ append-nil (print_heads at.interims) ∙ no_heads at.interims at.count_is

-- a connection more is among those that broke, and no byte more reached a server
all_reached : (h : ExchangeHistory) → reached_by (retried h) ≡ reached_by h
all_reached h =
    append-nil (flat_map (λ (t : List ℕ). t) (h.tries ++ h.to_server ∷ [])) ∙ flat_map-append (λ (t : List ℕ). t) h.tries (h.to_server ∷ [])
    ∙ ap (λ l. flat_map (λ (t : List ℕ). t) h.tries ++ l) (append-nil h.to_server)

none_sent : (h : ExchangeHistory) → reached_by h ≡ [] → h.to_server ≡ []
none_sent h none = right_nil (flat_map (λ (t : List ℕ). t) h.tries) h.to_server none

pub forwarding_again : (p : Forwarding) (h : ExchangeHistory) → IsForwarding p h → IsRepeatable p
    → (h.server_in ≡ []) × IsDialing
    (record { waiting = record { asked = record { view = p.view; framing = p.framing; held = p.up_held } }; pass = p.pass; reached = p.reached })
    (retried h)
forwarding_again p h is may =
    let u = is.up in
    let at = down_as {p = p} {h = h} (Heads 0) may.heads is in
    let answer : is.answer ≡ [] = at.given_is ∙ no_interims at.interims (framed_for p.view.version) at.count_is in
    let leave = no_leave p.view p.framing is.framed may.bare in
    let nothing : [] ≡ h.to_client ++ p.down.out = ap (λ l. l ++ []) (sym leave) ∙ ap (λ l. leave_text p.view ++ l) (sym answer) ∙ is.told in
    let both : Some u.framing ≡ Some p.framing = sym u.framed ∙ is.framed in
    let framings : u.framing ≡ p.framing = cc in
    let start : start_of u.framing true ≡ Length 0 = ap (λ (f : Framing). start_of f true) framings ∙ start_bare p.framing may.bare in
    let fed = feeds_none p.up.coding u.taken u.sent_on (subst (λ (c : Coding). Feeds c p.up.coding u.taken u.sent_on) start u.feeds) in
    let behind : is.behind ≡ p.up_held.items = u.came_is ∙ ap (λ l. l ++ p.up_held.items) fed.0 in
    let text : request_text p.adds p.view p.framing ≡ h.to_server ++ p.up.out =
    ap (request_text p.adds p.view) (sym framings) ∙ sym (append-nil (request_text p.adds p.view u.framing))
    ∙ ap (λ l. request_text p.adds p.view u.framing ++ l) (sym fed.1) ∙ sym u.given_is ∙ is.sent in
    let last : IsTry p.view h.to_server =
    elim may.safe [
      | inl safe ↦ repeated p.adds p.framing is.framed may.bare safe (record { rest = p.up.out; is = text })
      | inr far ↦ unsent (none_sent h (is.unreached far))
    ] in (
      none_came p h is may.heads may.none,
      record {
        unsent = record { server = refl; answer = refl };
        asked = record { asked = subst (λ (l : List ℕ). IsAskedBy h.client_in p.view l) behind is.asked; framed = is.framed };
        silent = nil_left h.to_client p.down.out nothing;
        grants = is.grants;
        fair = is.fair;
        tries = all_append (IsTry p.view) h.tries (h.to_server ∷ []) is.tries (last, tt);
        unreached = λ far. all_reached h ∙ is.unreached far;
      },
    )

pub forwarding_redialed : (p q : Forwarding) (h : ExchangeHistory) → IsForwarding p h → IsUntouched p → q ≡ record p { cut = q.cut; ended = false; well = false; dialing = q.dialing }
    → (h.server_in ≡ []) × IsForwarding q (retried h)
forwarding_redialed p q h is may same =
    let silent_server = none_came p h is may.heads may.none in
    let none = none_sent h (is.unreached may.unreached) in (
      silent_server,
      subst (λ (r : Forwarding). IsForwarding r (retried h)) (sym same) (record {
        behind = is.behind;
        asked = is.asked;
        request = is.request;
        up = is.up;
        sent = is.sent ∙ ap (λ l. l ++ p.up.out) none;
        answer = is.answer;
        down = subst (λ (l : List ℕ). IsDown p.says p.kept p.view.method (framed_for p.view.version) p.phase p.down.coding p.down_held.items l is.answer)
            silent_server is.down;
        told = is.told;
        unreached = λ far. all_reached h ∙ is.unreached far;
        grants = is.grants;
        fair = is.fair;
        tries = all_append (IsTry p.view) h.tries (h.to_server ∷ []) is.tries (unsent none, tt);
        framed = is.framed;
        ended = λ on. absurd (true≢false (sym on));
        well = λ on. absurd (true≢false (sym on));
        agreed = is.agreed;
        adds = is.adds;
        leave = is.leave;
        looked = is.looked;
      }),
    )
