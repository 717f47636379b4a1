-- What the sides gave, by the definitions of whole messages.
use Rattle.std.proofs.Common.{cond, ◌&&◌, ◌||◌, not, nat_lt, ◌≡◌, ◌≢◌, ◌∙◌, ℕ, ◌+◌, ◌-◌, ◌<◌, ◌≤◌, Bool, true, false, true≢false, Some, IsSome, List, [], ◌∷◌, ◌++◌, length, take, drop, refl, sym, ap, arith, append_assoc, append-nil, length-append, length-drop, subst, inr}
use Rattle.std.proofs.lemmas.Bool.Decides.{nat_tests}
use Rattle.httparse.specs.Grammar.{ResponseHead, print_response}
use Rattle.exchange_machine.proofs.HeadEnds.{has_feed, no_answer_at_all, no_answer_yet, may_still, may_at_all}
use Rattle.exchange_machine.specs.Changes.{begun_after, looks_again}
use Rattle.http_texts.specs.declared.refusals.Code.{Code}
use Rattle.base_lists.specs.Fronts.{IsFront}
use Rattle.http_bodies.specs.Framings.{IsBody, LacksBody}
use Rattle.http_bodies.specs.declared.framing.Framing as Framed
use Rattle.http_texts.specs.Messages.{PartOfForwarded, PartOfAnswered, IsForwarded, IsAnswered, print_heads, interims_text, IsInterim}
use Rattle.http_texts.specs.Messages.PartOfForwarded.{head_and_body as forwards}
use Rattle.http_texts.specs.Messages.PartOfAnswered.{some_heads, head_and_body as answers}
use Rattle.http_texts.specs.Persistences.{is_delimited, is_kept_by_server, wished, answer_says}
use Rattle.http_texts.specs.Texts.{request_text, answer_text, interim_text}
use Rattle.req_view.specs.Answer.{Answer, answer_of}
use Rattle.req_view.specs.AnswerHeads.{SaysAnswer}
use Rattle.http_texts.specs.Framings.{request_framing, answer_plan, is_interim}
use Rattle.http_texts.specs.Heads.{FramedBadly}
use Rattle.http_texts.specs.declared.additions.Additions.{Additions}
use Rattle.http_texts.specs.declared.persistence.Persistence.{Persistence}
use Rattle.http_texts.specs.declared.persistence.Persistence.TheVariants.{Close}
use Rattle.http_texts.specs.declared.plans.Plan.{Plan}
use Rattle.http_texts.proofs.Alone.{answer_alone, request_alone}
use Rattle.req_view.specs.Heads.{BeginsWith, Tells}
use Rattle.req_view.specs.declared.refusal.HeadRefusal.{HeadRefusal}
use Rattle.req_view.specs.declared.refusal.HeadRefusal.TheVariants.{HeadFault, NoMemory}
use Rattle.req_view.specs.declared.viewing.Viewed.TheVariants.{Refused as Seen}
use Rattle.http_texts.specs.Faults.{of_refusal}
use Rattle.http_texts.specs.declared.fault.Fault.{Fault}
use Rattle.http_texts.specs.declared.fault.Fault.TheVariants as Faulty
use Rattle.std.specs.Prelude.{None}
use Rattle.std.proofs.lemmas.Grind.{flat_map-append}
use Rattle.req_view.specs.Request.{Request}
use Rattle.http_bodies.specs.Readings.{Feeds, read, start_of}
use Rattle.http_bodies.specs.Runs.{IsLongest, IsSent}
use Rattle.http_bodies.specs.Stops.{is_bad, is_done}
use Rattle.http_bodies.specs.declared.coding.Coding.{Coding}
use Rattle.http_bodies.proofs.Derivatives.{feeds_nil}
use Rattle.http_bodies.proofs.Meanings.{bad}
use Rattle.http_bodies.proofs.Running.{run_text, run_done, run_bad}
use Rattle.std.specs.List.{AllByRecursion}
use Rattle.httparse.specs.Grammar.{print_request}
use Rattle.base_lists.proofs.Fronts.{front_same, front_nil, front_as, behind}
use Rattle.http_texts.specs.Replies.{leave_text, refusal_text}
use Rattle.http_texts.specs.Texts.{framed_for}
use Rattle.exchange_machine.specs.Repeats.{IsTry}
use Rattle.exchange_machine.specs.Headline.AreTries.{none as untried, of_request as some_tries}
use Rattle.exchange_machine.specs.Answerings.{TellsAnswer}
use Rattle.exchange_machine.specs.Wholes.{EndsClean}
use Rattle.exchange_machine.specs.Reasons.{Reason, BreaksAnswer}
use Rattle.exchange_machine.specs.Headline.{AreTries, IsOfPart, IsFair, ClientText, ToServer, Sound}
use Rattle.exchange_machine.specs.Headline.ToServer.{nothing, of_request}
use Rattle.exchange_machine.specs.Headline.ClientText.{silent, refused_unread, late, starved, unserved, refused, answered}
use Rattle.exchange_machine.specs.Headline.ArePosted.{all_posted, one_held}
use Rattle.exchange_machine.specs.Histories.{Post, ExchangeHistory, client_came, server_came, client_got, connected_on, posted, passes_of, reached_by}
use Rattle.exchange_machine.specs.Requests.{IsAskedBy, BreaksBody, IsNoRequest, LacksHead}
use Rattle.exchange_machine.specs.Stages.{HistoryIsFresh, IsAsking, IsWaiting, IsDialing, IsForwarding, IsLeaving, HasLeave, AwaitsAnswerHead}
use Rattle.exchange_machine.specs.declared.leaving.Leaving.{Leaving}
use Rattle.grant_board.specs.Views.{Grant}
use Rattle.base_verdict.specs.declared.Ending.{Ending}
use Rattle.base_verdict.specs.declared.Ending.TheVariants.{Failed}
use Rattle.base_lists.proofs.Members.{all_append}
use Rattle.std.proofs.lemmas.List.{map-append, take-append-drop, take-append-le, drop-append-le}
use Rattle.std.proofs.Math.Seq.{take-append_seam}
use Rattle.exchange_machine.specs.declared.asking.Asking.{Asking}
use Rattle.exchange_machine.specs.declared.waiting.Waiting.{Waiting}
use Rattle.exchange_machine.specs.declared.dialing.Dialing.{Dialing}
use Rattle.exchange_machine.specs.declared.forwarding.Forwarding.{Forwarding}
use Rattle.exchange_machine.specs.declared.way.Way.{Way}
use Rattle.exchange_machine.specs.Sides.{IsUp, IsDown, AtHeads, AtBody}
use Rattle.exchange_machine.specs.Ways.{Hears}
use Rattle.exchange_machine.specs.declared.sides.Down.{Down}
use Rattle.exchange_machine.specs.declared.sides.Down.TheVariants.{Heads, Body}

feeds_sent : (framing : Framed.Framing) (framed : Bool) (c : Coding) (taken given : List ℕ) → Feeds (start_of framing framed) c taken given
    → IsSent framing framed taken given
feeds_sent framing framed c taken given f =
    subst (λ (l : List ℕ). IsSent framing framed l given) (append-nil taken)
    (subst (λ (l : List ℕ). IsSent framing framed (taken ++ []) l) (append-nil given) (run_text framing framed ((taken, given) ∷ []) c (c, f, refl)))

pub feeds_body : (framing : Framed.Framing) (framed : Bool) (c : Coding) (taken given : List ℕ) → Feeds (start_of framing framed) c taken given → is_done c ≡ true
    → IsBody framing framed taken given
feeds_body framing framed c taken given f done =
    subst (λ (l : List ℕ). IsBody framing framed l given) (append-nil taken)
    (subst (λ (l : List ℕ). IsBody framing framed (taken ++ []) l) (append-nil given) (run_done framing framed ((taken, given) ∷ []) c (c, f, refl) done))

-- what a part at the front of what came became is a front of the longest text
by_part : {Part : List ℕ → List ℕ → Type 0} (came used rest given more text : List ℕ) → came ≡ used ++ rest → Part used given
    → IsLongest Part (came ++ more) text → IsFront given text
by_part came used rest given more text is part longest =
    longest.most used given (rest ++ more) part (ap (λ l. l ++ more) is ∙ append_assoc used rest more)

pub up_front : (adds : Additions) (r : Request) (c : Coding) (held came given more text : List ℕ) → IsUp adds r c held came given
    → IsLongest (PartOfForwarded adds r) (came ++ more) text → IsFront given text
up_front adds r c held came given more text u longest =
    let s = feeds_sent u.framing true c u.taken u.sent_on u.feeds in
    by_part came s.used (s.rest ++ held) given more text
    (u.came_is ∙ ap (λ l. l ++ held) s.input_is ∙ append_assoc s.used s.rest held)
    (subst (λ (l : List ℕ). PartOfForwarded adds r s.used l) (sym u.given_is) (forwards u.framing s.used u.sent_on u.framed s.part)) longest

pub up_whole : (adds : Additions) (r : Request) (c : Coding) (held came given : List ℕ) → IsUp adds r c held came given → is_done c ≡ true
    → (used : List ℕ) × (came ≡ used ++ held) × IsForwarded adds r used given
up_whole adds r c held came given u done = (
  u.taken,
  u.came_is,
  record {
    framing = u.framing;
    framed = u.framed;
    body = u.sent_on;
    passes = feeds_body u.framing true c u.taken u.sent_on u.feeds done;
    text_is = u.given_is;
  },
)

heads_front : (says : Persistence) (kept : Bool) (method : List ℕ) (framed : Bool) (count : ℕ) (held came given more text : List ℕ)
    → AtHeads method framed count held came given
    → IsLongest (PartOfAnswered says method framed) (came ++ more) text → IsFront given text
heads_front says kept method framed count held came given more text a longest =
    by_part came (print_heads a.interims) held given more text a.came_is
    (subst (λ (l : List ℕ). PartOfAnswered says method framed (print_heads a.interims) l) (sym a.given_is) (some_heads a.interims a.are)) longest

body_front : (says : Persistence) (kept : Bool) (method : List ℕ) (framed : Bool) (c : Coding) (held came given more text : List ℕ)
    → AtBody says kept method framed c held came given
    → IsLongest (PartOfAnswered says method framed) (came ++ more) text → IsFront given text
body_front says kept method framed c held came given more text a longest =
    let s = feeds_sent a.plan.body framed c a.taken a.sent_on a.feeds in
    let heads = print_heads a.interims in
    let head = print_response a.head in
    by_part came (heads ++ (head ++ s.used)) (s.rest ++ held) given more text
    (a.came_is
    ∙ ap (λ l. heads ++ (head ++ (l ++ held))) s.input_is
    ∙ ap (λ l. heads ++ (head ++ l)) (append_assoc s.used s.rest held)
    ∙ ap (λ l. heads ++ l) (sym (append_assoc head s.used (s.rest ++ held)))
    ∙ sym (append_assoc heads (head ++ s.used) (s.rest ++ held)))
    (subst (λ (l : List ℕ). PartOfAnswered says method framed (heads ++ (head ++ s.used)) l) (sym a.given_is)
    (answers a.interims a.head a.plan s.used a.sent_on a.are a.final s.part)) longest

pub down_front : (says : Persistence) (kept : Bool) (method : List ℕ) (framed : Bool) (phase : Down) (c : Coding) (held came given more text : List ℕ)
    → IsDown says kept method framed phase c held came given → IsLongest (PartOfAnswered says method framed) (came ++ more) text → IsFront given text
down_front says kept method framed
    (Heads count) c held came given more text a longest = heads_front says kept method framed count held came given more text a longest
down_front says kept method framed Body c held came given more text a longest = body_front says kept method framed c held came given more text a longest

pub down_whole : (says : Persistence) (kept : Bool) (method : List ℕ) (framed : Bool) (c : Coding) (held came given : List ℕ)
    → IsDown says kept method framed Body c held came given → is_done c ≡ true
    → (used : List ℕ) × (came ≡ used ++ held) × (answered : IsAnswered says method framed used given)
    × (says ≢ Close → is_delimited framed answered.plan.body ≡ true)
    × (kept ≡ true → is_kept_by_server (answer_of answered.head) answered.plan ≡ true)
down_whole says kept method framed c held came given a done =
    let heads = print_heads a.interims in
    let head = print_response a.head in (
      heads ++ (head ++ a.taken),
      a.came_is ∙ ap (λ l. heads ++ l) (sym (append_assoc head a.taken held)) ∙ sym (append_assoc heads (head ++ a.taken) held),
      record {
        interims = a.interims;
        are = a.are;
        head = a.head;
        plan = a.plan;
        final = a.final;
        body = a.taken;
        sent_on = a.sent_on;
        passes = feeds_body a.plan.body framed c a.taken a.sent_on a.feeds done;
        used_is = refl;
        text_is = a.given_is;
      },
      a.delimits,
      (λ on. sym a.keeps ∙ on),
    )

-- more of a request's body came, and its way took it
pub up_more : (adds : Additions) (r : Request) (c d : Coding) (out out' held came given sent bytes : List ℕ) → held ≡ [] → IsUp adds r c held came given
    → given ≡ sent ++ out
    → ((start : Coding) (text x y : List ℕ) → Hears start c text out x y → Hears start d text out' (x ++ bytes) y)
    → (given' : List ℕ) × IsUp adds r d held (came ++ bytes) given' × (given' ≡ sent ++ out')
up_more adds r c d out out' held came given sent bytes none u is step =
    let text = request_text adds r u.framing in
    let before : Hears (start_of u.framing true) c text out u.taken sent = record { given = u.sent_on; feeds = u.feeds; sent = sym u.given_is ∙ is } in
    let after = step (start_of u.framing true) text u.taken sent before in (
      text ++ after.given,
      record {
        framing = u.framing;
        framed = u.framed;
        taken = u.taken ++ bytes;
        sent_on = after.given;
        feeds = after.feeds;
        came_is =
            ap (λ l. l ++ bytes) u.came_is ∙ ap (λ l. (u.taken ++ l) ++ bytes) none ∙ ap (λ l. l ++ bytes) (append-nil u.taken)
            ∙ sym (append-nil (u.taken ++ bytes)) ∙ ap (λ l. (u.taken ++ bytes) ++ l) (sym none);
        given_is = refl;
      },
      after.sent,
    )

-- the same part, behind which more came
asked_more : (input bytes : List ℕ) (r : Request) (behind : List ℕ) → IsAskedBy input r behind → IsAskedBy (input ++ bytes) r (behind ++ bytes)
asked_more input bytes r behind a = record {
  head = a.head;
  is = a.is;
  request_is = a.request_is;
  input_is = ap (λ l. l ++ bytes) a.input_is ∙ append_assoc (print_request a.head) behind bytes;
}

-- the leave, where more waits behind it
leave_grows : {count : ℕ} {leave went out more : List ℕ} → IsFront out more → HasLeave count leave went out → HasLeave count leave went more
leave_grows front is = record {
  left = is.left;
  behind = is.behind ++ front.rest;
  count_is = is.count_is;
  leave_is = is.leave_is;
  out_is = front.is ∙ ap (λ l. l ++ front.rest) is.out_is ∙ append_assoc is.left is.behind front.rest;
}

-- and where some of it went out
leave_went : (count most : ℕ) {leave went out : List ℕ} → count ≤ most → HasLeave most leave went out
    → HasLeave (most - count) leave (went ++ take count out) (drop count out)
leave_went count most {leave} {went} {out} few is =
    let within : count ≤ length is.left = omega (arith, few, is.count_is) in
    let front : take count out ≡ take count is.left = ap (take count) is.out_is ∙ take-append-le count is.left is.behind within in
    record {
      left = drop count is.left;
      behind = is.behind;
      count_is = omega (arith, is.count_is, length-drop count is.left);
      leave_is =
          is.leave_is ∙ ap (λ l. went ++ l) (sym (take-append-drop count is.left))
          ∙ sym (append_assoc went (take count is.left) (drop count is.left))
          ∙ ap (λ l. (went ++ l) ++ drop count is.left) (sym front);
      out_is = ap (drop count) is.out_is ∙ drop-append-le count is.left is.behind within;
    }

-- what is left of it, and no more
leave_left : {count : ℕ} {leave went out : List ℕ} → HasLeave count leave went out → leave ≡ went ++ take count out
leave_left {count} {leave} {went} {out} is =
    is.leave_is
    ∙ ap (λ l. went ++ l) (sym (ap (λ n. take n out) is.count_is ∙ ap (take (length is.left)) is.out_is ∙ take-append_seam is.left is.behind))

pub forwarding_more : (p : Forwarding) (way : Way) (h : ExchangeHistory) (bytes : List ℕ) → IsForwarding p h → p.up_held.items ≡ []
    → ((start : Coding) (text x y : List ℕ) → Hears start p.up.coding text p.up.out x y → Hears start way.coding text way.out (x ++ bytes) y)
    → IsForwarding (record p { up = way }) (client_came h bytes)
forwarding_more p way h bytes is none step =
    let more = up_more p.adds p.view p.up.coding way.coding p.up.out way.out p.up_held.items is.behind is.request h.to_server bytes none is.up is.sent step in
    record {
      behind = is.behind ++ bytes;
      asked = asked_more h.client_in bytes p.view is.behind is.asked;
      request = more.0;
      up = more.1;
      sent = more.2;
      answer = is.answer;
      down = is.down;
      told = is.told;
      unreached = is.unreached;
      grants = is.grants;
      fair = is.fair;
      tries = is.tries;
      framed = is.framed;
      ended = is.ended;
      well = is.well;
      agreed = is.agreed;
      adds = is.adds;
      leave = is.leave;
      looked = is.looked;
    }

-- what a side gave is what a part became
pub up_part : (adds : Additions) (r : Request) (c : Coding) (held came given : List ℕ) → IsUp adds r c held came given
    → IsOfPart (PartOfForwarded adds r) came given
up_part adds r c held came given u =
    let s = feeds_sent u.framing true c u.taken u.sent_on u.feeds in
    record {
      used = s.used;
      rest = s.rest ++ held;
      text = given;
      input_is = u.came_is ∙ ap (λ l. l ++ held) s.input_is ∙ append_assoc s.used s.rest held;
      part = subst (λ (l : List ℕ). PartOfForwarded adds r s.used l) (sym u.given_is) (forwards u.framing s.used u.sent_on u.framed s.part);
      front = front_same given;
    }

down_heads : (says : Persistence) (kept : Bool) (method : List ℕ) (framed : Bool) (count : ℕ) (held came given : List ℕ)
    → AtHeads method framed count held came given
    → IsOfPart (PartOfAnswered says method framed) came given
down_heads says kept method framed count held came given a = record {
  used = print_heads a.interims;
  rest = held;
  text = given;
  input_is = a.came_is;
  part = subst (λ (l : List ℕ). PartOfAnswered says method framed (print_heads a.interims) l) (sym a.given_is) (some_heads a.interims a.are);
  front = front_same given;
}

down_body : (says : Persistence) (kept : Bool) (method : List ℕ) (framed : Bool) (c : Coding) (held came given : List ℕ)
    → AtBody says kept method framed c held came given
    → IsOfPart (PartOfAnswered says method framed) came given
down_body says kept method framed c held came given a =
    let s = feeds_sent a.plan.body framed c a.taken a.sent_on a.feeds in
    let heads = print_heads a.interims in
    let head = print_response a.head in
    record {
      used = heads ++ (head ++ s.used);
      rest = s.rest ++ held;
      text = given;
      input_is =
          a.came_is
          ∙ ap (λ l. heads ++ (head ++ (l ++ held))) s.input_is
          ∙ ap (λ l. heads ++ (head ++ l)) (append_assoc s.used s.rest held)
          ∙ ap (λ l. heads ++ l) (sym (append_assoc head s.used (s.rest ++ held)))
          ∙ sym (append_assoc heads (head ++ s.used) (s.rest ++ held));
      part = subst (λ (l : List ℕ). PartOfAnswered says method framed (heads ++ (head ++ s.used)) l) (sym a.given_is)
          (answers a.interims a.head a.plan s.used a.sent_on a.are a.final s.part);
      front = front_same given;
    }

pub down_part : (says : Persistence) (kept : Bool) (method : List ℕ) (framed : Bool) (phase : Down) (c : Coding) (held came given : List ℕ)
    → IsDown says kept method framed phase c held came given
    → IsOfPart (PartOfAnswered says method framed) came given
down_part says kept method framed (Heads count) c held came given a = down_heads says kept method framed count held came given a
down_part says kept method framed Body c held came given a = down_body says kept method framed c held came given a

front_part : {Part : List ℕ → List ℕ → Type 0} {input given sent : List ℕ} (waiting : List ℕ) → given ≡ sent ++ waiting → IsOfPart Part input given
    → IsOfPart Part input sent
front_part {sent = sent} waiting is o = record {
  used = o.used;
  rest = o.rest;
  text = o.text;
  input_is = o.input_is;
  part = o.part;
  front = record { rest = waiting ++ o.front.rest; is = o.front.is ∙ ap (λ l. l ++ o.front.rest) is ∙ append_assoc sent waiting o.front.rest };
}

-- the law, at each stage
pub fresh_sound : (h : ExchangeHistory) → HistoryIsFresh h → Sound h
fresh_sound h is = record {
  server = nothing is.unsent.server;
  client = record {
    text = [];
    is = silent;
    front = front_as (sym is.silent) refl (front_nil []);
  };
  once = all_posted (is.grants ∙ sym (ap passes_of is.posts));
  fair = subst (λ (l : List Post). AllByRecursion IsFair l) (sym is.posts) tt;
  tried = untried is.untried;
}

pub asking_sound : (a : Asking) (h : ExchangeHistory) → IsAsking a h → Sound h
asking_sound a h is = fresh_sound h is.fresh

pub waiting_sound : (w : Waiting) (h : ExchangeHistory) → IsWaiting w h → Sound h
waiting_sound w h is = record {
  server = nothing is.unsent.server;
  client = record {
    text = [];
    is = silent;
    front = front_as (sym is.silent) refl (front_nil []);
  };
  once = all_posted is.grants;
  fair = is.fair;
  tried = some_tries w.asked.view w.asked.held.items is.asked.asked is.tries;
}

pub dialing_sound : (d : Dialing) (h : ExchangeHistory) → IsDialing d h → Sound h
dialing_sound d h is = record {
  server = nothing is.unsent.server;
  client = record {
    text = [];
    is = silent;
    front = front_as (sym is.silent) refl (front_nil []);
  };
  once = one_held d.pass is.grants;
  fair = is.fair;
  tried = some_tries d.waiting.asked.view d.waiting.asked.held.items is.asked.asked is.tries;
}

-- the server was reached: the request's head goes out, and its body begins
pub dialing_passes : (d : Dialing) (p : Forwarding) (h : ExchangeHistory) → IsDialing d h → p.view ≡ d.waiting.asked.view → p.pass ≡ d.pass → p.reached ≡ d.reached
    → p.framing ≡ d.waiting.asked.framing
    → p.up.coding ≡ start_of d.waiting.asked.framing true → p.up.out ≡ request_text p.adds d.waiting.asked.view d.waiting.asked.framing
    → p.up_held.items ≡ d.waiting.asked.held.items → p.phase ≡ Heads 0 → p.down_held.items ≡ []
    → p.down.out ≡ leave_text d.waiting.asked.view → p.ended ≡ false
    → p.leave_left ≡ length p.down.out → p.well ≡ false → p.says ≡ Close → IsForwarding p (connected_on h p.adds)
dialing_passes d p h is view pass reach framing coding out held phase empty leave running left unwell closed =
    let r = d.waiting.asked.view in
    let f = d.waiting.asked.framing in
    let up : IsUp p.adds p.view p.up.coding p.up_held.items d.waiting.asked.held.items (request_text p.adds r f) =
    subst (λ (v : Request). IsUp p.adds v p.up.coding p.up_held.items d.waiting.asked.held.items (request_text p.adds r f)) (sym view)
    (subst (λ (c : Coding). IsUp p.adds r c p.up_held.items d.waiting.asked.held.items (request_text p.adds r f)) (sym coding)
    (record {
      framing = f;
      framed = is.asked.framed;
      taken = [];
      sent_on = [];
      feeds = feeds_nil (start_of f true);
      came_is = sym held;
      given_is = sym (append-nil (request_text p.adds r f));
    })) in
    let heads : AtHeads p.view.method (framed_for p.view.version) 0 p.down_held.items h.server_in [] =
    record { interims = []; are = record { each = tt; few = omega arith }; count_is = refl; came_is = is.unsent.answer ∙ sym empty; given_is = refl } in
    record {
      behind = d.waiting.asked.held.items;
      asked = subst (λ (v : Request). IsAskedBy h.client_in v d.waiting.asked.held.items) (sym view) is.asked.asked;
      request = request_text p.adds r f;
      up = up;
      sent = sym out ∙ ap (λ l. l ++ p.up.out) (sym is.unsent.server);
      answer = [];
      down = subst (λ (q : Down). IsDown p.says p.kept p.view.method (framed_for p.view.version) q p.down.coding p.down_held.items h.server_in [])
          (sym phase) heads;
      told = append-nil (leave_text p.view) ∙ ap leave_text view ∙ sym leave ∙ ap (λ l. l ++ p.down.out) (sym is.silent);
      unreached = λ far. is.unreached (sym reach ∙ far);
      grants = is.grants ∙ ap (λ (q : Grant). passes_of h.posts ++ q ∷ []) (sym pass);
      fair = is.fair;
      tries = subst (λ (v : Request). AllByRecursion (IsTry v) h.tries) (sym view) is.tries;
      framed = ap request_framing view ∙ is.asked.framed ∙ ap Some (sym framing);
      ended = λ on. absurd (true≢false (sym on ∙ running));
      well = λ on. absurd (true≢false (sym on ∙ unwell));
      agreed = λ other. absurd (other closed);
      adds = refl;
      leave = λ none. record {
        left = p.down.out;
        behind = [];
        count_is = left;
        leave_is = ap leave_text view ∙ sym leave ∙ ap (λ l. l ++ p.down.out) (sym is.silent);
        out_is = sym (append-nil p.down.out);
      };
      looked = λ dry count at. subst AwaitsAnswerHead (sym empty) (record { none = no_answer_at_all; may = may_at_all });
    }

pub forwarding_server : (p : Forwarding) (h : ExchangeHistory) → IsForwarding p h → ToServer h
forwarding_server p h is =
    of_request p.view is.behind is.asked
    (front_part p.up.out is.sent
    (subst (λ (a : Additions). IsOfPart (PartOfForwarded a p.view) is.behind is.request) is.adds
    (up_part p.adds p.view p.up.coding p.up_held.items is.behind is.request is.up)))

pub forwarding_client : (p : Forwarding) (h : ExchangeHistory) → (is : IsForwarding p h) → ClientText h (leave_text p.view ++ is.answer)
forwarding_client p h is =
    answered p.says p.view is.behind is.answer is.asked
    (down_part p.says p.kept p.view.method (framed_for p.view.version) p.phase p.down.coding p.down_held.items h.server_in is.answer is.down)

pub forwarding_tried : (p : Forwarding) (h : ExchangeHistory) → IsForwarding p h → AreTries h
forwarding_tried p h is = some_tries p.view is.behind is.asked is.tries

pub forwarding_sound : (p : Forwarding) (h : ExchangeHistory) → IsForwarding p h → Sound h
forwarding_sound p h is = record {
  server = forwarding_server p h is;
  client = record { text = leave_text p.view ++ is.answer; is = forwarding_client p h is; front = record { rest = p.down.out; is = is.told } };
  once = one_held p.pass is.grants;
  fair = is.fair;
  tried = forwarding_tried p h is;
}

pub leaving_sound : (l : Leaving) (h : ExchangeHistory) → IsLeaving l h → Sound h
leaving_sound l h is = record {
  server = is.server;
  client = record { text = is.text; is = is.client; front = record { rest = l.out.out; is = is.told } };
  once = all_posted is.grants;
  fair = is.fair;
  tried = is.tried;
}

-- a client text doesn't look at the posts
pub posted_client : (h : ExchangeHistory) (pass : Grant) (ending : Ending) (text : List ℕ) → ClientText h text → ClientText (posted h pass ending) text
posted_client h pass ending text silent = silent
posted_client h pass ending text (refused_unread fault other why) = refused_unread fault other why
posted_client h pass ending text (late shows none grants) = late shows none grants
posted_client h pass ending text (starved shows grants) = starved shows grants
posted_client h pass ending text (unserved r behind code asked why) = unserved r behind code asked why
posted_client h pass ending text (refused r behind code asked why) = refused r behind code asked why
posted_client h pass ending text (answered says r behind t asked part) = answered says r behind t asked part

pub posted_server : (h : ExchangeHistory) (pass : Grant) (ending : Ending) → ToServer h → ToServer (posted h pass ending)
posted_server h pass ending (nothing none) = nothing none
posted_server h pass ending (of_request r behind asked part) = of_request r behind asked part

pub posted_tried : (h : ExchangeHistory) (pass : Grant) (ending : Ending) → AreTries h → AreTries (posted h pass ending)
posted_tried h pass ending (untried is) = untried is
posted_tried h pass ending (some_tries r behind asked tries) = some_tries r behind asked tries

pub forwarding_ends : (p : Forwarding) (h : ExchangeHistory) (ending : Ending) (whole clean : Bool) → (is : IsForwarding p h) → (ending ≡ Failed → p.reached ≡ false)
    → (whole ≡ true → TellsAnswer h.signs h.client_in h.server_in (leave_text p.view ++ is.answer))
    → (clean ≡ true → EndsClean (posted h p.pass ending) p.down.out)
    → IsLeaving (record { out = p.down; whole = whole; clean = clean }) (posted h p.pass ending)
forwarding_ends p h ending whole clean is fair tells ends = record {
  server = posted_server h p.pass ending (forwarding_server p h is);
  text = leave_text p.view ++ is.answer;
  client = posted_client h p.pass ending (leave_text p.view ++ is.answer) (forwarding_client p h is);
  told = is.told;
  whole = tells;
  clean = ends;
  grants = is.grants ∙ sym (map-append (λ (q : Post). q.pass) h.posts (record { pass = p.pass; ending = ending; reached = reached_by h } ∷ []));
  fair = all_append IsFair h.posts (record { pass = p.pass; ending = ending; reached = reached_by h } ∷ []) is.fair
      ((λ failed. is.unreached (fair failed)), tt);
  tried = posted_tried h p.pass ending (forwarding_tried p h is);
}

-- more of an answer's body came, and its way took it
body_more : (says : Persistence) (kept : Bool) (method : List ℕ) (framed : Bool) (c d : Coding) (out out' held came given lead sent bytes : List ℕ) → held ≡ []
    → AtBody says kept method framed c held came given → lead ++ given ≡ sent ++ out
    → ((start : Coding) (text x y : List ℕ) → Hears start c text out x y → Hears start d text out' (x ++ bytes) y)
    → (given' : List ℕ) × AtBody says kept method framed d held (came ++ bytes) given' × (lead ++ given' ≡ sent ++ out')
body_more says kept method framed c d out out' held came given lead sent bytes none a is step =
    let heads = print_heads a.interims in
    let head = print_response a.head in
    let told = interims_text framed a.interims in
    let top = answer_text says framed (answer_of a.head) a.plan in
    let text = lead ++ (told ++ top) in
    let whole : (x : List ℕ) → text ++ x ≡ lead ++ (told ++ (top ++ x)) = λ x.
    append_assoc lead (told ++ top) x ∙ ap (λ l. lead ++ l) (append_assoc told top x) in
    let before : Hears (start_of a.plan.body framed) c text out a.taken sent =
    record { given = a.sent_on; feeds = a.feeds; sent = whole a.sent_on ∙ ap (λ l. lead ++ l) (sym a.given_is) ∙ is } in
    let after = step (start_of a.plan.body framed) text a.taken sent before in (
      told ++ (top ++ after.given),
      record {
        interims = a.interims;
        are = a.are;
        head = a.head;
        plan = a.plan;
        final = a.final;
        delimits = a.delimits;
        keeps = a.keeps;
        taken = a.taken ++ bytes;
        sent_on = after.given;
        feeds = after.feeds;
        came_is =
            ap (λ l. l ++ bytes) a.came_is ∙ append_assoc heads (head ++ (a.taken ++ held)) bytes
            ∙ ap (λ l. heads ++ l) (append_assoc head (a.taken ++ held) bytes)
            ∙ ap (λ l. heads ++ (head ++ ((a.taken ++ l) ++ bytes))) none ∙ ap (λ l. heads ++ (head ++ (l ++ bytes))) (append-nil a.taken)
            ∙ ap (λ l. heads ++ (head ++ l)) (sym (append-nil (a.taken ++ bytes))) ∙ ap (λ l. heads ++ (head ++ ((a.taken ++ bytes) ++ l))) (sym none);
        given_is = refl;
      },
      sym (whole after.given) ∙ after.sent,
    )

pub down_as : {p : Forwarding} {h : ExchangeHistory} (phase : Down) → p.phase ≡ phase → (is : IsForwarding p h)
    → IsDown p.says p.kept p.view.method (framed_for p.view.version) phase p.down.coding p.down_held.items h.server_in is.answer
down_as {p} {h} phase e is =
    subst (λ (d : Down). IsDown p.says p.kept p.view.method (framed_for p.view.version) d p.down.coding p.down_held.items h.server_in is.answer) e is.down

body_is_no_head : (count : ℕ) → Body ≡ Heads count → ⊥
body_is_no_head count is = cc

pub forwarding_answer : (p : Forwarding) (way : Way) (h : ExchangeHistory) (bytes : List ℕ) → IsForwarding p h → p.phase ≡ Body → p.down_held.items ≡ []
    → ((start : Coding) (text x y : List ℕ) → Hears start p.down.coding text p.down.out x y → Hears start way.coding text way.out (x ++ bytes) y)
    → IsFront p.down.out way.out → IsForwarding (record p { down = way }) (server_came h bytes)
forwarding_answer p way h bytes is body none step grows =
    let more = body_more p.says p.kept p.view.method
    (framed_for p.view.version) p.down.coding way.coding p.down.out way.out p.down_held.items h.server_in is.answer
    (leave_text p.view) h.to_client bytes none (down_as Body body is) is.told step in
    record {
      behind = is.behind;
      asked = is.asked;
      request = is.request;
      up = is.up;
      sent = is.sent;
      answer = more.0;
      down = subst (λ (d : Down). IsDown p.says p.kept p.view.method (framed_for p.view.version) d way.coding p.down_held.items (h.server_in
          ++ bytes) more.0) (sym body) more.1;
      told = more.2;
      unreached = is.unreached;
      grants = is.grants;
      fair = is.fair;
      tries = is.tries;
      framed = is.framed;
      ended = is.ended;
      well = is.well;
      agreed = is.agreed;
      adds = is.adds;
      leave = λ none. leave_grows grows (is.leave none);
      looked = is.looked;
    }

-- the answer's own head stands in what is held: its text goes out, and its body begins
heads_final : (says : Persistence) (kept : Bool) (method : List ℕ) (framed : Bool) (count : ℕ) (held came given : List ℕ) (a : Answer) (len : ℕ)
    (plan : Plan) → AtHeads method framed count held came given
    → SaysAnswer held a len → answer_plan method a ≡ Some plan → is_interim a.status ≡ false → (says ≢ Close → is_delimited framed plan.body ≡ true)
    → kept ≡ is_kept_by_server a plan
    → AtBody says kept method framed (start_of plan.body framed) (drop len held) came (given ++ answer_text says framed a plan)
heads_final says kept method framed count held came given a len plan at stood planned final delimits keeps =
    let h = stood.head in
    let rest : drop len held ≡ stood.rest = behind held (print_response h) stood.rest len stood.stands.reads.1 stood.len in
    record {
      interims = at.interims;
      are = at.are;
      head = h;
      plan = plan;
      final = record {
        head = answer_alone h stood.stands;
        planned = ap (answer_plan method) (sym stood.answer) ∙ planned;
        final = ap (λ (q : Answer). is_interim q.status) (sym stood.answer) ∙ final;
      };
      delimits = delimits;
      keeps = keeps ∙ ap (λ (q : Answer). is_kept_by_server q plan) stood.answer;
      taken = [];
      sent_on = [];
      feeds = feeds_nil (start_of plan.body framed);
      came_is =
          at.came_is ∙ ap (λ l. print_heads at.interims ++ l) (stood.stands.reads.1 ∙ ap (λ l. print_response h ++ l) (sym rest));
      given_is =
          ap (λ l. l ++ answer_text says framed a plan) at.given_is
          ∙ ap (λ l. interims_text framed at.interims ++ l)
          (ap (λ (q : Answer). answer_text says framed q plan) stood.answer ∙ sym (append-nil (answer_text says framed (answer_of h) plan)));
    }

-- or one before it
heads_interim : (method : List ℕ) (framed : Bool) (count : ℕ) (held came given : List ℕ) (a : Answer) (len : ℕ) → AtHeads method framed count held came given
    → SaysAnswer held a len → IsSome (answer_plan method a) → is_interim a.status ≡ true → count < 8
    → AtHeads method framed (count + 1) (drop len held) came (given ++ interim_text framed a)
heads_interim method framed count held came given a len at says planned interim few =
    let h = says.head in
    let rest : drop len held ≡ says.rest = behind held (print_response h) says.rest len says.stands.reads.1 says.len in
    let is : IsInterim method h = record {
      head = answer_alone h says.stands;
      planned = subst (λ (q : Answer). IsSome (answer_plan method q)) says.answer planned;
      interim = ap (λ (q : Answer). is_interim q.status) (sym says.answer) ∙ interim;
    } in
    record {
      interims = at.interims ++ h ∷ [];
      are = record {
        each = all_append (IsInterim method) at.interims (h ∷ []) at.are.each (is, tt);
        few = omega (arith, at.count_is, few, length-append at.interims (h ∷ []));
      };
      count_is = omega (arith, at.count_is, length-append at.interims (h ∷ []));
      came_is =
          at.came_is
          ∙ ap (λ l. print_heads at.interims ++ l) (says.stands.reads.1 ∙ ap (λ l. print_response h ++ l) (sym rest))
          ∙ sym (append_assoc (print_heads at.interims) (print_response h) (drop len held))
          ∙ ap (λ l. l ++ drop len held)
          (ap (λ l. print_heads at.interims ++ l) (sym (append-nil (print_response h))) ∙ sym (flat_map-append print_response at.interims (h ∷ [])));
      given_is =
          ap (λ l. l ++ interim_text framed a) at.given_is
          ∙ ap (λ l. interims_text framed at.interims ++ l)
          (ap (interim_text framed) says.answer ∙ sym (append-nil (interim_text framed (answer_of h))))
          ∙ sym (flat_map-append (λ k. interim_text framed (answer_of k)) at.interims (h ∷ []));
    }

-- what is told of a connection is told only of one on which the answer's end shows
said_kept : (willing shows : Bool) (q : Persistence) → cond (willing && shows) q Close ≢ Close → shows ≡ true
said_kept true true q other = refl
said_kept true false q other = absurd (other refl)
said_kept false shows q other = absurd (other refl)

pub said_delimits : (willing : Bool) (r : Request) (plan : Plan) (says : Persistence) → says ≡ answer_says willing r plan → says ≢ Close
    → is_delimited (framed_for r.version) plan.body ≡ true
said_delimits willing r plan says is other =
    said_kept willing (is_delimited (framed_for r.version) plan.body) (wished r) (λ closed. other (is ∙ closed))

-- and only where both sides wish it
said_agreed : (willing shows : Bool) (q : Persistence) → cond (willing && shows) q Close ≢ Close → (willing ≡ true) × (q ≡ cond (willing && shows) q Close)
said_agreed true true q other = (refl, refl)
said_agreed true false q other = absurd (other refl)
said_agreed false shows q other = absurd (other refl)

pub said_wished : (willing : Bool) (r : Request) (plan : Plan) (says : Persistence) → says ≡ answer_says willing r plan → says ≢ Close
    → (willing ≡ true) × (wished r ≡ says)
said_wished willing r plan says is other =
    let both = said_agreed willing (is_delimited (framed_for r.version) plan.body) (wished r) (λ closed. other (is ∙ closed)) in
    (both.0, both.1 ∙ sym is)

pub forwarding_final : (p : Forwarding) (way : Way) (held : List ℕ) (h : ExchangeHistory) (count : ℕ) (a : Answer) (len : ℕ) (plan : Plan) (q : Forwarding) → IsForwarding p h
    → p.phase ≡ Heads count
    → SaysAnswer p.down_held.items a len → answer_plan p.view.method a ≡ Some plan → is_interim a.status ≡ false
    → q.says ≡ answer_says p.willing p.view plan → q.kept ≡ is_kept_by_server a plan
    → way.coding ≡ start_of plan.body (framed_for p.view.version) → way.out ≡ p.down.out ++ answer_text q.says (framed_for p.view.version) a plan
    → held ≡ drop len p.down_held.items → q.down_held.items ≡ held
    → q ≡ record p { phase = Body; down = way; down_held = q.down_held; says = q.says; kept = q.kept } → IsForwarding q h
forwarding_final p way held h count a len plan q is phase stood planned final told kept coding out rest here same =
    let framed = framed_for p.view.version in
    let text = answer_text q.says framed a plan in
    let at = heads_final q.says q.kept p.view.method framed count p.down_held.items h.server_in is.answer a len plan (down_as
    (Heads count) phase is) stood planned final
    (said_delimits p.willing p.view plan q.says told) kept in
    let down : AtBody q.says q.kept p.view.method framed way.coding q.down_held.items h.server_in (is.answer ++ text) =
    subst (λ (l : List ℕ). AtBody q.says q.kept p.view.method framed way.coding l h.server_in (is.answer ++ text)) (sym rest ∙ sym here)
    (subst (λ (c : Coding). AtBody q.says q.kept p.view.method framed c (drop len p.down_held.items) h.server_in (is.answer ++ text)) (sym coding) at) in
    subst (λ (r : Forwarding). IsForwarding r h) (sym same) (record {
      behind = is.behind;
      asked = is.asked;
      request = is.request;
      up = is.up;
      sent = is.sent;
      answer = is.answer ++ text;
      down = down;
      told =
          sym (append_assoc (leave_text p.view) is.answer text) ∙ ap (λ l. l ++ text) is.told
          ∙ append_assoc h.to_client p.down.out text ∙ ap (λ l. h.to_client ++ l) (sym out);
      unreached = is.unreached;
      grants = is.grants;
      fair = is.fair;
      tries = is.tries;
      framed = is.framed;
      ended = is.ended;
      well = is.well;
      agreed = said_wished p.willing p.view plan q.says told;
      adds = is.adds;
      leave = λ none. leave_grows (record { rest = text; is = out }) (is.leave none);
      looked = λ dry other at. absurd (body_is_no_head other at);
    })

pub forwarding_interim : (p : Forwarding) (way : Way) (held : List ℕ) (h : ExchangeHistory) (count : ℕ) (a : Answer) (len : ℕ) (q : Forwarding) → IsForwarding p h
    → p.looks ≡ true → p.phase ≡ Heads count
    → SaysAnswer p.down_held.items a len → IsSome (answer_plan p.view.method a) → is_interim a.status ≡ true → count < 8
    → way.out ≡ p.down.out ++ interim_text (framed_for p.view.version) a
    → held ≡ drop len p.down_held.items → q.down_held.items ≡ held → q ≡ record p { phase = Heads (count + 1); down = way; down_held = q.down_held }
    → IsForwarding q h
forwarding_interim p way held h count a len q is looks phase says planned interim few out rest here same =
    let framed = framed_for p.view.version in
    let at = heads_interim p.view.method framed count p.down_held.items h.server_in is.answer a len (down_as (Heads count) phase is) says planned interim few in
    let down : AtHeads p.view.method framed (count + 1) q.down_held.items h.server_in (is.answer ++ interim_text framed a) =
    subst (λ (l : List ℕ). AtHeads p.view.method framed (count + 1) l h.server_in (is.answer ++ interim_text framed a)) (sym rest ∙ sym here) at in
    subst (λ (r : Forwarding). IsForwarding r h) (sym same) (record {
      behind = is.behind;
      asked = is.asked;
      request = is.request;
      up = is.up;
      sent = is.sent;
      answer = is.answer ++ interim_text framed a;
      down = down;
      told =
          sym (append_assoc (leave_text p.view) is.answer (interim_text framed a)) ∙ ap (λ l. l ++ interim_text framed a) is.told
          ∙ append_assoc h.to_client p.down.out (interim_text framed a) ∙ ap (λ l. h.to_client ++ l) (sym out);
      unreached = is.unreached;
      grants = is.grants;
      fair = is.fair;
      tries = is.tries;
      framed = is.framed;
      ended = is.ended;
      well = is.well;
      agreed = is.agreed;
      adds = is.adds;
      leave = λ none. leave_grows (record { rest = interim_text framed a; is = out }) (is.leave none);
      looked = λ dry other at. absurd (true≢false (sym looks ∙ dry));
    })

-- the request whose head stands in what came
asked_at : (r v : Request) (seen held rest : List ℕ) (len : ℕ) → BeginsWith seen v len → seen ≡ held → r ≡ v → rest ≡ drop len held → IsAskedBy held r rest
asked_at r v seen held rest len begins same view left =
    let whole = sym same ∙ begins.stands.0.reads.1 in
    record {
      head = begins.head;
      is = request_alone begins.head begins.stands;
      request_is = view ∙ begins.request;
      input_is =
          whole ∙ ap (λ l. print_request begins.head ++ l) (sym (left ∙ behind held (print_request begins.head) begins.rest len whole begins.len));
    }

-- a request's head stands in what came
pub look_whole : (w : Waiting) (h : ExchangeHistory) (v : Request) (held : List ℕ) (len : ℕ) → BeginsWith held v len
    → request_framing w.asked.view ≡ Some w.asked.framing → w.asked.view ≡ v → w.asked.held.items ≡ drop len held
    → HistoryIsFresh h → h.client_in ≡ held → IsWaiting w h
look_whole w h v held len begins framed view rest fresh came = record {
  unsent = fresh.unsent;
  asked = record {
    asked = subst (λ (l : List ℕ). IsAskedBy l w.asked.view w.asked.held.items) (sym came)
        (asked_at w.asked.view v held held w.asked.held.items len begins refl view rest);
    framed = framed;
  };
  silent = fresh.silent;
  grants = fresh.grants ∙ sym (ap passes_of fresh.posts);
  fair = subst (λ (l : List Post). AllByRecursion IsFair l) (sym fresh.posts) tt;
  tries = subst (λ (l : List (List ℕ)). AllByRecursion (IsTry w.asked.view) l) (sym fresh.untried) tt;
}

-- and what came behind it is none of its bodies
pub look_broken : (w : Waiting) (h : ExchangeHistory) → IsWaiting w h → is_bad (read (start_of w.asked.framing true) w.asked.held.items).coding ≡ true
    → IsNoRequest Faulty.Framing h.client_in
look_broken w h is broken = inr (record {
  request = w.asked.view;
  behind = w.asked.held.items;
  asked = is.asked.asked;
  breaks = record {
    framing = w.asked.framing;
    framed = is.asked.framed;
    breaks = λ more. bad w.asked.framing true w.asked.held.items more broken;
  };
})

-- what is held is taken in part
pub forwarding_used : (p : Forwarding) (way : Way) (q : Forwarding) (h : ExchangeHistory) (used : ℕ) (seen : List ℕ) → IsForwarding p h → seen ≡ p.up_held.items
    → ((start : Coding) (text x y : List ℕ) → Hears start p.up.coding text p.up.out x y → Hears start way.coding text way.out (x ++ take used seen) y)
    → q.up_held.items ≡ drop used p.up_held.items → q ≡ record p { up = way; up_held = q.up_held } → IsForwarding q h
forwarding_used p way q h used seen is same step rest here =
    let u = is.up in
    let text = request_text p.adds p.view u.framing in
    let before : Hears (start_of u.framing true) p.up.coding text p.up.out u.taken h.to_server =
    record { given = u.sent_on; feeds = u.feeds; sent = sym u.given_is ∙ is.sent } in
    let after = step (start_of u.framing true) text u.taken h.to_server before in
    let front = take used seen in
    subst (λ (r : Forwarding). IsForwarding r h) (sym here) (record {
      behind = is.behind;
      asked = is.asked;
      request = text ++ after.given;
      up = record {
        framing = u.framing;
        framed = u.framed;
        taken = u.taken ++ front;
        sent_on = after.given;
        feeds = after.feeds;
        came_is =
            u.came_is ∙ ap (λ l. u.taken ++ l) (sym same ∙ sym (take-append-drop used seen)) ∙ sym (append_assoc u.taken front (drop used seen))
            ∙ ap (λ l. (u.taken ++ front) ++ l) (ap (drop used) same ∙ sym rest);
        given_is = refl;
      };
      sent = after.sent;
      answer = is.answer;
      down = is.down;
      told = is.told;
      unreached = is.unreached;
      grants = is.grants;
      fair = is.fair;
      tries = is.tries;
      framed = is.framed;
      ended = is.ended;
      well = is.well;
      agreed = is.agreed;
      adds = is.adds;
      leave = is.leave;
      looked = is.looked;
    })

body_used : (says : Persistence) (kept : Bool) (method : List ℕ) (framed : Bool) (c d : Coding) (out out' held rest came given lead sent seen : List ℕ)
    (used : ℕ) → seen ≡ held → rest ≡ drop used held
    → AtBody says kept method framed c held came given → lead ++ given ≡ sent ++ out
    → ((start : Coding) (text x y : List ℕ) → Hears start c text out x y → Hears start d text out' (x ++ take used seen) y)
    → (given' : List ℕ) × AtBody says kept method framed d rest came given' × (lead ++ given' ≡ sent ++ out')
body_used says kept method framed c d out out' held rest came given lead sent seen used same left a is step =
    let heads = print_heads a.interims in
    let head = print_response a.head in
    let told = interims_text framed a.interims in
    let top = answer_text says framed (answer_of a.head) a.plan in
    let text = lead ++ (told ++ top) in
    let whole : (x : List ℕ) → text ++ x ≡ lead ++ (told ++ (top ++ x)) = λ x.
    append_assoc lead (told ++ top) x ∙ ap (λ l. lead ++ l) (append_assoc told top x) in
    let before : Hears (start_of a.plan.body framed) c text out a.taken sent =
    record { given = a.sent_on; feeds = a.feeds; sent = whole a.sent_on ∙ ap (λ l. lead ++ l) (sym a.given_is) ∙ is } in
    let after = step (start_of a.plan.body framed) text a.taken sent before in
    let front = take used seen in (
      told ++ (top ++ after.given),
      record {
        interims = a.interims;
        are = a.are;
        head = a.head;
        plan = a.plan;
        final = a.final;
        delimits = a.delimits;
        keeps = a.keeps;
        taken = a.taken ++ front;
        sent_on = after.given;
        feeds = after.feeds;
        came_is =
            a.came_is
            ∙ ap (λ l. heads ++ (head ++ l))
            (ap (λ l. a.taken ++ l) (sym same ∙ sym (take-append-drop used seen)) ∙ sym (append_assoc a.taken front (drop used seen))
            ∙ ap (λ l. (a.taken ++ front) ++ l) (ap (drop used) same ∙ sym left));
        given_is = refl;
      },
      sym (whole after.given) ∙ after.sent,
    )

pub forwarding_answer_used : (p : Forwarding) (way : Way) (q : Forwarding) (h : ExchangeHistory) (used : ℕ) (seen : List ℕ) → IsForwarding p h → p.phase ≡ Body
    → seen ≡ p.down_held.items
    → ((start : Coding) (text x y : List ℕ) → Hears start p.down.coding text p.down.out x y → Hears start way.coding text way.out (x ++ take used seen) y)
    → IsFront p.down.out way.out
    → q.down_held.items ≡ drop used p.down_held.items → q ≡ record p { down = way; down_held = q.down_held } → IsForwarding q h
forwarding_answer_used p way q h used seen is body same step grows rest here =
    let more = body_used p.says p.kept p.view.method
    (framed_for p.view.version) p.down.coding way.coding p.down.out way.out p.down_held.items q.down_held.items h.server_in
    is.answer (leave_text p.view) h.to_client seen used same rest (down_as Body body is) is.told step in
    subst (λ (r : Forwarding). IsForwarding r h) (sym here) (record {
      behind = is.behind;
      asked = is.asked;
      request = is.request;
      up = is.up;
      sent = is.sent;
      answer = more.0;
      down = subst (λ (d : Down). IsDown p.says p.kept p.view.method (framed_for p.view.version) d way.coding q.down_held.items h.server_in more.0)
          (sym body) more.1;
      told = more.2;
      unreached = is.unreached;
      grants = is.grants;
      fair = is.fair;
      tries = is.tries;
      framed = is.framed;
      ended = is.ended;
      well = is.well;
      agreed = is.agreed;
      adds = is.adds;
      leave = λ none. leave_grows grows (is.leave none);
      looked = λ dry count at. absurd (body_is_no_head count (sym body ∙ at));
    })

pub no_interims : (hs : List ResponseHead) (framed : Bool) → 0 ≡ length hs → interims_text framed hs ≡ []
no_interims [] framed none = refl
no_interims (h ∷ hs) framed none = absurd (omega (arith, none))

pub nothing_answered : (p : Forwarding) (h : ExchangeHistory) → (is : IsForwarding p h) → ClientText h (leave_text p.view)
nothing_answered p h is =
    subst (λ (l : List ℕ). ClientText h l) (append-nil (leave_text p.view))
    (answered p.says p.view is.behind [] is.asked (record {
      used = [];
      rest = h.server_in;
      text = [];
      input_is = refl;
      part = some_heads [] (record { each = tt; few = omega arith });
      front = front_nil [];
    }))

-- a refusal takes the place of what waits behind the leave; where there is no room for it, nothing does
pub forwarding_refused : (p : Forwarding) (l : Leaving) (way : Way) (h : ExchangeHistory) (code : Code) (pass : Grant) (ending : Ending) (fits : Bool) → (is : IsForwarding p h)
    → IsLeaving l (posted h pass ending) → l.out ≡ p.down → p.begun ≡ false → Reason h.signs p.view is.behind h.server_in code
    → (fits ≡ true → way.out ≡ take p.leave_left l.out.out ++ refusal_text code) → (fits ≡ false → way.out ≡ take p.leave_left l.out.out)
    → IsLeaving (record { out = way; whole = false; clean = false }) (posted h pass ending)
forwarding_refused p l way h code pass ending true is over same none why out full =
    let front = leave_left (is.leave none) ∙ ap (λ (w : Way). h.to_client ++ take p.leave_left w.out) (sym same) in
    record {
      server = over.server;
      text = leave_text p.view ++ refusal_text code;
      client = posted_client h pass ending (leave_text p.view ++ refusal_text code) (refused p.view is.behind code is.asked why);
      told = ap (λ t. t ++ refusal_text code) front ∙ append_assoc h.to_client (take p.leave_left l.out.out) (refusal_text code)
          ∙ ap (λ t. h.to_client ++ t) (sym (out refl));
      whole = λ on. absurd (true≢false (sym on));
      clean = λ on. absurd (true≢false (sym on));
      grants = over.grants;
      fair = over.fair;
      tried = over.tried;
    }
forwarding_refused p l way h code pass ending false is over same none why out full = record {
  server = over.server;
  text = leave_text p.view;
  client = posted_client h pass ending (leave_text p.view) (nothing_answered p h is);
  told = leave_left (is.leave none) ∙ ap (λ (w : Way). h.to_client ++ take p.leave_left w.out) (sym same) ∙ ap (λ t. h.to_client ++ t) (sym (full refl));
  whole = λ on. absurd (true≢false (sym on));
  clean = λ on. absurd (true≢false (sym on));
  grants = over.grants;
  fair = over.fair;
  tried = over.tried;
}

-- the client took more of what waits
-- where nothing behind the `100` was taken, it wasn't before, and no more than was left of the `100`
pub leave_kept : (begun : Bool) (left count : ℕ) → begun_after begun left count ≡ false → (begun ≡ false) × (count ≤ left)
leave_kept true left count is = absurd cc
leave_kept false left count is = (refl, grind (arith, nat_tests))

pub forwarding_told : (p q : Forwarding) (h : ExchangeHistory) (count : ℕ) → IsForwarding p h → q.down.out ≡ drop count p.down.out → q.down.coding ≡ p.down.coding
    → (q.begun ≡ false → (p.begun ≡ false) × (count ≤ p.leave_left) × (q.leave_left ≡ p.leave_left - count))
    → q ≡ record p { down = q.down; begun = q.begun; leave_left = q.leave_left } → IsForwarding q (client_got h (take count p.down.out))
forwarding_told p q h count is out coding still same =
    let front = take count p.down.out in
    subst (λ (r : Forwarding). IsForwarding r (client_got h front)) (sym same) (record {
      behind = is.behind;
      asked = is.asked;
      request = is.request;
      up = is.up;
      sent = is.sent;
      answer = is.answer;
      down = subst (λ (c : Coding). IsDown p.says p.kept p.view.method (framed_for p.view.version) p.phase c p.down_held.items h.server_in is.answer)
          (sym coding) is.down;
      told =
          is.told ∙ ap (λ l. h.to_client ++ l) (sym (take-append-drop count p.down.out)) ∙ sym (append_assoc h.to_client front (drop count p.down.out))
          ∙ ap (λ l. (h.to_client ++ front) ++ l) (sym out);
      unreached = is.unreached;
      grants = is.grants;
      fair = is.fair;
      tries = is.tries;
      framed = is.framed;
      ended = is.ended;
      well = is.well;
      agreed = is.agreed;
      adds = is.adds;
      leave = λ none.
          let was = still none in
          subst (λ (l : List ℕ). HasLeave q.leave_left (leave_text p.view) (h.to_client ++ front) l) (sym out)
          (subst (λ (n : ℕ). HasLeave n (leave_text p.view) (h.to_client ++ front) (drop count p.down.out)) (sym was.2)
          (leave_went count p.leave_left was.1 (is.leave was.0)));
      looked = is.looked;
    })

-- more came of the server, and is held
down_held_more : (says : Persistence) (kept : Bool) (method : List ℕ) (framed : Bool) (phase : Down) (c : Coding) (held came given bytes : List ℕ)
    → IsDown says kept method framed phase c held came given → IsDown says kept method framed phase c (held ++ bytes) (came ++ bytes) given
down_held_more says kept method framed (Heads count) c held came given bytes a = record {
  interims = a.interims;
  are = a.are;
  count_is = a.count_is;
  came_is = ap (λ l. l ++ bytes) a.came_is ∙ append_assoc (print_heads a.interims) held bytes;
  given_is = a.given_is;
}
down_held_more says kept method framed Body c held came given bytes a =
    let heads = print_heads a.interims in
    let head = print_response a.head in
    record {
      interims = a.interims;
      are = a.are;
      head = a.head;
      plan = a.plan;
      final = a.final;
      delimits = a.delimits;
      keeps = a.keeps;
      taken = a.taken;
      sent_on = a.sent_on;
      feeds = a.feeds;
      came_is =
          ap (λ l. l ++ bytes) a.came_is ∙ append_assoc heads (head ++ (a.taken ++ held)) bytes
          ∙ ap (λ l. heads ++ l) (append_assoc head (a.taken ++ held) bytes ∙ ap (λ l. head ++ l) (append_assoc a.taken held bytes));
      given_is = a.given_is;
    }

not_looked : (a b c : Bool) → (a || (b || c)) ≡ false → (a ≡ false) × (b ≡ false)
not_looked true b c is = cc
not_looked false true c is = cc
not_looked false false c is = (refl, refl)

pub forwarding_held : (p q : Forwarding) (h : ExchangeHistory) (bytes : List ℕ) → IsForwarding p h → q.down_held.items ≡ p.down_held.items ++ bytes
    → (count : ℕ) → q.looks ≡ looks_again p.looks bytes count → q ≡ record p { down_held = q.down_held; looks = q.looks } → IsForwarding q (server_came h bytes)
forwarding_held p q h bytes is held all looks same =
    subst (λ (r : Forwarding). IsForwarding r (server_came h bytes)) (sym same) (record {
      behind = is.behind;
      asked = is.asked;
      request = is.request;
      up = is.up;
      sent = is.sent;
      answer = is.answer;
      down = subst (λ (l : List ℕ). IsDown p.says p.kept p.view.method (framed_for p.view.version) p.phase p.down.coding l (h.server_in
          ++ bytes) is.answer) (sym held)
          (down_held_more p.says p.kept p.view.method (framed_for p.view.version) p.phase p.down.coding p.down_held.items h.server_in is.answer bytes is.down);
      told = is.told;
      unreached = is.unreached;
      grants = is.grants;
      fair = is.fair;
      tries = is.tries;
      framed = is.framed;
      ended = is.ended;
      well = is.well;
      agreed = is.agreed;
      adds = is.adds;
      leave = is.leave;
      looked = λ dry count at.
          let before = not_looked p.looks (has_feed bytes) (not (nat_lt all 16384)) (sym looks ∙ dry) in
          let awaits = is.looked before.0 count at in
          subst AwaitsAnswerHead (sym held) (record {
            none = no_answer_yet p.down_held.items bytes awaits.none before.1;
            may = may_still p.down_held.items bytes awaits.may before.1;
          });
    })

as_before : (looks : Bool) → looks ≡ looks_again looks [] 0
as_before true = refl
as_before false = refl

-- no byte was taken
pub forwarding_held_none : (p q : Forwarding) (h : ExchangeHistory) → IsForwarding p h → q.down_held.items ≡ p.down_held.items → q.looks ≡ p.looks
    → q ≡ record p { down_held = q.down_held; looks = q.looks } → IsForwarding q h
forwarding_held_none p q h is held looks same =
    subst (λ (g : ExchangeHistory). IsForwarding q g) (ap (λ (l : List ℕ). record h { server_in = l }) (append-nil h.server_in))
    (forwarding_held p q h [] is (held ∙ sym (append-nil p.down_held.items)) 0 (looks ∙ as_before p.looks) same)

-- why no request begins what came
pub look_refused : (why : HeadRefusal) (fault : Fault) (bytes : List ℕ) → Tells bytes (Seen why) → fault ≡ of_refusal why → IsNoRequest fault bytes
look_refused HeadFault fault bytes never is = subst (λ (f : Fault). IsNoRequest f bytes) (sym is) never
look_refused NoMemory fault bytes never is = subst (λ (f : Fault). IsNoRequest f bytes) (sym is) tt

pub look_framed_badly : (v : Request) (seen : List ℕ) (len : ℕ) → BeginsWith seen v len → request_framing v ≡ None → FramedBadly seen
look_framed_badly v seen len begins none = record {
  head = begins.head;
  rest = begins.rest;
  is = request_alone begins.head begins.stands;
  input_is = begins.stands.0.reads.1;
  no_framing = ap request_framing (sym begins.request) ∙ none;
}

pub look_lacks : (why : HeadRefusal) (fault : Fault) (bytes : List ℕ) → Tells bytes (Seen why) → fault ≡ of_refusal why → LacksHead fault bytes
look_lacks HeadFault fault bytes never is = subst (λ (f : Fault). LacksHead f bytes) (sym is) never
look_lacks NoMemory fault bytes never is = subst (λ (f : Fault). LacksHead f bytes) (sym is) tt

-- what came behind a head is none of its bodies
pub forwarding_breaks : (p : Forwarding) (h : ExchangeHistory) → (is : IsForwarding p h) → is_bad p.up.coding ≡ true → BreaksBody p.view is.behind
forwarding_breaks p h is broken =
    let u = is.up in
    record {
      framing = u.framing;
      framed = u.framed;
      breaks = λ more.
          subst (λ (l : List ℕ). LacksBody u.framing l)
          (ap (λ l. l ++ (p.up_held.items ++ more)) (append-nil u.taken) ∙ sym (append_assoc u.taken p.up_held.items more)
          ∙ ap (λ l. l ++ more) (sym u.came_is))
          (run_bad u.framing true ((u.taken, u.sent_on) ∷ []) p.up.coding (p.up.coding, u.feeds, refl) (p.up_held.items ++ more) broken);
    }

pub forwarding_answers_badly : (p : Forwarding) (h : ExchangeHistory) → IsForwarding p h → p.phase ≡ Body → is_bad p.down.coding ≡ true → BreaksAnswer p.view.method h.server_in
forwarding_answers_badly p h is body broken =
    let a = down_as {p = p} {h = h} Body body is in
    record {
      interims = a.interims;
      are = a.are;
      head = a.head;
      plan = a.plan;
      final = a.final;
      behind = a.taken ++ p.down_held.items;
      input_is = a.came_is;
      breaks = λ more.
          subst (λ (l : List ℕ). LacksBody a.plan.body l)
          (ap (λ l. l ++ (p.down_held.items ++ more)) (append-nil a.taken) ∙ sym (append_assoc a.taken p.down_held.items more))
          (run_bad a.plan.body (framed_for p.view.version) ((a.taken, a.sent_on) ∷ []) p.down.coding (p.down.coding, a.feeds, refl)
          (p.down_held.items ++ more) broken);
    }
