-- Ends, errors, times and refusals.
use Rattle.std.proofs.Common.{◌≡◌, ◌∙◌, ℕ, ◌≢◌, inl, inr, true, false, List, [], ◌∷◌, ◌++◌, take, drop, refl, sym, ap, append_assoc, subst}
use Rattle.std.proofs.lemmas.List.{take-append-drop, map-append}
use Rattle.std.specs.List.{AllByRecursion}
use Rattle.base_lists.proofs.Fronts.{front_nil, front_as}
use Rattle.base_lists.proofs.Members.{all_append}
use Rattle.http_texts.specs.Replies.{refusal_text}
use Rattle.http_texts.specs.declared.fault.Fault.{Fault}
use Rattle.http_texts.specs.declared.fault.Fault.TheVariants as Faulty
use Rattle.http_texts.specs.declared.refusals.Code.{Code}
use Rattle.http_texts.specs.declared.refusals.Code.TheVariants.{BadGateway, BadRequest, Unavailable}
use Rattle.req_view.specs.Request.{Request}
use Rattle.base_verdict.specs.declared.Ending.TheVariants.{Done}
use Rattle.exchange_machine.specs.Answerings.{TellsAnswer}
use Rattle.exchange_machine.specs.Headline.{AreTries, ClientText, IsFair, Sound, ToServer}
use Rattle.exchange_machine.specs.Headline.ArePosted.{all_posted}
use Rattle.exchange_machine.specs.Headline.AreTries.{none as untried, of_request as some_tries}
use Rattle.exchange_machine.specs.Headline.ToServer.{nothing, of_request}
use Rattle.exchange_machine.specs.Headline.ClientText.{silent, refused_unread, late, starved, unserved, refused, answered}
use Rattle.exchange_machine.specs.Histories.{ExchangeHistory, Post, nothing_yet, client_came, client_got, signed, passes_of, posted, reached_by}
use Rattle.exchange_machine.specs.Reasons.{HasEnded, Shows, NoneFollows, LacksAnswer, Reason}
use Rattle.exchange_machine.specs.Reasons.Reason.{of_sign, bad_answer, broken_answer, broken_request}
use Rattle.exchange_machine.specs.Reasons.NoneFollows.{never, unplanned, ninth}
use Rattle.exchange_machine.specs.Findings.{NoneStands}
use Rattle.exchange_machine.specs.Settlings.{IsSettling}
use Rattle.exchange_machine.specs.Stages.{HistoryIsFresh, AwaitsAnswerHead, IsUnread, IsAsking, IsWaiting, IsDialing, IsForwarding, IsLeaving, IsTelling, IsOver}
use Rattle.exchange_machine.specs.declared.sides.Down.TheVariants.{Heads}
use Rattle.exchange_machine.specs.declared.signs.Sign.{Sign}
use Rattle.exchange_machine.specs.declared.signs.Sign.TheVariants.{ClientOver, NoMemory, ServerEnded}
use Rattle.exchange_machine.specs.declared.asking.Asking.{Asking}
use Rattle.exchange_machine.specs.declared.waiting.Waiting.{Waiting}
use Rattle.exchange_machine.specs.declared.dialing.Dialing.{Dialing}
use Rattle.exchange_machine.specs.declared.forwarding.Forwarding.{Forwarding}
use Rattle.exchange_machine.specs.declared.leaving.Leaving.{Leaving}
use Rattle.exchange_machine.specs.declared.settling.Settling.{Settling}
use Rattle.exchange_machine.specs.declared.telling.Telling.{Telling}
use Rattle.exchange_machine.specs.Wholes.{Whole, Ends, EndsClean, told}
use Rattle.exchange_machine.proofs.SideLemmas.{forwarding_ends, down_as}
use Rattle.exchange_machine.proofs.HeadEnds.{has_feed, no_head_yet, no_head_at_all, may_still, may_at_all}
use Rattle.exchange_machine.proofs.SettlingLemmas.{clean_took, got_client, got_server, got_tried}

-- one sign more
pub shows_more : (signs : List Sign) (s t : Sign) → Shows signs s → Shows (signs ++ t ∷ []) s
shows_more signs s t is = record {
  before = is.before;
  behind = is.behind ++ t ∷ [];
  is = ap (λ l. l ++ t ∷ []) is.is
      ∙ append_assoc is.before (s ∷ is.behind) (t ∷ []);
}

pub shows_last : (signs : List Sign) (s : Sign) → Shows (signs ++ s ∷ []) s
shows_last signs s = record { before = signs; behind = []; is = refl }

pub ended_more : (signs : List Sign) (t : Sign) → HasEnded signs → HasEnded (signs ++ t ∷ [])
ended_more signs t is = record { sign = is.sign; shows = shows_more signs is.sign t is.shows; tells = is.tells }

-- a whole answer doesn't look at more signs
tells_more : (signs : List Sign) (client_in server_in text : List ℕ) (t : Sign) → TellsAnswer signs client_in server_in text
    → TellsAnswer (signs ++ t ∷ []) client_in server_in text
tells_more signs client_in server_in text t is = record {
  says = is.says;
  request = is.request;
  behind = is.behind;
  asked = is.asked;
  came = is.came;
  extra = is.extra;
  came_is = is.came_is;
  given = is.given;
  answered = is.answered;
  text_is = is.text_is;
  ends = λ e. shows_more signs ServerEnded t (is.ends e);
}

reason_more : (signs : List Sign) (r : Request) (behind answer : List ℕ) (code : Code) (t : Sign) → Reason signs r behind answer code
    → Reason (signs ++ t ∷ []) r behind answer code
reason_more signs r behind answer code t (of_sign s c shows is) = of_sign s code (shows_more signs s t shows) is
reason_more signs r behind answer code t (bad_answer lacks) = bad_answer lacks
reason_more signs r behind answer code t (broken_answer breaks) = broken_answer breaks
reason_more signs r behind answer code t (broken_request breaks) = broken_request breaks

signed_client : (h : ExchangeHistory) (s : Sign) (text : List ℕ) → ClientText h text → ClientText (signed h s) text
signed_client h s text silent = silent
signed_client h s text (refused_unread fault other why) = refused_unread fault other why
signed_client h s text (late shows none grants) = late (shows_more h.signs ClientOver s shows) none grants
signed_client h s text (starved shows grants) = starved (shows_more h.signs NoMemory s shows) grants
signed_client h s text (unserved r behind code asked why) = unserved r behind code asked (reason_more h.signs r behind h.server_in code s why)
signed_client h s text (refused r behind code asked why) = refused r behind code asked (reason_more h.signs r behind h.server_in code s why)
signed_client h s text (answered says r behind t asked part) = answered says r behind t asked part

signed_server : (h : ExchangeHistory) (s : Sign) → ToServer h → ToServer (signed h s)
signed_server h s (nothing none) = nothing none
signed_server h s (of_request r behind asked part) = of_request r behind asked part

signed_tried : (h : ExchangeHistory) (s : Sign) → AreTries h → AreTries (signed h s)
signed_tried h s (untried is) = untried is
signed_tried h s (some_tries r behind asked tries) = some_tries r behind asked tries

fresh_signed : (h : ExchangeHistory) (s : Sign) → HistoryIsFresh h → HistoryIsFresh (signed h s)
fresh_signed h s is = record {
  unsent = record { server = is.unsent.server; answer = is.unsent.answer };
  silent = is.silent;
  grants = is.grants;
  posts = is.posts;
  untried = is.untried;
}

pub asking_signed : (a : Asking) (h : ExchangeHistory) (s : Sign) → IsAsking a h → IsAsking a (signed h s)
asking_signed a h s is = record { fresh = fresh_signed h s is.fresh; held = is.held; none = is.none; may = is.may }

pub waiting_signed : (w : Waiting) (h : ExchangeHistory) (s : Sign) → IsWaiting w h → IsWaiting w (signed h s)
waiting_signed w h s is = record {
  unsent = record { server = is.unsent.server; answer = is.unsent.answer };
  asked = record { asked = is.asked.asked; framed = is.asked.framed };
  silent = is.silent;
  grants = is.grants;
  fair = is.fair;
  tries = is.tries;
}

pub dialing_signed : (d : Dialing) (h : ExchangeHistory) (s : Sign) → IsDialing d h → IsDialing d (signed h s)
dialing_signed d h s is = record {
  unsent = record { server = is.unsent.server; answer = is.unsent.answer };
  asked = record { asked = is.asked.asked; framed = is.asked.framed };
  silent = is.silent;
  grants = is.grants;
  fair = is.fair;
  tries = is.tries;
  unreached = is.unreached;
}

pub forwarding_signed : (p : Forwarding) (h : ExchangeHistory) (s : Sign) → IsForwarding p h → IsForwarding p (signed h s)
forwarding_signed p h s is = record {
  behind = is.behind;
  asked = is.asked;
  request = is.request;
  up = is.up;
  sent = is.sent;
  answer = is.answer;
  down = is.down;
  told = is.told;
  unreached = is.unreached;
  grants = is.grants;
  fair = is.fair;
  tries = is.tries;
  framed = is.framed;
  ended = λ on. ended_more h.signs s (is.ended on);
  well = λ on. shows_more h.signs ServerEnded s (is.well on);
  agreed = is.agreed;
  adds = is.adds;
  leave = is.leave;
  looked = is.looked;
}

-- nor does what is left of an exchange whose messages were whole
ends_signed : (h : ExchangeHistory) (s : Sign) (w : Whole) (behind out unsent extra : List ℕ) → Ends h w behind out unsent extra
    → Ends (signed h s) w behind out unsent extra
ends_signed h s w behind out unsent extra is = record {
  is = is.is;
  came = is.came;
  tells = is.tells;
  sends = is.sends;
  posted = record { earlier = is.posted.earlier; post = is.posted.post; posts_are = is.posted.posts_are; same = is.posted.same };
  answers = is.answers;
}

clean_signed : (h : ExchangeHistory) (s : Sign) (out : List ℕ) → EndsClean h out → EndsClean (signed h s) out
clean_signed h s out is = record {
  whole = is.whole;
  behind = is.behind;
  ends = ends_signed h s is.whole is.behind out [] [] is.ends;
  asks = is.asks;
  keeps = is.keeps;
  bare = is.bare;
}

pub settling_signed : (t : Settling) (h : ExchangeHistory) (s : Sign) → IsSettling t h → IsSettling t (signed h s)
settling_signed t h s is = record {
  whole = is.whole;
  unsent = is.unsent;
  extra = is.extra;
  ends = ends_signed h s is.whole t.behind.items t.out.out is.unsent is.extra is.ends;
  left_open = is.left_open;
  clean = is.clean;
  server = signed_server h s is.server;
  client = signed_client h s (told is.whole) is.client;
  grants = is.grants;
  fair = is.fair;
  tried = signed_tried h s is.tried;
}

pub leaving_signed : (l : Leaving) (h : ExchangeHistory) (s : Sign) → IsLeaving l h → IsLeaving l (signed h s)
leaving_signed l h s is = record {
  server = signed_server h s is.server;
  text = is.text;
  client = signed_client h s is.text is.client;
  told = is.told;
  whole = λ on. tells_more h.signs h.client_in h.server_in is.text s (is.whole on);
  clean = λ on. clean_signed h s l.out.out (is.clean on);
  grants = is.grants;
  fair = is.fair;
  tried = signed_tried h s is.tried;
}

pub telling_signed : (t : Telling) (h : ExchangeHistory) (s : Sign) → IsTelling t h → IsTelling t (signed h s)
telling_signed t h s is = record {
  server = signed_server h s is.server;
  text = is.text;
  client = signed_client h s is.text is.client;
  told = is.told;
  grants = is.grants;
  fair = is.fair;
  tried = signed_tried h s is.tried;
}

pub over_signed : (h : ExchangeHistory) (s : Sign) → IsOver h → IsOver (signed h s)
over_signed h s is = record {
  server = signed_server h s is.server;
  client = record { text = is.client.text; is = signed_client h s is.client.text is.client.is; front = is.client.front };
  grants = is.grants;
  fair = is.fair;
  tried = signed_tried h s is.tried;
}

-- more of the client came
fresh_came : (h : ExchangeHistory) (bytes : List ℕ) → HistoryIsFresh h → HistoryIsFresh (client_came h bytes)
fresh_came h bytes is = record {
  unsent = record { server = is.unsent.server; answer = is.unsent.answer };
  silent = is.silent;
  grants = is.grants;
  posts = is.posts;
  untried = is.untried;
}

-- which ends no line
pub asking_dry : (a b : Asking) (h : ExchangeHistory) (bytes : List ℕ) → IsAsking a h → b.held.items ≡ a.held.items ++ bytes → has_feed bytes ≡ false
    → IsAsking b (client_came h bytes)
asking_dry a b h bytes is held dry = record {
  fresh = fresh_came h bytes is.fresh;
  held = ap (λ l. l ++ bytes) is.held ∙ sym held;
  none = no_head_yet h.client_in bytes is.none dry;
  may = may_still h.client_in bytes is.may dry;
}

-- and what then is held
pub asking_wet : (a : Asking) (h : ExchangeHistory) (bytes held : List ℕ) → IsAsking a h → held ≡ a.held.items ++ bytes
    → HistoryIsFresh (client_came h bytes) × (h.client_in ++ bytes ≡ held)
asking_wet a h bytes held is same = (fresh_came h bytes is.fresh, ap (λ l. l ++ bytes) is.held ∙ sym same)

pub asking_new : (a : Asking) → a.held.items ≡ [] → IsAsking a nothing_yet
asking_new a none = record {
  fresh = record { unsent = record { server = refl; answer = refl }; silent = refl; grants = refl; posts = refl; untried = refl };
  held = sym none;
  none = no_head_at_all;
  may = may_at_all;
}

-- some of what was to be told went out
took : (to rest next text : List ℕ) (count : ℕ) → text ≡ to ++ rest → next ≡ drop count rest → text ≡ (to ++ take count rest) ++ next
took to rest next text count is left =
    is ∙ ap (λ l. to ++ l) (sym (take-append-drop count rest)) ∙ sym (append_assoc to (take count rest) (drop count rest))
    ∙ ap (λ l. (to ++ take count rest) ++ l) (sym left)

pub leaving_took : (l m : Leaving) (h : ExchangeHistory) (count : ℕ) → IsLeaving l h → m.out.out ≡ drop count l.out.out → m.whole ≡ l.whole → m.clean ≡ l.clean
    → IsLeaving m (client_got h (take count l.out.out))
leaving_took l m h count is left same also = record {
  server = got_server h (take count l.out.out) is.server;
  text = is.text;
  client = got_client h (take count l.out.out) is.text is.client;
  told = took h.to_client l.out.out m.out.out is.text count is.told left;
  whole = λ on. is.whole (sym same ∙ on);
  clean = λ on. clean_took h l.out.out m.out.out count (is.clean (sym also ∙ on)) left;
  grants = is.grants;
  fair = is.fair;
  tried = got_tried h (take count l.out.out) is.tried;
}

pub telling_took : (l m : Telling) (h : ExchangeHistory) (count : ℕ) → IsTelling l h → m.rest.now ≡ drop count l.rest.now
    → IsTelling m (client_got h (take count l.rest.now))
telling_took l m h count is left = record {
  server = got_server h (take count l.rest.now) is.server;
  text = is.text;
  client = got_client h (take count l.rest.now) is.text is.client;
  told = took h.to_client l.rest.now m.rest.now is.text count is.told left;
  grants = is.grants;
  fair = is.fair;
  tried = got_tried h (take count l.rest.now) is.tried;
}

-- refusals before a server was reached
fresh_told : (t : Telling) (h : ExchangeHistory) (code : Code) → HistoryIsFresh h → ClientText h (refusal_text code) → t.rest.now ≡ refusal_text code → IsTelling t h
fresh_told t h code is text rest = record {
  server = nothing is.unsent.server;
  text = refusal_text code;
  client = text;
  told = sym rest ∙ ap (λ l. l ++ t.rest.now) (sym is.silent);
  grants = is.grants ∙ sym (ap passes_of is.posts);
  fair = subst (λ (l : List Post). AllByRecursion IsFair l) (sym is.posts) tt;
  tried = untried is.untried;
}

pub asking_late : (a : Asking) (t : Telling) (h : ExchangeHistory) → IsAsking a h → Shows h.signs ClientOver → t.rest.now ≡ refusal_text BadRequest → IsTelling t h
asking_late a t h is shows rest = fresh_told t h BadRequest is.fresh (late shows is.none is.fresh.grants) rest

pub waiting_refused : (w : Waiting) (t : Telling) (h : ExchangeHistory) (code : Code) → IsWaiting w h → Reason h.signs w.asked.view w.asked.held.items h.server_in code
    → t.rest.now ≡ refusal_text code → IsTelling t h
waiting_refused w t h code is why rest = record {
  server = nothing is.unsent.server;
  text = refusal_text code;
  client = unserved w.asked.view w.asked.held.items code is.asked.asked why;
  told = sym rest ∙ ap (λ l. l ++ t.rest.now) (sym is.silent);
  grants = is.grants;
  fair = is.fair;
  tried = some_tries w.asked.view w.asked.held.items is.asked.asked is.tries;
}

pub fault_told : (t : Telling) (fault : Fault) (h : ExchangeHistory) → fault ≢ Faulty.NoMemory → IsUnread fault h → t.rest.now ≡ refusal_text BadRequest → IsTelling t h
fault_told t fault h other is rest = fresh_told t h BadRequest is.fresh (refused_unread fault other is.reason) rest

pub starved_told : (t : Telling) (fault : Fault) (h : ExchangeHistory) → IsUnread fault h → t.rest.now ≡ refusal_text Unavailable → IsTelling t (signed h NoMemory)
starved_told t fault h is rest =
    fresh_told t (signed h NoMemory) Unavailable (fresh_signed h NoMemory is.fresh) (starved (shows_last h.signs NoMemory) is.fresh.grants) rest

-- what is left at any time
pub asking_over : (a : Asking) (h : ExchangeHistory) → IsAsking a h → IsOver h
asking_over a h is =
    let fresh = is.fresh in
    record {
      server = nothing fresh.unsent.server;
      client = record { text = []; is = silent; front = front_as (sym fresh.silent) refl (front_nil []) };
      grants = fresh.grants ∙ sym (ap passes_of fresh.posts);
      fair = subst (λ (l : List Post). AllByRecursion IsFair l) (sym fresh.posts) tt;
      tried = untried fresh.untried;
    }

pub waiting_over : (w : Waiting) (h : ExchangeHistory) → IsWaiting w h → IsOver h
waiting_over w h is = record {
  server = nothing is.unsent.server;
  client = record { text = []; is = silent; front = front_as (sym is.silent) refl (front_nil []) };
  grants = is.grants;
  fair = is.fair;
  tried = some_tries w.asked.view w.asked.held.items is.asked.asked is.tries;
}

pub leaving_over : (l : Leaving) (h : ExchangeHistory) → IsLeaving l h → IsOver h
leaving_over l h is = record {
  server = is.server;
  client = record { text = is.text; is = is.client; front = record { rest = l.out.out; is = is.told } };
  grants = is.grants;
  fair = is.fair;
  tried = is.tried;
}

pub telling_over : (t : Telling) (h : ExchangeHistory) → IsTelling t h → IsOver h
telling_over t h is = record {
  server = is.server;
  client = record { text = is.text; is = is.client; front = record { rest = t.rest.now; is = is.told } };
  grants = is.grants;
  fair = is.fair;
  tried = is.tried;
}

pub settling_over : (s : Settling) (h : ExchangeHistory) → IsSettling s h → IsOver h
settling_over s h is = record {
  server = is.server;
  client = record { text = told is.whole; is = is.client; front = record { rest = s.out.out; is = is.ends.tells } };
  grants = is.grants;
  fair = is.fair;
  tried = is.tried;
}

pub over_sound : (h : ExchangeHistory) → IsOver h → Sound h
over_sound h is = record { server = is.server; client = is.client; once = all_posted is.grants; fair = is.fair; tried = is.tried }

-- the client has gone
pub forwarding_left : (p : Forwarding) (h : ExchangeHistory) → IsForwarding p h → IsOver (posted h p.pass Done)
forwarding_left p h is =
    leaving_over (record { out = p.down; whole = false; clean = false }) (posted h p.pass Done)
    (forwarding_ends p h Done false false is (λ e. absurd cc) (λ on. absurd cc) (λ on. absurd cc))

pub dialing_left : (d : Dialing) (h : ExchangeHistory) → IsDialing d h → IsOver (posted h d.pass Done)
dialing_left d h is = record {
  server = nothing is.unsent.server;
  client = record { text = []; is = silent; front = front_as (sym is.silent) refl (front_nil []) };
  grants = is.grants ∙ sym (map-append (λ (q : Post). q.pass) h.posts (record { pass = d.pass; ending = Done; reached = reached_by h } ∷ []));
  fair = all_append IsFair h.posts (record { pass = d.pass; ending = Done; reached = reached_by h } ∷ []) is.fair ((λ e. absurd cc), tt);
  tried = some_tries d.waiting.asked.view d.waiting.asked.held.items is.asked.asked is.tries;
}

-- no answer follows the heads that came
pub forwarding_lacks : (p : Forwarding) (h : ExchangeHistory) (count : ℕ) → IsForwarding p h → p.phase ≡ Heads count → NoneFollows p.view.method count p.down_held.items
    → LacksAnswer p.view.method h.server_in
forwarding_lacks p h count is phase none =
    let at = down_as {p = p} {h = h} (Heads count) phase is in
    record {
      interims = at.interims;
      are = at.are;
      held = p.down_held.items;
      input_is = at.came_is;
      lacks = subst (λ (n : ℕ). NoneFollows p.view.method n p.down_held.items) at.count_is none;
    }

pub none_follows : (method : List ℕ) (count : ℕ) (held : List ℕ) (why : Fault) → NoneStands method count held why → why ≢ Faulty.NoMemory → NoneFollows method count held
none_follows method count held Faulty.Head none other = never none
none_follows method count held Faulty.Framing none other =
    elim none.role [
      | inl unread ↦ unplanned none.answer none.len none.says unread
      | inr more ↦ ninth none.answer none.len none.says more.1 more.2
    ]
none_follows method count held Faulty.NoMemory none other = absurd (other refl)
none_follows method count held Faulty.Read none other = absurd none
none_follows method count held Faulty.Write none other = absurd none
none_follows method count held Faulty.Turns none other = absurd none
none_follows method count held Faulty.Closed none other = absurd none

pub head_refused : (p : Forwarding) (h : ExchangeHistory) (count : ℕ) (held method : List ℕ) (why : Fault) → method ≡ p.view.method → held ≡ p.down_held.items
    → IsForwarding p h → p.phase ≡ Heads count
    → NoneStands method count held why → why ≢ Faulty.NoMemory → LacksAnswer p.view.method h.server_in
head_refused p h count held method why same all is phase none other =
    forwarding_lacks p h count is phase
    (subst (λ (l : List ℕ). NoneFollows p.view.method count l) all (subst (λ (m : List ℕ). NoneFollows m count held) same (none_follows method count held why none other)))

pub ended_reason : (signs : List Sign) (r : Request) (behind answer : List ℕ) → HasEnded signs → Reason signs r behind answer BadGateway
ended_reason signs r behind answer is = of_sign is.sign BadGateway is.shows is.tells

pub forwarding_ended : (p q : Forwarding) (h : ExchangeHistory) → IsForwarding p h → HasEnded h.signs → (q.well ≡ true → Shows h.signs ServerEnded)
    → q ≡ record p { ended = true; well = q.well } → IsForwarding q h
forwarding_ended p q h is ends ends_well same = subst (λ (r : Forwarding). IsForwarding r h) (sym same) (record {
  behind = is.behind;
  asked = is.asked;
  request = is.request;
  up = is.up;
  sent = is.sent;
  answer = is.answer;
  down = is.down;
  told = is.told;
  unreached = is.unreached;
  grants = is.grants;
  fair = is.fair;
  tries = is.tries;
  framed = is.framed;
  ended = λ on. ends;
  well = ends_well;
  agreed = is.agreed;
  adds = is.adds;
  leave = is.leave;
  looked = is.looked;
})

pub forwarding_marked : (p q : Forwarding) (h : ExchangeHistory) → IsForwarding p h → (q.looks ≡ false → (count : ℕ) → p.phase ≡ Heads count → AwaitsAnswerHead p.down_held.items)
    → q ≡ record p { cut = q.cut; fresh = q.fresh; looks = q.looks; dialing = q.dialing } → IsForwarding q h
forwarding_marked p q h is looked same = subst (λ (r : Forwarding). IsForwarding r h) (sym same) (record {
  behind = is.behind;
  asked = is.asked;
  request = is.request;
  up = is.up;
  sent = is.sent;
  answer = is.answer;
  down = is.down;
  told = is.told;
  unreached = is.unreached;
  grants = is.grants;
  fair = is.fair;
  tries = is.tries;
  framed = is.framed;
  ended = is.ended;
  well = is.well;
  agreed = is.agreed;
  adds = is.adds;
  leave = is.leave;
  looked = looked;
})
